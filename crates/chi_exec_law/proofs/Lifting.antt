-- A machine over another goes where the other goes, with what is beside as it was.
use Rattle.std.proofs.Common.{◌≡◌, ℕ, zero, suc, Some, refl, ap, ◌∙◌}
use Rattle.chi_core.specs.Answer.{Answer, Gives, Fails, Spent, Amiss}
use Rattle.chi_exec_law.specs.Runs.{End, Rests, Faults, Spends, Next, Goes, Ends, Stuck, Goal, go_on, runs, Reaches, Leads, stays, goes, Brings, above}
use Rattle.chi_exec_law.proofs.Going.{leads_same, leads_step, leads_on, reaches_step, reaches_on}

module _ {S R B Q : Type 0} (step : S → Next S R) (itself : R → B → Next (S × B) Q) where
  -- a step of the machine over the other
  abbrev pub wide : S × B → Next (S × B) Q
  wide s = above itself (step s.0) s.1

  pub lifted : (s t : S) (b : B) → Leads step s t → Leads wide (s, b) (t, b)
  lifted _ _ b (stays s) = stays (s, b)
  lifted _ _ b (goes s t u h l) = goes (s, b) (t, b) (u, b) (ap (λ n. above itself n b) h) (lifted t u b l)

  -- where the other rests, the machine over it acts itself; and it ends as the other fails
  abbrev pub Arrives : S → B → End R → Type 0
  Arrives s b (Rests r) = (t : S) × (step t ≡ Ends (Rests r)) × Leads wide (s, b) (t, b) × (wide (t, b) ≡ itself r b)
  Arrives s b (Faults kind) = Reaches wide (s, b) (Faults kind)
  Arrives s b Spends = Reaches wide (s, b) Spends

  over_one : (s t : S) (b : B) (e : End R) → step s ≡ Goes t → Arrives t b e → Arrives s b e
  over_one s t b (Rests r) h a = (a.0, a.1, leads_on wide (s, b) (t, b) (a.0, b) (leads_step wide (s, b) (t, b) (ap (λ n. above itself n b) h)) a.2, a.3)
  over_one s t b (Faults kind) h a = reaches_on wide (s, b) (t, b) (Faults kind) (leads_step wide (s, b) (t, b) (ap (λ n. above itself n b) h)) a
  over_one s t b Spends h a = reaches_on wide (s, b) (t, b) Spends (leads_step wide (s, b) (t, b) (ap (λ n. above itself n b) h)) a

  at_once : (s : S) (b : B) (e : End R) → step s ≡ Ends e → Arrives s b e
  at_once s b (Rests r) h = (s, h, leads_same wide (s, b), ap (λ n. above itself n b) h)
  at_once s b (Faults kind) h = reaches_step wide (s, b) (Faults kind) (ap (λ n. above itself n b) h)
  at_once s b Spends h = reaches_step wide (s, b) Spends (ap (λ n. above itself n b) h)

  by_next : (n : ℕ) (s : S) (b : B) (e : End R) → ((t : S) → runs step n t ≡ Some e → Arrives t b e) → (o : Next S R) → step s ≡ o → go_on step o (runs step n) ≡ Some e → Arrives s b e
  by_next n s b e next (Goes t) h r = over_one s t b e h (next t r)
  by_next n s b e next (Ends f) h r = let same : f ≡ e = cc in at_once s b e (h ∙ ap (λ f. Ends f) same)
  by_next n s b e next Stuck h r = absurd (cc)

  by_steps : (n : ℕ) (s : S) (b : B) (e : End R) → runs step n s ≡ Some e → Arrives s b e
  unfolding runs
  by_steps zero s b e h = absurd (cc)
  by_steps (suc n) s b e h = by_next n s b e (λ t r. by_steps n t b e r) (step s) refl h

  -- an end of a run of the other, for the machine over it
  pub arrived : (s : S) (b : B) (e : End R) → Reaches step s e → Arrives s b e
  arrived s b e r = by_steps r.steps s b e r.is

  -- a goal, with what is beside as it was
  abbrev pub Beside : {A : Type 0} → Goal S A → B → Goal (S × B) A
  Beside goal b x view s = goal x view s.0 × (s.1 ≡ b)

  pub brought : {A : Type 0} (most : ℕ) (s : S) (b : B) (goal : Goal S A) (a : Answer A) → Brings step most s goal a → Brings wide most (s, b) (Beside goal b) a
  brought most s b goal (Gives x view) r = (r.0, record { there = (r.1.there, b); leads = lifted s r.1.there b r.1.leads; holds = (r.1.holds, refl) })
  brought most s b goal (Fails kind) r = arrived s b (Faults kind) r
  brought most s b goal Spent r = arrived s b Spends r
  brought most s b goal Amiss r = tt
