-- A run of an instance goes where the machine of expressions and functions goes, and on by its own deeds.
use Rattle.std.proofs.Common.{◌≡◌, ℕ, ◌≤◌, List, [], Option, Some, None, Bool, true, false, refl, sym, ap, subst, ◌∙◌}
use Rattle.std.specs.Prelude.{slice_get}
use Rattle.chi_value.specs.declared.value.Value.{Value}
use Rattle.chi_core.specs.declared.view.View.{View}
use Rattle.chi_core.specs.Answer.{Answer, Gives, Fails, Spent, Amiss, Does, then_do}
use Rattle.chi_core.proofs.Used as used
use Rattle.chi_code.specs.declared.instr.Instr.{Instr}
use Rattle.chi_code.specs.ExpressionLayout.{Has}
use Rattle.chi_exec_law.specs.Runs.{End, Goes, Ends, taken, Goal, Just, Reaches, Leads, Brings, above}
use Rattle.chi_exec_law.specs.State.{State, state, Frame}
use Rattle.chi_exec_law.specs.Instructions.{by_truth}
use Rattle.chi_exec_law.specs.Machine.{class_of, past_work, stops_at, step}
use Rattle.chi_exec_law.proofs.Going.{leads_step, reaches_step, then_brings, taken_brings}
use Rattle.chi_exec_law.proofs.Lifting as lifting
use Rattle.chi_exec_law.proofs.Moving.{rests_at}
use Rattle.chi_machine_laws.specs.Deeds.{Brought, Rest, Within, deed, acts_itself, setting, moves}

-- the first of two things that are done before a third
pub in_order : {A B C : Type 0} (a : Answer A) (f : A → Does B) (g : B → Does C) → then_do a (λ x now. then_do (f x now) g) ≡ then_do (then_do a f) g
in_order (Gives x view) f g = refl
in_order (Fails kind) f g = refl
in_order Spent f g = refl
in_order Amiss f g = refl

module _ (w : Within) where
  -- what that machine does, a run does with what was brought

  pub lift : (s t : State) (b : Brought) → Leads (step (setting w)) s t → Leads (moves w) (s, b) (t, b)
  unfolding moves
  lift s t b l = lifting.lifted (step (setting w)) (acts_itself w) s t b l

  pub beside : {A : Type 0} (most : ℕ) (s : State) (b : Brought) (goal : Goal State A) (a : Answer A) → Brings (step (setting w)) most s goal a
      → Brings (moves w) most (s, b) (λ x view u. goal x view u.0 × (u.1 ≡ b)) a
  unfolding moves
  beside most s b goal a r = lifting.brought (step (setting w)) (acts_itself w) most s b goal a r

  pub first : {A B : Type 0} (most : ℕ) (s : State) (b : Brought) (t : A → View → State) (aim : Goal (State × Brought) B) (a : Answer A) (go : A → Does B) → Brings (step (setting w)) most s (Just t) a
      → ((x : A) (view : View) → view.left ≤ most → Brings (moves w) most (t x view, b) aim (go x view)) → Brings (moves w) most (s, b) aim (then_do a go)
  first most s b t aim a go r k =
      then_brings (moves w) most (s, b) (λ x view u. (u.0 ≡ t x view) × (u.1 ≡ b)) aim a go (beside most s b (Just t) a r)
      (λ x view u le e.
      let there : (t x view, b) ≡ u = λ j. (sym e.0 j, sym e.1 j) in
      subst (λ u. Brings (moves w) most u aim (go x view)) there (k x view le))

  pub two_ways : (s p q : State) (b : Brought) (o : Option Bool) → step (setting w) s ≡ by_truth o p q → moves w (s, b) ≡ by_truth o (p, b) (q, b)
  unfolding moves
  two_ways s p q b (Some true) e = ap (λ n. above (acts_itself w) n b) e
  two_ways s p q b (Some false) e = ap (λ n. above (acts_itself w) n b) e
  two_ways s p q b None e = ap (λ n. above (acts_itself w) n b) e

  -- what an instance does itself
  module _ (x : Instr) (a : ℕ) (stack : List Value) (frame : Frame) (view : View) (has : Has w.code.instrs a x) (outer : past_work (class_of x) ≡ true) where
    abbrev Here : State
    Here = state a stack frame [] view

    acts : (b : Brought) → moves w (Here, b) ≡ deed w (Some x) Here b
    unfolding moves
    acts b =
        let stops : stops_at (setting w) (slice_get w.code.instrs a) ≡ true = ap (stops_at (setting w)) has ∙ outer in
        ap (λ n. above (acts_itself w) n b) (rests_at (setting w) a stack frame view stops) ∙ ap (λ o. deed w o Here b) has

    pub does : (b : Brought) (u : State × Brought) → deed w (Some x) Here b ≡ Goes u → Leads (moves w) (Here, b) u
    does b u d = leads_step (moves w) (Here, b) u (acts b ∙ d)

    pub ends_so : (b : Brought) (e : End Rest) → deed w (Some x) Here b ≡ Ends e → Reaches (moves w) (Here, b) e
    ends_so b e d = reaches_step (moves w) (Here, b) e (acts b ∙ d)

    -- it goes on with what something gives
    pub deed_brings : {A : Type 0} (most : ℕ) (b : Brought) (t : A → View → State × Brought) (o : Answer A) → used.Within most o → deed w (Some x) Here b ≡ taken o t
        → Brings (moves w) most (Here, b) (Just t) o
    deed_brings most b t o le d = taken_brings (moves w) most (Here, b) t o le (acts b ∙ d)
