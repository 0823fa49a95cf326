-- The run that a policy picks, computed turn by turn.
use Rattle.std.proofs.Common.{◌≡◌, ℕ, zero, suc, pos, ◌<◌, ◌≤◌, List, [], ◌∷◌, ◌++◌, Option, Some, None, length, inl, inr, refl, sym, ap, ◌∙◌, arith}
use Rattle.std.specs.List.{Contains}
use Rattle.chi_core.specs.declared.label.Label.{Label}
use Rattle.chi_core.specs.declared.program.Core.{Core}
use Rattle.chi_core.specs.declared.verdict.Verdict.TheVariants.{OutOfSteps}
use Rattle.chi_core.specs.Beginning.{Beginning, Begins, Breaks}
use Rattle.chi_core.specs.Beginning as beginning
use Rattle.chi_core.specs.Config.{Config}
use Rattle.chi_core.specs.Options.{Ending, ending_at, enabled, at_rest, ending_of, ending}
use Rattle.chi_core.specs.Picks.{Pick, picked_label, MayPick, Picked}
use Rattle.chi_core.specs.Runs.{nothing, told_after, along, text_in, text_told, After, Runs, Told}
use Rattle.chi_core.specs.Step as outcome
use Rattle.chi_core.specs.Step.{Outcome, Next, Over, step}
use Rattle.chi_core_runs.specs.Turns.{told_first, told_last}
use Rattle.chi_core_runs.proofs.Picks.{picked-enabled, picked-derived}
use Rattle.chi_core_runs.proofs.Time.{runs_bounded}

-- after a label, by what its step comes to; it is at rest where something is amiss, which never happens in a sound program
abbrev by_step : (Config → ℕ → Told) → Config → Label → Outcome → Told
by_step next config label (Next new text left) = told_first label text (next new left)
by_step next config label (Over verdict) = told_first label [] (told_last (ending_at verdict config))
by_step next config label outcome.Spent = told_last (ending_at OutOfSteps config)
by_step next config label outcome.Amiss = told_last (at_rest config)

-- by the label that is picked, if there is one
abbrev by_label : (Config → ℕ → Told) → Core → Config → ℕ → Option Label → Told
by_label next core config left None = told_last (at_rest config)
by_label next core config left (Some label) = by_step next config label (step core config label left)

-- from a configuration at a turn, in so many turns at most
run_from : Core → Pick → ℕ → ℕ → Config → ℕ → Told
run_from core pick zero turn config left = told_last (at_rest config)
run_from core pick (suc turns) turn config left = by_label (run_from core pick turns (suc turn)) core config left (picked_label pick turn config)

-- the run of a program: a bound allows no more turns than that and one
pub computed : Core → Pick → ℕ → Beginning → Told
computed core pick bound (Begins config) = run_from core pick (suc bound) 0 config bound
computed core pick bound (Breaks end) = told_last end
computed core pick bound beginning.Amiss = told_last (record { verdict = OutOfSteps; clock = pos 0 })

-- where a run is at rest nothing is enabled, and it ends so
rests_so : (config : Config) (end : Ending) → ending config ≡ Some end → (enabled config ≡ []) × (at_rest config ≡ end)
rests_so config end e = by_enabled (enabled config) refl e
  where
    by_enabled : (ls : List Label) → enabled config ≡ ls → ending_of ls config ≡ Some end → (enabled config ≡ []) × (at_rest config ≡ end)
    by_enabled [] is h = (is, cc)
    by_enabled (l ∷ ls) is h = absurd (cc)

module _ (core : Core) (pick : Pick) where
  abbrev told_along : ℕ → Config → ℕ → List Label → Ending → Told
  told_along turn config left labels end = record { labels = labels; ending = end; output = along text_told nothing core turn config left labels }

  -- a run that is picked, of fewer labels than turns
  run_is : (turns turn : ℕ) (config : Config) (left : ℕ) (labels : List Label) (end : Ending) → Runs (MayPick pick) core turn config left labels end → length labels < turns
      → run_from core pick turns turn config left ≡ told_along turn config left labels end
  unfolding run_from Runs along
  run_is zero turn config left labels end r l = absurd (omega (arith, l))
  run_is (suc turns) turn config left [] end (inl rests) l = by_picked (picked_label pick turn config) refl
    where
      by_picked : (o : Option Label) → picked_label pick turn config ≡ o
          → by_label (run_from core pick turns (suc turn)) core config left o ≡ record { labels = []; ending = end; output = [] }
      by_picked None is = ap told_last (rests_so config end rests).1
      by_picked (Some label) is =
          let c : Contains (enabled config) label = picked-enabled pick turn config label is in
          let none : length (enabled config) ≡ 0 = ap length (rests_so config end rests).0 in
          let k = c.1 in
          absurd (omega arith)
  run_is (suc turns) turn config left [] end (inr cut) l =
      ap (by_label (run_from core pick turns (suc turn)) core config left) cut.may_come
      ∙ ap (by_step (run_from core pick turns (suc turn)) config cut.label) cut.spent
      ∙ (λ i. told_last (sym cut.out_of_steps i))
  run_is (suc turns) turn config left (label ∷ labels) end r l =
      ap (by_label (run_from core pick turns (suc turn)) core config left) r.0 ∙ by_outcome (λ new rest h. run_is turns (suc turn) new rest labels end h (omega (arith, l))) (step core config label left) r.1
    where
      by_outcome : ((new : Config) (rest : ℕ) → Runs (MayPick pick) core (suc turn) new rest labels end → run_from core pick turns (suc turn) new rest ≡ told_along (suc turn) new rest labels end)
          → (s : Outcome) → After (λ new rest. Runs (MayPick pick) core (suc turn) new rest labels end) s config labels end
          → by_step (run_from core pick turns (suc turn)) config label s
          ≡ record { labels = label ∷ labels; ending = end; output = text_in s ++ told_after (λ new rest. along text_told nothing core (suc turn) new rest labels) s }
      by_outcome more (Next new text rest) a = ap (told_first label text) (more new rest a)
      by_outcome more (Over verdict) a = λ i. record { labels = label ∷ sym a.0 i; ending = sym a.1 i; output = [] }
      by_outcome more outcome.Spent a = absurd a
      by_outcome more outcome.Amiss a = absurd a

  -- what is picked of a program is what is computed
  pub computed_is : (start : Beginning) (bound : ℕ) (told : Told) → Picked core start pick bound told → computed core pick bound start ≡ told
  unfolding computed
  computed_is (Begins config) bound told r =
      let few : length told.labels ≤ bound = runs_bounded core 0 config bound told.labels told.ending (picked-derived core (Begins config) pick bound told r).0 in
      run_is (suc bound) 0 config bound told.labels told.ending r.0 (omega (arith, few))
      ∙ (λ i. record { labels = told.labels; ending = told.ending; output = sym r.1 i })
  computed_is (Breaks end) bound told r = sym r
  computed_is beginning.Amiss bound told r = absurd r
