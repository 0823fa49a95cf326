-- What is told of a run under way is a front of what the policy picks.
use Rattle.std.proofs.Common.{◌≡◌, ℕ, zero, suc, ◌<◌, ◌≤◌, List, [], ◌++◌, append_assoc, length-append, Option, Some, None, refl, sym, ap, subst, ◌∙◌, arith}
use Rattle.chi_core.specs.declared.label.Label.{Label}
use Rattle.chi_core.specs.declared.program.Core.{Core}
use Rattle.chi_core.specs.declared.verdict.Verdict.TheVariants.{OutOfSteps}
use Rattle.chi_core.specs.Beginning.{Beginning}
use Rattle.chi_core.specs.Config.{Config}
use Rattle.chi_core.specs.Options.{Ending, ending, ending_at}
use Rattle.chi_core.specs.Picks.{Pick, IsLawful, MayPick, PicksFrom, Picked}
use Rattle.chi_core.specs.Runs.{Told}
use Rattle.chi_core.specs.Step as outcome
use Rattle.chi_core.specs.Step.{step}
use Rattle.chi_core_runs.specs.Picked.{PickedOnce}
use Rattle.chi_core_runs.specs.Time.{EachCosts}
use Rattle.chi_core_runs.specs.Turns.{PicksOn, PicksOver, PicksCutOff, PicksAtRest, told_first, told_last}
use Rattle.chi_code.specs.declared.code.Code.{Code}
use Rattle.chi_io.specs.Sink.{IsProperFrontOf}
use Rattle.chi_machine_told.specs.Below.chi_machine.specs.declared.course.Course.{Course}
use Rattle.chi_machine_laws.specs.Laws.{SafeAlways}
use Rattle.chi_machine_laws.specs.Turns.{InBound, StaysInBound, Safe}
use Rattle.chi_trace.specs.declared.filter.Filter.{Filter}
use Rattle.chi_machine_traces.specs.declared.run.Telling.{Telling}
use Rattle.chi_machine_traces.specs.Passing.{BeginsWith, GoesPast}
use Rattle.chi_machine_traces.specs.Turns.{IsUnderWay}

-- the laws of what a policy picks from a configuration
pub record PickLaw : Type 0 where
  pub safe : SafeAlways
  pub costs : EachCosts
  pub on : PicksOn
  pub over : PicksOver
  pub cut_off : PicksCutOff
  pub at_rest : PicksAtRest
  pub once : PickedOnce

-- a run that a policy picks from there
record PicksSome (core : Core) (pick : Pick) (turn : ℕ) (config : Config) (left : ℕ) : Type 0 where
  told : Told
  picks : PicksFrom core pick turn config left told

module _ (law : PickLaw) (core : Core) (pick : Pick) (safe : Safe core pick) where
  -- there is one, where there is one from wherever a label leads
  some_here : (turn : ℕ) (config : Config) (left : ℕ) → InBound core turn config left
      → ((new : Config) (rest : ℕ) → rest < left → InBound core (suc turn) new rest → PicksSome core pick (suc turn) new rest) → PicksSome core pick turn config left
  some_here turn config left good below = by_ending (ending config) refl
    where
      by_outcome : (label : Label) → MayPick pick turn config label → (o : outcome.Outcome) → step core config label left ≡ o → StaysInBound core turn o → PicksSome core pick turn config left
      by_outcome label may (outcome.Next new text rest) e stays =
          let after : PicksSome core pick (suc turn) new rest = below new rest (law.costs core config label left new text rest e) stays in
          record { told = told_first label text after.told; picks = law.on core pick turn config left label new text rest after.told may e after.picks }
      by_outcome label may (outcome.Over verdict) e stays =
          record { told = told_first label [] (told_last (ending_at verdict config)); picks = law.over core pick turn config left label verdict may e }
      by_outcome label may outcome.Spent e stays = record { told = told_last (ending_at OutOfSteps config); picks = law.cut_off core pick turn config left label may e }
      by_outcome label may outcome.Amiss e stays = absurd stays

      by_ending : (o : Option Ending) → ending config ≡ o → PicksSome core pick turn config left
      by_ending (Some end) e = record { told = told_last end; picks = law.at_rest core pick turn config left end e }
      by_ending None e =
          let chosen = safe.chooses turn config left good e in
          by_outcome chosen.0 chosen.1 (step core config chosen.0 left) refl (safe.keeps turn config left good chosen.0 chosen.1)

  some_within : (n turn : ℕ) (config : Config) (left : ℕ) → left ≤ n → InBound core turn config left → PicksSome core pick turn config left
  some_within zero turn config left most good = some_here turn config left good (λ new rest less stays. absurd (omega arith))
  some_within (suc n) turn config left most good = some_here turn config left good (λ new rest less stays. some_within n (suc turn) new rest (omega arith) stays)

module _ (law : PickLaw) (trace : Option Filter) (core : Core) (code : Code) (beginning : Beginning) (pick : Pick) (lawful : IsLawful pick) (bound : ℕ) (passed : List ℕ) (c : Course) (told : Telling)
    (u : IsUnderWay trace core code beginning pick bound passed c told) where
  -- what was written so far, and the rest
  written_so_far : (whole : Told) → Picked core beginning pick bound whole → (rest : List ℕ) × ((passed ++ told.out.items) ++ rest ≡ whole.output)
  written_so_far whole is =
      let from = some_within law core pick (law.safe core u.sound pick lawful) c.left c.turn u.config c.left (omega arith) u.within in
      let all = u.way.leads from.told (subst (λ n. PicksFrom core pick n u.config c.left from.told) (sym u.counted) from.picks) in
      (from.told.output, ap (λ t. t.output) (law.once core beginning pick bound _ whole all is))

  pub passed_before : BeginsWith passed core beginning pick bound
  passed_before whole is = let w = written_so_far whole is in (told.out.items ++ w.0, sym (append_assoc passed told.out.items w.0) ∙ w.1)

  -- a part of what is kept was passed on
  pub passed_past : (part : List ℕ) → IsProperFrontOf part told.out.items → GoesPast (passed ++ part) core beginning pick bound
  passed_past part (left, joined, some) whole is =
      let w = written_so_far whole is in
      let split : (passed ++ part) ++ (left ++ w.0) ≡ whole.output =
      append_assoc passed part (left ++ w.0) ∙ ap (λ x. passed ++ x) (sym (append_assoc part left w.0) ∙ ap (λ x. x ++ w.0) joined) ∙ sym (append_assoc passed told.out.items w.0) ∙ w.1 in
      (left ++ w.0, split, omega (arith, some, length-append left w.0))
