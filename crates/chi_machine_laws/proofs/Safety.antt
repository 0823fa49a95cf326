-- Of a sound program picked labels lead from one kinded configuration to another, and one is picked unless the run has ended.
use Rattle.std.proofs.Common.{◌≡◌, ℕ, suc, ◌+◌, ◌*◌, ◌^◌, ◌<◌, List, [], ◌∷◌, None, length, refl, ap, arith}
use Rattle.chi_core.specs.declared.label.Label.{Label}
use Rattle.chi_core.specs.declared.label.Label.TheVariants.{Advance}
use Rattle.chi_core.specs.declared.program.Core.{Core}
use Rattle.chi_core.specs.Config.{Config}
use Rattle.chi_core.specs.Kinded.{Kinded}
use Rattle.chi_core.specs.Options.{actors, options, ending}
use Rattle.chi_core.specs.Picks.{Pick, IsLawful, MayPick}
use Rattle.chi_core.specs.Step as outcome
use Rattle.chi_core.specs.Step.{Outcome, Next, Over, step}
use Rattle.chi_core_kinds.specs.Keeps.{GoesKinded, KeepsKinded}
use Rattle.chi_core_runs.proofs.Bounds.{few_actors, few_options}
use Rattle.chi_core_runs.proofs.Choices.{option_picked, advance_picked, actor_has_option}
use Rattle.chi_core_runs.proofs.Lists.{contains-at, some_below}
use Rattle.chi_core_runs.proofs.Picks.{picked-enabled}
use Rattle.chi_core_runs.proofs.Time.{each_costs}
use Rattle.chi_machine_laws.specs.Turns.{InBound, StaysInBound, Safe}

module _ (core : Core) (keeps : KeepsKinded core) (pick : Pick) (lawful : IsLawful pick) where
  stays : (turn : ℕ) (config : Config) (left : ℕ) → InBound core turn config left → (label : Label) → MayPick pick turn config label → StaysInBound core turn (step core config label left)
  stays turn config left good label may = by_outcome (step core config label left) refl (keeps config good.0 label (picked-enabled pick turn config label may) left)
    where
      by_outcome : (s : Outcome) → step core config label left ≡ s → GoesKinded core s → StaysInBound core turn s
      by_outcome (Next new text rest) e kinded =
          let costs : rest < left = each_costs core config label new text rest left e in
          let within = good.1 in
          (kinded, omega arith)
      by_outcome (Over verdict) e kinded = tt
      by_outcome outcome.Spent e kinded = tt
      by_outcome outcome.Amiss e kinded = kinded

  -- where an instance has an option, one of it is picked
  picks_option : (turn : ℕ) (config : Config) → turn < 2 ^ 63 → Kinded core config → (p : ℕ) (ps : List ℕ) → actors config ≡ p ∷ ps → (label : Label) × MayPick pick turn config label
  picks_option turn config early kinded p ps some =
      let few : length (actors config) < 2 ^ 64 = few_actors core config kinded in
      let there : length (actors config) ≡ suc (length ps) = ap length some in
      let a = some_below (actors config) (pick (2 * turn) (length (actors config))) (lawful (2 * turn) (length (actors config)) (omega arith) (omega arith) few) in
      let has : 0 < length (options config a.0) = actor_has_option config a.0 (contains-at (actors config) _ a.0 a.1) in
      let o = some_below (options config a.0) (pick (2 * turn + 1) (length (options config a.0))) (lawful (2 * turn + 1) (length (options config a.0)) (omega arith) has (few_options core config kinded a.0)) in
      (o.0, option_picked pick turn config a.0 o.0 a.1 o.1)

  chooses : (turn : ℕ) (config : Config) (left : ℕ) → InBound core turn config left → ending config ≡ None → (label : Label) × MayPick pick turn config label
  chooses turn config left good on = by_actors (actors config) refl
    where
      by_actors : (ps : List ℕ) → actors config ≡ ps → (label : Label) × MayPick pick turn config label
      by_actors [] none = (Advance, advance_picked pick turn config none on)
      by_actors (p ∷ ps) some = let within = good.1 in picks_option turn config (omega arith) good.0 p ps some

  pub safe : Safe core pick
  safe = record { keeps = stays; chooses = chooses }
