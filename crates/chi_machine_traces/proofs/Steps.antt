-- What a picked label leads to in the configuration for which the machine stands.
use Rattle.std.proofs.Common.{◌≡◌, ℕ, suc, ◌<◌, List, Some, refl, sym, subst, ◌∙◌}
use Rattle.chi_core.specs.declared.label.Label.{Label}
use Rattle.chi_core.specs.declared.program.Core.{Core}
use Rattle.chi_core.specs.declared.verdict.Verdict.{Verdict}
use Rattle.chi_core.specs.Config.{Config}
use Rattle.chi_core.specs.Kinded.{Kinded}
use Rattle.chi_core.specs.Picks.{Pick, IsLawful, MayPick, picked_label}
use Rattle.chi_core.specs.Sound.{Sound}
use Rattle.chi_core.specs.Step as outcome
use Rattle.chi_core.specs.Step.{step}
use Rattle.chi_core_runs.specs.Choices.{PickedMayCome}
use Rattle.chi_core_runs.specs.Time.{EachCosts}
use Rattle.chi_code.specs.declared.code.Code.{Code}
use Rattle.chi_code.specs.Codes.{Codes}
use Rattle.chi_machine_laws.specs.Choosing.{config_of}
use Rattle.chi_machine_laws.specs.Instances.{Whole}
use Rattle.chi_machine_laws.specs.Labels.{GoesOn, Over, Spent, Takes}
use Rattle.chi_machine_laws.specs.Laws.{PicksAlike, SafeAlways, StepsAreRight}
use Rattle.chi_machine_laws.specs.Stands.{Stands, Follows}
use Rattle.chi_machine_laws.specs.Turns.{InBound, StaysInBound}
use Rattle.chi_machine_told.specs.Below.chi_machine.specs.declared.course.Course.{Course}
use Rattle.chi_machine_told.specs.Below.chi_machine.specs.Courses.{IsCourse, IsPicked, LeadsTo}
use Rattle.chi_machine_told.specs.Below.chi_machine.specs.Views.{whole_of}
use Rattle.chi_machine_told.specs.Telling.{CanTell, MayTell}

module _ (picks : PicksAlike) (core : Core) (code : Code) (config : Config) (m : Whole) (stands : Stands core code config m) (turn : ℕ) (pick : Pick) (label : Label) (own : picked_label pick turn (config_of m) ≡ Some label) where
  pub may : MayPick pick turn config label
  may = sym (picks core code config m stands pick turn) ∙ own

  -- its event can be told
  pub tells : PickedMayCome → Codes core code → Sound core → Kinded core config → MayTell code m label core config
  tells may_come codes sound kinded = record { codes = codes; sound = sound; kinded = kinded; stands = stands; enabled = may_come pick turn config label may }

pub can_tell : PicksAlike → PickedMayCome → (code : Code) (c : Course) → IsCourse code c → (label : Label) → IsPicked c label → CanTell code (whole_of c.world) label
can_tell picks may_come code c is label by =
    let s = is.sane in
    record { core = s.core; config = s.config; may = tells picks s.core code s.config (whole_of c.world) s.stands c.turn by.pick label by.picked may_come s.codes s.sound s.bound.0 }

-- the laws of the machine's steps and picks
pub record StepLaw : Type 0 where
  pub safe : SafeAlways
  pub exact : StepsAreRight
  pub picks : PicksAlike

module _ (law : StepLaw) (core : Core) (code : Code) (codes : Codes core code) (sound : Sound core) (config : Config) (m : Whole) (stands : Stands core code config m) (turn left : ℕ) (within : InBound core turn config left) (pick : Pick) (lawful : IsLawful pick) (label : Label) (own : picked_label pick turn (config_of m) ≡ Some label) where
  stays : StaysInBound core turn (step core config label left)
  stays = (law.safe core sound pick lawful).keeps turn config left within label (may law.picks core code config m stands turn pick label own)

  -- it goes on, and stands for the configuration to which the label leads
  pub goes : (new : Whole) (text : List ℕ) (rest : ℕ) → Takes code m label left (GoesOn new text rest)
      → (after : Config) × (step core config label left ≡ outcome.Next after text rest) × Stands core code after new × InBound core (suc turn) after rest
  goes new text rest takes = by_outcome (step core config label left) refl stays (law.exact core code codes config m stands label left (GoesOn new text rest) takes)
    where
      by_outcome : (o : outcome.Outcome) → step core config label left ≡ o → StaysInBound core turn o → Follows (λ u. GoesOn new text rest ≡ u) core code o
          → (after : Config) × (step core config label left ≡ outcome.Next after text rest) × Stands core code after new × InBound core (suc turn) after rest
      by_outcome (outcome.Next after written few) e good f =
          let same : GoesOn new text rest ≡ GoesOn f.0 written few = f.1 in
          let news : f.0 ≡ new = cc in
          let fews : few ≡ rest = cc in
          let is : outcome.Next after written few ≡ outcome.Next after text rest = cc in
          (after, e ∙ is, subst (Stands core code after) news f.2, subst (InBound core (suc turn) after) fews good)
      by_outcome (outcome.Over verdict) e good f = absurd (cc)
      by_outcome outcome.Spent e good f = absurd (cc)
      by_outcome outcome.Amiss e good f = absurd good

  -- it ends the run
  pub ends : (verdict : Verdict) → Takes code m label left (Over verdict) → step core config label left ≡ outcome.Over verdict
  ends verdict takes = by_outcome (step core config label left) refl stays (law.exact core code codes config m stands label left (Over verdict) takes)
    where
      by_outcome : (o : outcome.Outcome) → step core config label left ≡ o → StaysInBound core turn o → Follows (λ u. Over verdict ≡ u) core code o → step core config label left ≡ outcome.Over verdict
      by_outcome (outcome.Next after written few) e good f = let same : Over verdict ≡ GoesOn f.0 written few = f.1 in absurd (cc)
      by_outcome (outcome.Over other) e good f = let same : other ≡ verdict = cc in e ∙ cc
      by_outcome outcome.Spent e good f = absurd (cc)
      by_outcome outcome.Amiss e good f = absurd good

  -- it costs too much
  pub cuts : Takes code m label left Spent → step core config label left ≡ outcome.Spent
  cuts takes = by_outcome (step core config label left) refl stays (law.exact core code codes config m stands label left Spent takes)
    where
      by_outcome : (o : outcome.Outcome) → step core config label left ≡ o → StaysInBound core turn o → Follows (λ u. Spent ≡ u) core code o → step core config label left ≡ outcome.Spent
      by_outcome (outcome.Next after written few) e good f = let same : Spent ≡ GoesOn f.0 written few = f.1 in absurd (cc)
      by_outcome (outcome.Over other) e good f = absurd (cc)
      by_outcome outcome.Spent e good f = e
      by_outcome outcome.Amiss e good f = absurd good

-- a label that goes on leaves less of the bound
pub leaves_less : StepLaw → EachCosts → (code : Code) (c : Course) → IsCourse code c → (label : Label) → IsPicked c label → (new : Course) (text : List ℕ) → LeadsTo code c label new text → new.left < c.left
leaves_less law costs code c is label by new text leads =
    let s = is.sane in
    let g = goes law s.core code s.codes s.sound s.config (whole_of c.world) s.stands c.turn c.left s.bound by.pick by.lawful label by.picked (whole_of new.world) text new.left leads.takes in
    costs s.core s.config label c.left g.0 text new.left g.1
