-- Private to proofs. Experiments are sound, and come to something where no rule is broken.
use Rattle.std.proofs.Common.{ℕ, ◌≡◌, false, List, [], ◌∷◌, ◌++◌, length, take, Some, refl, sym, ap, subst, ◌∙◌}
use Rattle.std.specs.Prelude.{slice_get, IsTrue}
use Rattle.chi_tree.specs.declared.definition.Definition.{Definition}
use Rattle.chi_tree.specs.declared.definition.Definition.TheVariants as definition
use Rattle.chi_tree.specs.declared.statement.Step.{Step}
use Rattle.chi_tree.specs.declared.type_tree.Name.{Name}
use Rattle.chi_types.specs.declared.ty.Ty.{Ty, Ty-F}
use Rattle.chi_core.specs.declared.experiment.XperDef.{XperDef}
use Rattle.chi_core.specs.declared.experiment.XStat.{XStat}
use Rattle.chi_core.specs.declared.program.Core.{Core}
use Rattle.chi_core.specs.Kinds.{Every}
use Rattle.chi_core.specs.Scopes.{Scope, function, experiment_scope}
use Rattle.chi_core.specs.Sound.{IsName, SoundIn, SoundExperiment, nothing_known}
use Rattle.chi_check.specs.Below.chi_check_streams.specs.Streams.{of_experiment}
use Rattle.chi_check_types.specs.Names.{Names}
use Rattle.chi_check_expr.proofs.Kept.{Each}
use Rattle.chi_check.specs.Below.chi_check_stat_lines.specs.declared.state.State.{State}
use Rattle.chi_check.specs.Below.chi_check_stat_lines.specs.Stated.{Stated, in_turn}
use Rattle.chi_check.specs.Below.chi_check_experiments.specs.Experiments.{trying_all}
use Rattle.chi_check.specs.Bodies.{experiment, experiment_defined, experiment_of, experiments_of}
use Rattle.chi_check_laws.specs.KnownNames.{Stands, AllStand}
use Rattle.chi_check_laws.specs.Bodies.{SlotsHave}
use Rattle.chi_check_laws.specs.CheckedBodies.{BodyIsWhole, EachIsWhole}
use Rattle.chi_check_laws.specs.Spelled.{Spelled, EachSpelled}
use Rattle.chi_check_laws.specs.Trials.{trials_texts}
use Rattle.chi_check_laws.specs.Whole.{steps_are_whole}
use Rattle.chi_check_laws.proofs.Entries.{Entries, known_entry, entries_so, first_entries}
use Rattle.chi_check_laws.proofs.Homes.{get_kind}
use Rattle.chi_check_laws.proofs.MadeBodies.{FineNames}
use Rattle.chi_check_laws.proofs.Positions.{joined_parts, map_parts, some_same}
use Rattle.chi_check_laws.proofs.ProgramTurns.{Keeps, turns_keep, each_keeps}
use Rattle.chi_check_laws.proofs.Seen.{Seen, seen_stands}
use Rattle.chi_check_laws.proofs.Shaped.{Fine}
use Rattle.chi_check_laws.proofs.States.{take_front}
use Rattle.chi_check_laws.proofs.TrialMade.{trials_keep}
use Rattle.chi_check_laws.proofs.TrialTrees.{trials_kept, tried_sound}
use Rattle.chi_check_laws.proofs.WholeHeaders.{mapped_comes}

abbrev begun : Names → State
begun names = record { names = names; slots = [] }

abbrev tried : List Step → Names → Stated State (List XStat)
tried steps names = trying_all false steps (begun names)

-- ---- they are sound

module _ (core : Core) where
  experiment_stays : (name : Name) (steps : List Step) (names : Names) → IsTrue (steps_are_whole steps) → (experiment_defined name steps names).next ≡ names
  experiment_stays name steps names w =
      let scope : Scope = record { core = core; slots = []; role = function Ty-F.Void } in
      let grown = (trials_kept scope refl false steps w).grows (begun names) in
      ap (take (length names)) grown.names.1 ∙ take_front names grown.names.0

  one_stays : (d : Definition) (names : Names) → BodyIsWhole d → (experiment_of d names).next ≡ names
  one_stays (definition.Xper place name steps) names w = experiment_stays name steps names w
  one_stays (definition.Func place tree name formals steps) names w = refl
  one_stays (definition.Proc place tree name formals steps) names w = refl
  one_stays (definition.Model place tree name formals steps) names w = refl
  one_stays (definition.Enum place name values) names w = refl
  one_stays (definition.Const place tree name equals value) names w = refl
  one_stays (definition.TypeWord place name tree) names w = refl

  abbrev pub TrialSound : XperDef → Type 0
  TrialSound x = (count : ℕ) → SoundExperiment core (of_experiment x count).part

  abbrev pub TrialTexts : XperDef → Type 0
  TrialTexts x = IsTrue (trials_texts x.body)

  module _ (names : Names) (seen : Entries (Seen core) names) where
    experiment_sound : (name : Name) (steps : List Step) (slots : List Ty) (body : List XStat) → IsName name.text → IsTrue (steps_are_whole steps) → (tried steps names).next.slots ≡ slots → (tried steps names).made ≡ Some body
        → IsTrue (trials_texts body) → TrialSound (record { name = name.text; slots = slots; body = body })
    experiment_sound name steps slots body spelled w ends made texts count =
        let scope = experiment_scope core (record { name = name.text; slots = slots; body = body }) in
        let have : SlotsHave scope (tried steps names).next.slots = λ slot t is. get_kind slots slot t (subst (λ ts. slice_get ts slot ≡ Some t) ends is) in
        let none : Every (SoundIn core) [] = λ k x e. absurd (cc) in
        let stands = entries_so (Seen core) (Stands scope nothing_known) (seen_stands scope nothing_known (λ number. refl)) names seen in
        let all : AllStand scope nothing_known names = λ name k found. known_entry (Stands scope nothing_known) names name k stands found in
        let sound = tried_sound scope refl nothing_known false steps (begun names) body w have (record { names = all; slots = none }) made in
        record { name = spelled; slots = subst (Every (SoundIn core)) ends sound.1.slots; body = sound.0 texts count }

    none_more : (x more : List XperDef) → [] ≡ x → Each TrialTexts (x ++ more) → (Each TrialTexts more → Each TrialSound more) → Each TrialSound (x ++ more)
    none_more x more e t rest = subst (λ x. Each TrialSound (x ++ more)) e (rest (subst (λ x. Each TrialTexts (x ++ more)) (sym e) t))

    one_experiment : (d : Definition) (x more : List XperDef) → Spelled d → BodyIsWhole d → (experiment_of d names).made ≡ Some x → Each TrialTexts (x ++ more) → (Each TrialTexts more → Each TrialSound more) → Each TrialSound (x ++ more)
    one_experiment (definition.Xper place name steps) x more sp w m t rest =
        let parts = map_parts (experiment name.text (tried steps names).next.slots) (tried steps names).made x m in
        let texts = subst (λ x. Each TrialTexts (x ++ more)) (sym parts.2) t in
        subst (λ x. Each TrialSound (x ++ more)) parts.2 (experiment_sound name steps (tried steps names).next.slots parts.0 sp w refl parts.1 texts.0, rest texts.1)
    one_experiment (definition.Func place tree name formals steps) x more sp w m t rest = none_more x more (some_same [] x m) t rest
    one_experiment (definition.Proc place tree name formals steps) x more sp w m t rest = none_more x more (some_same [] x m) t rest
    one_experiment (definition.Model place tree name formals steps) x more sp w m t rest = none_more x more (some_same [] x m) t rest
    one_experiment (definition.Enum place name values) x more sp w m t rest = none_more x more (some_same [] x m) t rest
    one_experiment (definition.Const place tree name equals value) x more sp w m t rest = none_more x more (some_same [] x m) t rest
    one_experiment (definition.TypeWord place name tree) x more sp w m t rest = none_more x more (some_same [] x m) t rest

  pub experiments_sound : (ds : List Definition) (names : Names) (xs : List XperDef) → Entries (Seen core) names → EachSpelled ds → EachIsWhole ds → (in_turn (experiments_of ds) names).made ≡ Some xs → Each TrialTexts xs → Each TrialSound xs
  experiments_sound [] names xs seen sp w m t = subst (Each TrialSound) (some_same [] xs m) tt
  experiments_sound (d ∷ ds) names xs seen sp w m t =
      let first = experiment_of d names in
      let parts = joined_parts first.made (in_turn (experiments_of ds) first.next).made xs m in
      let left = subst (Entries (Seen core)) (sym (one_stays d names w.0)) seen in
      subst (Each TrialSound) parts.4 (one_experiment names seen d parts.0 parts.1 sp.0 w.0 parts.2 (subst (Each TrialTexts) (sym parts.4) t) (λ t. experiments_sound ds first.next parts.1 left sp.1 w.1 parts.3 t))

-- ---- they come to something

experiment_keeps : (d : Definition) → Keeps FineNames (experiment_of d)
experiment_keeps (definition.Xper place name steps) names f e =
    let body = tried steps names in
    let stated = trials_keep false steps (begun names) f e in
    (mapped_comes (experiment name.text body.next.slots) body.made stated.0, first_entries Fine (length names) body.next.names stated.1)
experiment_keeps (definition.Func place tree name formals steps) names f e = (tt, f)
experiment_keeps (definition.Proc place tree name formals steps) names f e = (tt, f)
experiment_keeps (definition.Model place tree name formals steps) names f e = (tt, f)
experiment_keeps (definition.Enum place name values) names f e = (tt, f)
experiment_keeps (definition.Const place tree name equals value) names f e = (tt, f)
experiment_keeps (definition.TypeWord place name tree) names f e = (tt, f)

pub experiments_keep : (ds : List Definition) → Keeps FineNames (in_turn (experiments_of ds))
experiments_keep ds = turns_keep FineNames (experiments_of ds) (each_keeps FineNames experiment_of experiment_keeps ds)
