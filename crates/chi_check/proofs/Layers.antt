-- Private to proofs. The layers of a program, each over those before it.
use Rattle.std.proofs.Common.{ℕ, ◌≡◌, List, [], ◌++◌, map, take, length, Option, None, ap, sym, ◌∙◌}
use Rattle.chi_token.specs.declared.place.Place.{Place}
use Rattle.chi_tree.specs.declared.definition.Definition.{Definition}
use Rattle.chi_core.specs.declared.program.ConstDef.{ConstDef}
use Rattle.chi_core.specs.declared.program.FuncDef.{FuncDef}
use Rattle.chi_core.specs.declared.program.ProcDef.{ProcDef}
use Rattle.chi_core.specs.declared.program.Core.{Core}
use Rattle.chi_core.specs.declared.experiment.XperDef.{XperDef}
use Rattle.chi_check_types.specs.declared.fault.Fault.{Fault}
use Rattle.chi_check_types.specs.Faults.{first_of}
use Rattle.chi_check_types.specs.Names.{Names}
use Rattle.chi_check_types.proofs.Firsts.{first_of_append}
use Rattle.chi_check_stat_lines.specs.Stated.{Stated, in_turn}
use Rattle.chi_check_headers.specs.declared.header.Header.{Header}
use Rattle.chi_check_headers.specs.declared.sketch.Sketch.{Sketch}
use Rattle.chi_check_headers.specs.declared.sketch.Early.{Early}
use Rattle.chi_check_headers.specs.declared.sketch.Named.{Named}
use Rattle.chi_check_headers.specs.Headers.{Found, header_in, header_faults}
use Rattle.chi_check_headers.specs.Definitions.{sketching, early_defined, with_all_late, with_all_headed}
use Rattle.chi_check.specs.Bodies.{functions_of, processes_of, experiments_of}
use Rattle.chi_check.specs.Programs.{no_names, first_early, first_named, first_model, model_rule, core_of, definitions_checked}

noted_seven : (kept : Option Fault) (a b c d e f g : List Fault) → first_of kept (a ++ b ++ c ++ d ++ e ++ f ++ g) ≡ first_of (first_of (first_of (first_of (first_of (first_of (first_of kept a) b) c) d) e) f) g
noted_seven kept a b c d e f g =
    first_of_append kept _ g
    ∙ ap (λ k. first_of k g) (first_of_append kept _ f ∙ ap (λ k. first_of k f) (first_of_append kept _ e ∙ ap (λ k. first_of k e) (first_of_append kept _ d ∙ ap (λ k. first_of k d) (first_of_append kept _ c ∙ ap (λ k. first_of k c) (first_of_append kept a b)))))

abbrev pub fresh : Names → Names → Sketch
fresh all early = record { all = all; early = early; enumerations = 0; processes = 0; experiments = 0 }

pub fresh_is : (all early : Names) → all ≡ [] → early ≡ [] → fresh all early ≡ no_names
fresh_is all early a b = λ j. fresh (a j) (b j)

module _ (ds : List Definition) where
  abbrev pub names_of : Stated Sketch (List (List (List ℕ)))
  names_of = in_turn (map sketching ds) no_names

  abbrev pub early_of : Sketch → Stated Early (List ConstDef)
  early_of s = in_turn (map (early_defined s.all) ds) (first_early s.early)

  abbrev pub headers_of : Names → Names → List (Found (Option Header))
  headers_of all early = map (header_in (with_all_late all early ds)) ds

  abbrev pub given_of : Names → Names → List (Option Header)
  given_of all early = map (λ h. h.given) (headers_of all early)

  abbrev pub named_of : Names → Names → Named
  named_of all early = with_all_headed all ds (given_of all early) (first_named (take (length early) (with_all_late all early ds)))

  abbrev pub funcs_of : Names → Names → Stated Names (List FuncDef)
  funcs_of all early = in_turn (functions_of ds (given_of all early)) (named_of all early).names

  abbrev pub procs_of : Names → Names → Stated Names (List ProcDef)
  procs_of all early = in_turn (processes_of ds (given_of all early)) (funcs_of all early).next

  abbrev pub xpers_of : Names → Names → Stated Names (List XperDef)
  xpers_of all early = in_turn (experiments_of ds) (procs_of all early).next

  module _ (last : Place) (start : Sketch) (started : start ≡ no_names) (s : Sketch) (early : Early) (named : s ≡ (in_turn (map sketching ds) start).next) (defined : early ≡ (early_of s).next) where
    sketched : s ≡ names_of.next
    sketched = named ∙ ap (λ start. (in_turn (map sketching ds) start).next) started

    defined_first : early ≡ (early_of names_of.next).next
    defined_first = defined ∙ ap (λ s. (early_of s).next) sketched

    pub all_made : (enumerations : Option (List (List (List ℕ)))) (consts : Option (List ConstDef)) (funcs : Option (List FuncDef)) (procs : Option (List ProcDef)) (xpers : Option (List XperDef)) (model : Option ℕ)
        → enumerations ≡ (in_turn (map sketching ds) start).made → consts ≡ (early_of s).made → funcs ≡ (funcs_of s.all early.names).made → procs ≡ (procs_of s.all early.names).made → xpers ≡ (xpers_of s.all early.names).made → model ≡ first_model 0 ds
        → core_of enumerations consts funcs procs xpers model ≡ (definitions_checked ds last).made
    all_made enumerations consts funcs procs xpers model es cs fs ps xs m = λ j. core_of ((es ∙ ap (λ start. (in_turn (map sketching ds) start).made) started) j)
        ((cs ∙ ap (λ s. (early_of s).made) sketched) j)
        ((fs ∙ (λ k. (funcs_of (sketched k).all (defined_first k).names).made)) j)
        ((ps ∙ (λ k. (procs_of (sketched k).all (defined_first k).names).made)) j)
        ((xs ∙ (λ k. (xpers_of (sketched k).all (defined_first k).names).made)) j)
        (m j)

    pub all_noted : (kept first second third fourth : Option Fault) (model : Option ℕ) → first ≡ first_of kept (in_turn (map sketching ds) start).faults → second ≡ first_of first (early_of s).faults
        → third ≡ first_of (first_of (first_of (first_of second (header_faults (headers_of s.all early.names))) (funcs_of s.all early.names).faults) (procs_of s.all early.names).faults) (xpers_of s.all early.names).faults
        → model ≡ first_model 0 ds → fourth ≡ first_of third (model_rule last model) → fourth ≡ first_of kept (definitions_checked ds last).faults
    all_noted kept first second third fourth model a b c m d =
        d ∙ ap (λ m. first_of third (model_rule last m)) m ∙ ap (λ k. first_of k (model_rule last (first_model 0 ds)))
        (c ∙ (λ j. first_of (first_of (first_of (first_of ((b ∙ (λ k. first_of ((a ∙ ap (λ start. first_of kept (in_turn (map sketching ds) start).faults) started) k) (early_of (sketched k)).faults)) j) (header_faults (headers_of (sketched j).all (defined_first j).names)))
        (funcs_of (sketched j).all (defined_first j).names).faults) (procs_of (sketched j).all (defined_first j).names).faults) (xpers_of (sketched j).all (defined_first j).names).faults))
        ∙ sym (noted_seven kept names_of.faults (early_of names_of.next).faults (header_faults (headers_of names_of.next.all (early_of names_of.next).next.names)) (funcs_of names_of.next.all (early_of names_of.next).next.names).faults
        (procs_of names_of.next.all (early_of names_of.next).next.names).faults (xpers_of names_of.next.all (early_of names_of.next).next.names).faults (model_rule last (first_model 0 ds)))
