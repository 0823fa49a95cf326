-- Experiments that are sound or not: a run whose int goes into a real, and runs of models that give nothing or take a channel.
use Rattle.std.proofs.Common.{◌≡◌, ℕ, Bool, true, false, Option, Some, None, List, [], ◌∷◌, refl, sym, subst, ap, ◌∙◌}
use Rattle.std.proofs.lemmas.Bool.{false≢true}
use Rattle.std.specs.Prelude.{codes, slice_get, IsTrue}
use Rattle.std.specs.List.{list_all}
use Rattle.chi_token.specs.Keywords.{keyword_of}
use Rattle.chi_token.specs.Tables.{value_at}
use Rattle.chi_token.specs.Tokens.{token_spelled_by}
use Rattle.chi_types.specs.declared.ty.Ty.{Ty, Ty-F}
use Rattle.chi_types.specs.declared.ty.Ty.TheVariants as ty
use Rattle.chi_types.specs.declared.ty.Way.TheVariants as way
use Rattle.chi_core.specs.declared.experiment.XBranch.{XBranch}
use Rattle.chi_core.specs.declared.experiment.XperDef.{XperDef}
use Rattle.chi_core.specs.declared.experiment.XStat.{XStat, XStat-F, out-XStat}
use Rattle.chi_core.specs.declared.experiment.XStat.TheVariants as trial
use Rattle.chi_core.specs.declared.expression.CExpr.{CExpr}
use Rattle.chi_core.specs.declared.program.Core.{Core}
use Rattle.chi_core.specs.declared.program.ProcDef.{ProcDef}
use Rattle.chi_core.specs.Kinds.{Kind, kind_of, kinds_of, is_plain_kind}
use Rattle.chi_core.specs.Scopes.{Scope, exit_of, experiment_scope}
use Rattle.chi_core.specs.SetSlots.{Known}
use Rattle.chi_core.specs.Sound.{nothing_known, SoundIn, SoundExperiment}
use Rattle.chi_core.specs.SoundExperiments.{as_a_real, SoundXStat, SoundXBlock, runs, one_statement, no_statement}
use Rattle.chi_core.specs.SoundExpressions.{no_expression, one_expression}
use Rattle.chi_core.specs.SoundParts.{TargetTakes, whole}
use Rattle.chi_core.specs.SoundTypes.{SoundType}
use Rattle.chi_core.specs.SoundTypes as types
use Rattle.chi_core.proofs.Erased.{kind_at}
use Rattle.chi_core.proofs.Lists.{every_nil, every_cons}
use Rattle.chi_core_rows.proofs.Building.{int_kind, channel_kind, slot_is}
use Rattle.chi_core_rows.proofs.Line.{slot, int}
use Rattle.chi_core_rows.proofs.SoundExample.{as_int, int_literal}

-- ---- a model that takes one value, and an experiment that runs it with 3

abbrev model_with : Ty → Option Ty → ProcDef
model_with param exit = record { name = codes "M"; params = param ∷ []; exit = exit; slots = param ∷ []; body = [] }

abbrev run_once : XStat
run_once = trial.RunModel 1 (slot 0) 0 (int 3 ∷ []) true

abbrev experiment : XperDef
experiment = record { name = codes "X"; slots = ty.Real ∷ []; body = run_once ∷ [] }

abbrev core_with : ProcDef → Core
core_with d = record { consts = []; funcs = []; procs = d ∷ []; model = 0; names = record { kinds = [] }; xpers = experiment ∷ [] }

abbrev scope_with : ProcDef → Scope
scope_with d = experiment_scope (core_with d) experiment

real_kind : kind_of ty.Real ≡ Ty-F.Real
real_kind = kind_at ty.Real Ty-F.Real ty.outs-Real

-- ---- one that takes and gives an int

abbrev of_ints : ProcDef
of_ints = model_with ty.Int (Some ty.Int)

takes_real : TargetTakes (scope_with of_ints) nothing_known 0 [] Ty-F.Real
takes_real = whole Ty-F.Real (slot_is (scope_with of_ints).slots 0 _ _ refl real_kind)

takes_plain : IsTrue (list_all is_plain_kind (kinds_of of_ints.params))
takes_plain = ap (λ T. list_all is_plain_kind (T ∷ [])) int_kind

run_is_sound : SoundXStat (scope_with of_ints) false nothing_known (XStat-F.RunModel 1 (slot 0) 0 (int 3 ∷ []) true)
run_is_sound = runs false nothing_known 1 (slot 0) 0 (int 3 ∷ []) true of_ints Ty-F.Int Ty-F.Real refl (ap Some int_kind) takes_plain
    (one_expression (int 3) [] (kind_of ty.Int) [] (as_int (scope_with of_ints) nothing_known (int 3) (int_literal (scope_with of_ints) nothing_known 3)) no_expression) as_a_real takes_real

pub experiment_is_sound : SoundExperiment (core_with of_ints) experiment
unfolding token_spelled_by keyword_of value_at
experiment_is_sound = record {
  name = refl;
  slots = every_cons (SoundIn (core_with of_ints)) ty.Real [] (subst (SoundType 0) (sym ty.outs-Real) types.real) (every_nil (SoundIn (core_with of_ints)));
  body = one_statement false nothing_known run_once [] (subst (SoundXStat (scope_with of_ints) false nothing_known) (sym (trial.outs-RunModel 1 (slot 0) 0 (int 3 ∷ []) true)) run_is_sound) (no_statement false _);
}

-- ---- no experiment runs a model that gives nothing, or that takes what isn't plain

module _ (scope : Scope) (known : Known) where
  run_of : (x : XStat) (layer : XStat-F XStat XBranch) → out-XStat x ≡ layer → SoundXBlock scope false known (x ∷ []) → SoundXStat scope false known layer
  run_of x layer out (one_statement _ _ _ _ h rest) = subst (SoundXStat scope false known) out h

  gives_value : (d : ProcDef) (line model : ℕ) (arguments : List CExpr) (widen : Bool) → slice_get scope.core.procs model ≡ Some d → SoundXStat scope false known (XStat-F.RunModel line (slot 0) model arguments widen)
      → (exit : Kind) × (exit_of d ≡ Some exit)
  gives_value d line model arguments widen there (runs _ _ _ _ _ _ _ c exit taken is gives plain has taking takes) = let same : c ≡ d = cc in (exit, ap exit_of (sym same) ∙ gives)

  takes_values : (d : ProcDef) (line model : ℕ) (arguments : List CExpr) (widen : Bool) → slice_get scope.core.procs model ≡ Some d → SoundXStat scope false known (XStat-F.RunModel line (slot 0) model arguments widen)
      → IsTrue (list_all is_plain_kind (kinds_of d.params))
  takes_values d line model arguments widen there (runs _ _ _ _ _ _ _ c exit taken is gives plain has taking takes) = let same : c ≡ d = cc in ap (λ (d : ProcDef). list_all is_plain_kind (kinds_of d.params)) (sym same) ∙ plain

run_in : (d : ProcDef) → SoundExperiment (core_with d) experiment → SoundXStat (scope_with d) false nothing_known (XStat-F.RunModel 1 (slot 0) 0 (int 3 ∷ []) true)
run_in d sound = run_of (scope_with d) nothing_known run_once _ (trial.outs-RunModel 1 (slot 0) 0 (int 3 ∷ []) true) sound.body

without_exit : SoundExperiment (core_with (model_with ty.Int None)) experiment → ⊥
without_exit sound =
    let g = gives_value (scope_with (model_with ty.Int None)) nothing_known (model_with ty.Int None) 1 0 (int 3 ∷ []) true refl (run_in _ sound) in
    let none : None ≡ Some g.0 = g.1 in
    absurd (cc)

abbrev of_channel : ProcDef
of_channel = model_with (ty.Chan way.Both ty.Int) (Some ty.Int)

with_channel : SoundExperiment (core_with of_channel) experiment → ⊥
with_channel sound =
    let plain = takes_values (scope_with of_channel) nothing_known of_channel 1 0 (int 3 ∷ []) true refl (run_in of_channel sound) in
    false≢true (ap (λ T. list_all is_plain_kind (T ∷ [])) (sym (channel_kind way.Both ty.Int)) ∙ plain)
