-- The constants, one after another, and then the model.
use Rattle.std.proofs.Common.{◌≡◌, ◌≢◌, ℕ, ◌+◌, ◌<◌, ◌≤◌, ℤ, pos, List, [], ◌∷◌, ◌++◌, Option, Some, None, length, drop, sym, ◌∙◌, ap}
use Rattle.std.specs.Prelude.{codes, MatchOption}
use Rattle.std.specs.List.{slice_get}
use Rattle.std.proofs.lemmas.List.{drop_more, drop_all}
use Rattle.std.proofs.lemmas.Option.{slice_get_within, get_or_from_slice_get}
use Rattle.chi_value.specs.declared.value.Value.{Value}
use Rattle.chi_core.specs.declared.fault.FaultKind.{FaultKind}
use Rattle.chi_core.specs.declared.program.ConstDef.{ConstDef}
use Rattle.chi_core.specs.declared.program.Core.{Core}
use Rattle.chi_core.specs.declared.program.ProcDef.{ProcDef}
use Rattle.chi_core.specs.declared.verdict.Verdict.TheVariants.{Fault}
use Rattle.chi_core.specs.declared.view.View.{View}
use Rattle.chi_core.specs.Answer as answer
use Rattle.chi_core.specs.Answer.{Answer, Gives, Fails}
use Rattle.chi_core.specs.Config.{Config}
use Rattle.chi_core.specs.Beginning.{Beginning, Begins, Breaks, Amiss, constant_value, with_constant, model_begins, first_config, begins_after}
use Rattle.chi_core.specs.Starting.{started_by}

drop_at : {A : Type 0} (xs : List A) (k : ℕ) (x : A) → slice_get xs k ≡ Some x → drop k xs ≡ x ∷ drop (k + 1) xs
drop_at xs k x at = drop_more xs k x (slice_get_within xs k x at) ∙ ap (λ y. y ∷ drop (k + 1) xs) (get_or_from_slice_get xs k x x at)

module _ (core : Core) (arguments : List Value) (seed : ℕ) (until : Option ℤ) (values : List Value) (k : ℕ) (c : ConstDef) (whole : Beginning) (h : k < length core.consts)
    (at : slice_get core.consts k ≡ Some c) (e : whole ≡ begins_after core arguments seed until values (drop k core.consts)) where
  abbrev rest : List Value → Beginning
  rest more = begins_after core arguments seed until more (drop (k + 1) core.consts)

  turn : whole ≡ with_constant core arguments seed until rest values c (constant_value core seed values c)
  turn = e ∙ ap (begins_after core arguments seed until values) (drop_at core.consts k c at)

  pub begin_well : whole ≢ Amiss → constant_value core seed values c ≢ answer.Amiss
  begin_well well a = well (turn ∙ ap (with_constant core arguments seed until rest values c) a)

  pub begin_more : (v : Value) (view : View) → constant_value core seed values c ≡ Gives v view → whole ≡ begins_after core arguments seed until (values ++ v ∷ []) (drop (k + 1) core.consts)
  begin_more v view g = turn ∙ ap (with_constant core arguments seed until rest values c) g

  pub begin_breaks : (kind : FaultKind) → constant_value core seed values c ≡ Fails kind
      → whole ≡ Breaks (record { verdict = Fault kind (codes "const") c.line; clock = pos 0 })
  begin_breaks kind g = turn ∙ ap (with_constant core arguments seed until rest values c) g

  pub begin_spent : constant_value core seed values c ≡ answer.Spent → whole ≡ Amiss
  begin_spent g = turn ∙ ap (with_constant core arguments seed until rest values c) g

module _ (core : Core) (arguments : List Value) (seed : ℕ) (until : Option ℤ) (values : List Value) (k : ℕ) (whole : Beginning) (h : length core.consts ≤ k)
    (e : whole ≡ begins_after core arguments seed until values (drop k core.consts)) where
  last : whole ≡ model_begins seed until arguments values core.model (started_by core.procs core.model (length arguments))
  last = e ∙ ap (begins_after core arguments seed until values) (drop_all k core.consts h)

  pub begin_model : whole ≢ Amiss → started_by core.procs core.model (length arguments) ≢ None
  begin_model well none = well (last ∙ ap (model_begins seed until arguments values core.model) none)

  pub begin_first : (config : Config) → MatchOption (started_by core.procs core.model (length arguments)) ⊥ (λ d. config ≡ first_config seed until arguments values core.model d)
      → whole ≡ Begins config
  begin_first config is = last ∙ by_model (started_by core.procs core.model (length arguments)) is
    where
      by_model : (o : Option ProcDef) → MatchOption o ⊥ (λ d. config ≡ first_config seed until arguments values core.model d)
          → model_begins seed until arguments values core.model o ≡ Begins config
      by_model None m = absurd m
      by_model (Some d) m = ap Begins (sym m)
