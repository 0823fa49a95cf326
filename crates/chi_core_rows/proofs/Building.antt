-- Building proofs of soundness: from a layer to the tree that has it.
use Rattle.std.proofs.Common.{◌≡◌, ℕ, Bool, Some, List, ◌∷◌, sym, subst, ap, ◌∙◌}
use Rattle.std.specs.Prelude.{slice_get}
use Rattle.chi_types.specs.declared.ty.Ty.{Ty, Ty-F}
use Rattle.chi_types.specs.declared.ty.Way.{Way}
use Rattle.chi_types.specs.declared.ty.Way.TheVariants as way
use Rattle.chi_types.specs.declared.ty.Ty.TheVariants as ty
use Rattle.chi_core.specs.declared.element.CElem.{CElem, CElem-F, out-CElem, fold_out-CElem, map-CElem}
use Rattle.chi_core.specs.declared.expression.CExpr.{CExpr, CExpr-F, out-CExpr}
use Rattle.chi_core.specs.declared.statement.CAlt.{CAlt, CAlt-F, out-CAlt, fold_out-CAlt, map-CAlt}
use Rattle.chi_core.specs.declared.statement.CStat.{CStat, out-CStat, fold_out-CStat, map-CStat}
use Rattle.chi_core.specs.declared.statement.Branch.{Branch}
use Rattle.chi_core.specs.Fills.{Fills, by_statement, by_statement_step, by_alternative, by_alternative_step, by_branch, by_branch_step, by_element, by_element_step}
use Rattle.chi_core.specs.Kinds.{Kind, erased, kind_of}
use Rattle.chi_core.specs.Scopes.{Scope}
use Rattle.chi_core.specs.SetSlots.{StatLayer, Known, sets}
use Rattle.chi_core.specs.SoundExpressions.{HasKind, HaveKinds, one_expression}
use Rattle.chi_core.specs.SoundStatements.{SoundStat, SoundBlock, one_statement, SoundAlternatives, SoundAlternative, one_alternative}
use Rattle.chi_core.proofs.Erased.{kind_at}

pub int_kind : kind_of ty.Int ≡ Ty-F.Int
int_kind = kind_at ty.Int Ty-F.Int ty.outs-Int

pub bool_kind : kind_of ty.Bool ≡ Ty-F.Bool
bool_kind = kind_at ty.Bool Ty-F.Bool ty.outs-Bool

pub channel_kind : (w : Way) (t : Ty) → kind_of (ty.Chan w t) ≡ Ty-F.Chan way.Both (erased t)
channel_kind w t = kind_at (ty.Chan w t) (Ty-F.Chan w t) (ty.outs-Chan w t)

pub slot_is : (kinds : List Kind) (slot : ℕ) (T U : Kind) → slice_get kinds slot ≡ Some T → T ≡ U → slice_get kinds slot ≡ Some U
slot_is kinds slot T U e same = e ∙ ap Some same

module _ (scope : Scope) where
  pub has : (known : Known) (e : CExpr) (layer : CExpr-F CExpr) (T : Kind) → out-CExpr e ≡ layer → HasKind scope known layer T → HasKind scope known (out-CExpr e) T
  has known e layer T out h = subst (λ z. HasKind scope known z T) (sym out) h

  pub with_expression : (known : Known) (e : CExpr) (es : List CExpr) (layer : CExpr-F CExpr) (T : Kind) (Ts : List Kind) → out-CExpr e ≡ layer → HasKind scope known layer T
      → HaveKinds scope known es Ts → HaveKinds scope known (e ∷ es) (T ∷ Ts)
  with_expression known e es layer T Ts out h rest = one_expression e es T Ts (has known e layer T out h) rest

  pub with_statement : (loop : Bool) (known : Known) (x : CStat) (xs : List CStat) (layer : StatLayer) → out-CStat x ≡ layer → SoundStat scope loop known layer
      → SoundBlock scope loop (sets layer known) xs → SoundBlock scope loop known (x ∷ xs)
  with_statement loop known x xs layer out h rest =
      one_statement loop known x xs (subst (SoundStat scope loop known) (sym out) h) (subst (λ z. SoundBlock scope loop (sets z known) xs) (sym out) rest)

  pub with_alternative : (loop : Bool) (known : Known) (a : CAlt) (more : List CAlt) (layer : CAlt-F CAlt CStat Branch) → out-CAlt a ≡ layer → SoundAlternative scope loop known layer
      → SoundAlternatives scope loop known more → SoundAlternatives scope loop known (a ∷ more)
  with_alternative loop known a more layer out h rest = one_alternative loop known a more (subst (SoundAlternative scope loop known) (sym out) h) rest

-- what sets slots, by the outermost layer

pub fills_at : (x : CStat) (layer : StatLayer) → out-CStat x ≡ layer
    → by_statement x ≡ by_statement_step (map-CStat CAlt CStat Branch Fills Fills Fills by_alternative by_statement by_branch layer)
fills_at x layer out =
    fold_out-CStat Fills Fills Fills by_alternative_step by_statement_step by_branch_step x
    ∙ ap (λ z. by_statement_step (map-CStat CAlt CStat Branch Fills Fills Fills by_alternative by_statement by_branch z)) out

pub alternative_fills_at : (a : CAlt) (layer : CAlt-F CAlt CStat Branch) → out-CAlt a ≡ layer
    → by_alternative a ≡ by_alternative_step (map-CAlt CAlt CStat Branch Fills Fills Fills by_alternative by_statement by_branch layer)
alternative_fills_at a layer out =
    fold_out-CAlt Fills Fills Fills by_alternative_step by_statement_step by_branch_step a
    ∙ ap (λ z. by_alternative_step (map-CAlt CAlt CStat Branch Fills Fills Fills by_alternative by_statement by_branch z)) out

pub element_fills_at : (e : CElem) (layer : CElem-F CElem) → out-CElem e ≡ layer → by_element e ≡ by_element_step (map-CElem CElem Fills by_element layer)
element_fills_at e layer out = fold_out-CElem Fills by_element_step e ∙ ap (λ z. by_element_step (map-CElem CElem Fills by_element z)) out
