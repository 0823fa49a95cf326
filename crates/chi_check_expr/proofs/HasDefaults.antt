-- Private to proofs. Each type that a tree means has a default, where each visible type has: the induction at that fact.
use Rattle.std.proofs.Common.{ℕ, suc, ◌≡◌, Bool, true, false, not, List, [], ◌∷◌, ◌++◌, map, length, Option, Some, None, refl, sym, ap, subst, ◌∙◌}
use Rattle.std.specs.Prelude.{option_map}
use Rattle.std.specs.Option.{option_and_then}
use Rattle.chi_token.specs.declared.place.Place.{Place}
use Rattle.chi_tree.specs.declared.type_tree.TypeTree.{TypeTree}
use Rattle.chi_tree.specs.declared.type_tree.TypeWord.{TypeWord}
use Rattle.chi_tree.specs.declared.type_tree.TypeWord.TheVariants as word
use Rattle.chi_types.specs.declared.ty.Ty.{Ty, Ty-F, out-Ty, map-Ty, fold_out-Ty}
use Rattle.chi_types.specs.declared.ty.Ty.TheVariants as ty
use Rattle.chi_types.specs.Same.{beside}
use Rattle.chi_value.specs.declared.shape.Shape.{Shape}
use Rattle.chi_value.specs.declared.shape.Shape.TheVariants as shape
use Rattle.chi_core.specs.declared.expression.CExpr.{CExpr}
use Rattle.chi_core.specs.declared.expression.CExpr.TheVariants as expression
use Rattle.chi_check_types.specs.declared.fault.Fault.{Fault}
use Rattle.chi_check_types.specs.declared.known.Known.{Known}
use Rattle.chi_check_types.specs.declared.known.Known.TheVariants as known
use Rattle.chi_check_types.specs.declared.known.NameKind.TheVariants as kind
use Rattle.chi_check_types.specs.declared.meant.Meant.{Meant}
use Rattle.chi_check_types.specs.declared.site.Site.{Site}
use Rattle.chi_check_types.specs.Defaults.{shape_of, shape_step, part_shapes, tuple_shape, dist_shape, drawn_shape, element_type, within, repeated, default_of}
use Rattle.chi_check_types.specs.Names.{Names}
use Rattle.chi_check_types.specs.Typed.{unless, broken_if}
use Rattle.chi_check_types.specs.TypeRules as types
use Rattle.chi_check_types.specs.TypeRules.{meaning, with_size, is_drawn}
use Rattle.chi_check_types.proofs.Shapes.{shape_of_tuple}
use Rattle.chi_check_expr.specs.Clean.{Clean, HaveDefaults}
use Rattle.chi_check_expr.specs.Typing.{reading}
use Rattle.chi_check_expr.proofs.Kept.{Good, Each, FieldOk, Keeps}
use Rattle.chi_check_expr.proofs.Exact.{Anything}
use Rattle.chi_check_expr.proofs.Induction.{reading_good}

abbrev HasShape : Ty → Type 0
HasShape t = (s : Shape) × (shape_of t ≡ Some s)

abbrev pub Defaulted : Meant → Type 0
Defaulted m = (s : Shape) × (option_and_then shape_of (within (length m.sizes) m.ty) ≡ Some s)

shape_at : (t : Ty) (o : Ty-F Ty) → out-Ty t ≡ o → shape_of t ≡ shape_step (map-Ty Ty (Option Shape) shape_of o)
shape_at t o h = fold_out-Ty (Option Shape) shape_step t ∙ ap (λ o. shape_step (map-Ty Ty (Option Shape) shape_of o)) h

-- what was made is what was to be made
unless_is : (fs : List Fault) (a m : Meant) → (unless fs a).made ≡ Some m → Defaulted a → Defaulted m
unless_is [] a m h d = let e : a ≡ m = cc in subst Defaulted e d
unless_is (f ∷ fs) a m h d = absurd (cc)

word_shape : (w : TypeWord) → HasShape (types.word_type w)
word_shape word.Bool = (shape.Bool, shape_at ty.Bool Ty-F.Bool ty.outs-Bool)
word_shape word.Int = (shape.Int, shape_at ty.Int Ty-F.Int ty.outs-Int)
word_shape word.Real = (shape.Real, shape_at ty.Real Ty-F.Real ty.outs-Real)
word_shape word.Text = (shape.Text, shape_at ty.Text Ty-F.Text ty.outs-Text)
word_shape word.Timer = (shape.Timer, shape_at ty.Timer Ty-F.Timer ty.outs-Timer)
word_shape word.Inst = (shape.Inst, shape_at ty.Inst Ty-F.Inst ty.outs-Inst)

list_shape : (t : Ty) → HasShape (ty.ListOf t)
list_shape t = (shape.ListOf, shape_at (ty.ListOf t) (Ty-F.ListOf t) (ty.outs-ListOf t))

-- a type within which others are has a shape, if it is a list of them
outer_on : (t : Ty) (o : Ty-F Ty) (n : ℕ) (s : Shape) → out-Ty t ≡ o → option_and_then shape_of (option_and_then (within n) (element_type o)) ≡ Some s → HasShape t
outer_on t (Ty-F.ListOf u) n s h e = (shape.ListOf, shape_at t (Ty-F.ListOf u) h)
outer_on t o n s h e = absurd (cc)

outer : (t : Ty) (sizes : List CExpr) (s : Shape) → option_and_then shape_of (within (length sizes) t) ≡ Some s → HasShape t
outer t [] s e = (s, e)
outer t (x ∷ xs) s e = outer_on t (out-Ty t) (length xs) s refl e

one_longer : (xs : List CExpr) (x : CExpr) → length (xs ++ x ∷ []) ≡ suc (length xs)
one_longer [] x = refl
one_longer (y ∷ xs) x = ap suc (one_longer xs x)

sized_default : (element : Meant) (size : CExpr) → Defaulted element → Defaulted (with_size element size)
sized_default element size d = (
  d.0,
  ap (λ n. option_and_then shape_of (within n (ty.ListOf element.ty))) (one_longer element.sizes size)
      ∙ ap (λ o. option_and_then shape_of (option_and_then (within (length element.sizes)) (element_type o))) (ty.outs-ListOf element.ty) ∙ d.1,
)

drawn_on : (t : Ty) (o : Ty-F Ty) → out-Ty t ≡ o → is_drawn o ≡ true → HasShape (ty.Dist t)
drawn_on t Ty-F.Bool h e = (shape.DistBool, shape_at (ty.Dist t) (Ty-F.Dist t) (ty.outs-Dist t) ∙ ap dist_shape (shape_at t Ty-F.Bool h) ∙ ap drawn_shape shape.outs-Bool)
drawn_on t Ty-F.Int h e = (shape.DistInt, shape_at (ty.Dist t) (Ty-F.Dist t) (ty.outs-Dist t) ∙ ap dist_shape (shape_at t Ty-F.Int h) ∙ ap drawn_shape shape.outs-Int)
drawn_on t Ty-F.Real h e = (shape.DistReal, shape_at (ty.Dist t) (Ty-F.Dist t) (ty.outs-Dist t) ∙ ap dist_shape (shape_at t Ty-F.Real h) ∙ ap drawn_shape shape.outs-Real)
drawn_on t o h e = absurd (cc)

dist_default : (t : Ty) (b : Bool) (rule : ℕ) (place : Place) (ds : List Fault) (m : Meant) → is_drawn (out-Ty t) ≡ b → (unless (broken_if (not b) rule place ++ ds) (meaning (ty.Dist t))).made ≡ Some m → Defaulted m
dist_default t true rule place ds m e h = unless_is ds (meaning (ty.Dist t)) m h (drawn_on t (out-Ty t) refl e)
dist_default t false rule place ds m e h = absurd (cc)

parts_shaped : (parts : List (List ℕ × Ty)) → Each (FieldOk Defaulted) parts → (ss : List Shape) × (part_shapes (map (beside shape_of) parts) ≡ Some ss)
parts_shaped [] g = ([], refl)
parts_shaped (p ∷ ps) g =
    let rest = parts_shaped ps g.1 in
    let m = g.0.0 in
    let s = outer m.ty m.sizes g.0.1.0 g.0.1.1 in
    (s.0 ∷ rest.0, (λ i. option_and_then (λ s. option_map (λ ss. s ∷ ss) (rest.1 i)) ((ap shape_of (sym g.0.2) ∙ s.1) i)))

tuple_default : (parts : List (List ℕ × Ty)) → Each (FieldOk Defaulted) parts → HasShape (ty.TupleOf parts)
tuple_default parts g = let ss = parts_shaped parts g in (shape.TupleOf ss.0, shape_of_tuple (ty.TupleOf parts) parts refl ∙ ap tuple_shape ss.1)

kind_default : (place : Place) (k : Known) (m : Meant) → ((t : Ty) → k ≡ known.Kind t → HasShape t) → (types.visible_type place (Some k)).made ≡ Some m → Defaulted m
kind_default place (known.Kind t) m d h = unless_is _ (meaning t) m h (d t refl)
kind_default place (known.Untyped kind.Type) m d h = absurd (cc)
kind_default place k m d h = absurd (cc)

module _ (site : Site) (names : Names) (defaults : HaveDefaults names) where
  keeps_defaults : Keeps site names Anything Defaulted
  keeps_defaults = record {
    int = λ _ _ _. tt;
    real = λ _ _ _. tt;
    text = λ _. tt;
    bool = λ _. tt;
    time = λ _ _ _. tt;
    name = λ _ _ _ _ _. tt;
    chain = λ _ _ _ _ _ _ _ _. tt;
    prefix = λ _ _ _ _ _ _. tt;
    relation = λ _ _ _ _ _ _ _ _. tt;
    power = λ _ _ _ _ _ _ _. tt;
    cast = λ _ _ _ _ _ _. tt;
    index = λ _ _ _ _ _ _ _. tt;
    slice = λ _ _ _ _ _ _ _ _. tt;
    field = λ _ _ _ _ _. tt;
    call = λ _ _ _ _ _ _ _. tt;
    predefined_name = λ _ _ _ _ _ _. tt;
    insertion = λ _ _ _ _ _ _ _ _ _ _. tt;
    tuple = λ _ _ _ _ _. tt;
    list = λ _ _ _ _ _. tt;
    set = λ _ _ _ _ _. tt;
    dict = λ _ _ _ _ _ _ _. tt;
    empty_list = λ _ _ _ _ _. tt;
    empty_set = λ _ _ _ _ _. tt;
    empty_dict = λ _ _ _ _ _ _ _. tt;
    word = λ place w m h. unless_is _ (meaning (types.word_type w)) m h (word_shape w);
    named_type = λ name k m known h. kind_default name.place k m (λ t e. defaults name.text t (known ∙ ap Some e)) h;
    list_type = λ place element m d h. unless_is _ (meaning (ty.ListOf element.ty)) m h (list_shape element.ty);
    sized_list = λ place sizes size element m u d h. unless_is _ (with_size element size.core) m h (sized_default element size.core d);
    set_type = λ place element m d h. unless_is _ (meaning (ty.SetOf element.ty)) m h (shape.SetOf, shape_at (ty.SetOf element.ty) (Ty-F.SetOf element.ty) (ty.outs-SetOf element.ty));
    dict_type = λ place key value m d e h. unless_is _ (meaning (ty.DictOf key.ty value.ty)) m h (shape.DictOf, shape_at (ty.DictOf key.ty value.ty) (Ty-F.DictOf key.ty value.ty) (ty.outs-DictOf key.ty value.ty));
    dist = λ place drawn m d h. dist_default drawn.ty (is_drawn (out-Ty drawn.ty)) _ place _ m refl h;
    tuple_type = λ place fields parts m g h. unless_is _ (meaning (ty.TupleOf parts)) m h (tuple_default parts g);
    chan = λ place way carried m d h. unless_is _ (meaning (ty.Chan (types.way_of way) carried.ty)) m h (shape.Chan, shape_at (ty.Chan (types.way_of way) carried.ty) (Ty-F.Chan (types.way_of way) carried.ty) (ty.outs-Chan (types.way_of way) carried.ty));
    void_chan = λ place way m h. unless_is _ (meaning (ty.Chan (types.way_of way) ty.Void)) m h (shape.Chan, shape_at (ty.Chan (types.way_of way) ty.Void) (Ty-F.Chan (types.way_of way) ty.Void) (ty.outs-Chan (types.way_of way) ty.Void));
  }

  of_good : (fs : List Fault) (o : Option Meant) (m : Meant) → Good Defaulted fs o → o ≡ Some m → Defaulted m
  of_good fs None m g e = absurd (cc)
  of_good fs (Some a) m g e = let h : a ≡ m = cc in subst Defaulted h g.1

  pub meant_default : Clean names → (t : TypeTree) (sizes : Bool) (m : Meant) → (reading site names t sizes).made ≡ Some m → default_of m.ty m.sizes ≡ None → ⊥
  meant_default clean t sizes m h n =
      let d = of_good (reading site names t sizes).faults (reading site names t sizes).made m (reading_good Anything Defaulted site names clean keeps_defaults t sizes) h in
      let s : default_of m.ty m.sizes ≡ Some (repeated m.sizes (expression.Default d.0)) = ap (option_map (λ s. repeated m.sizes (expression.Default s))) d.1 in
      absurd (cc)
