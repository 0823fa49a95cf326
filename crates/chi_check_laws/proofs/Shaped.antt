-- Private to proofs. What a type means has a default: every type that comes of a tree has a shape.
use Rattle.std.proofs.Common.{ℕ, suc, ◌≡◌, Bool, true, false, not, List, [], ◌∷◌, ◌++◌, map, length, Option, Some, None, refl, sym, ap, subst, ◌∙◌}
use Rattle.std.specs.Option.{option_and_then}
use Rattle.chi_token.specs.declared.place.Place.{Place}
use Rattle.chi_tree.specs.declared.type_tree.TypeTree.{TypeTree}
use Rattle.chi_tree.specs.declared.type_tree.TypeWord.{TypeWord}
use Rattle.chi_tree.specs.declared.type_tree.TypeWord.TheVariants as word
use Rattle.chi_types.specs.declared.ty.Ty.{Ty, Ty-F, out-Ty, map-Ty, fold_out-Ty}
use Rattle.chi_types.specs.declared.ty.Ty.TheVariants as ty
use Rattle.chi_types.specs.Same.{beside}
use Rattle.chi_value.specs.declared.shape.Shape.{Shape, out-Shape}
use Rattle.chi_value.specs.declared.shape.Shape.TheVariants as shape
use Rattle.chi_core.specs.declared.expression.CExpr.{CExpr}
use Rattle.chi_core.specs.declared.expression.CExpr.TheVariants as expression
use Rattle.chi_check_types.specs.declared.fault.Fault.{Fault}
use Rattle.chi_check_types.specs.declared.known.Known.{Known}
use Rattle.chi_check_types.specs.declared.known.Known.TheVariants as known
use Rattle.chi_check_types.specs.declared.meant.Meant.{Meant}
use Rattle.chi_check_types.specs.declared.rules.TheConstants.{DISTRIBUTION}
use Rattle.chi_check_types.specs.declared.site.Site.{Site}
use Rattle.chi_check_types.specs.Defaults.{shape_of, shape_step, part_shapes, tuple_shape, dist_shape, drawn_shape, element_type, within, repeated, default_of}
use Rattle.chi_check_types.specs.Names.{Names}
use Rattle.chi_check_types.specs.Typed.{broken_if, unless}
use Rattle.chi_check_types.specs.TypeRules.{is_drawn, meaning, depth_rule, of_type, word_type, visible_type, plain_rule, dist_of, way_of, size_rule, with_size, names_rule}
use Rattle.chi_check_expr.specs.Clean.{Clean}
use Rattle.chi_check_expr.specs.Typing.{reading}
use Rattle.chi_check_expr.proofs.Exact.{Anything}
use Rattle.chi_check_expr.proofs.Induction.{reading_good}
use Rattle.chi_check_expr.proofs.Kept.{GoodTyped, Each, FieldOk, Keeps}
use Rattle.chi_check_laws.proofs.Entries.{Entries, known_entry}
use Rattle.chi_check_laws.proofs.WholeHeaders.{Comes, mapped_comes, unmapped_comes, both_comes}

-- a type has a shape
abbrev pub HasShape : Ty → Type 0
HasShape t = Comes (shape_of t)

-- and what is meant has a default
abbrev pub Shaped : Meant → Type 0
Shaped m = HasShape m.ty × Comes (default_of m.ty m.sizes)

-- a name has a type, and a type that it stands for has a shape
abbrev pub Fine : Known → Type 0
Fine (known.Untyped k) = ⊥
Fine (known.Kind t) = HasShape t
Fine (known.Var slot t) = Unit {0}
Fine (known.Fixed slot t) = Unit {0}
Fine (known.Const number t) = Unit {0}
Fine (known.Value enumeration position) = Unit {0}
Fine (known.Func number params result) = Unit {0}
Fine (known.Proc number params exit) = Unit {0}
Fine (known.Model number params exit) = Unit {0}
Fine (known.Xper number) = Unit {0}

pub clean_of : (names : Names) → Entries Fine names → Clean names
clean_of names fine name k e = known_entry Fine names name (known.Untyped k) fine e

-- ---- shapes of types

shape_at : (t : Ty) (layer : Ty-F Ty) → out-Ty t ≡ layer → shape_of t ≡ shape_step (map-Ty Ty (Option Shape) shape_of layer)
shape_at t layer h = fold_out-Ty (Option Shape) shape_step t ∙ ap (λ o. shape_step (map-Ty Ty (Option Shape) shape_of o)) h

has_at : (t : Ty) (layer : Ty-F Ty) → out-Ty t ≡ layer → Comes (shape_step (map-Ty Ty (Option Shape) shape_of layer)) → HasShape t
has_at t layer h c = subst Comes (sym (shape_at t layer h)) c

word_shape : (w : TypeWord) → HasShape (word_type w)
word_shape word.Bool = has_at ty.Bool Ty-F.Bool ty.outs-Bool tt
word_shape word.Int = has_at ty.Int Ty-F.Int ty.outs-Int tt
word_shape word.Real = has_at ty.Real Ty-F.Real ty.outs-Real tt
word_shape word.Text = has_at ty.Text Ty-F.Text ty.outs-Text tt
word_shape word.Timer = has_at ty.Timer Ty-F.Timer ty.outs-Timer tt
word_shape word.Inst = has_at ty.Inst Ty-F.Inst ty.outs-Inst tt

pub choice_shape : (enumeration : ℕ) → HasShape (ty.Choice enumeration)
choice_shape enumeration = has_at (ty.Choice enumeration) (Ty-F.Choice enumeration) (ty.outs-Choice enumeration) tt

dist_of_shape : (s : Shape) (o : Option Shape) → o ≡ Some s → Comes (drawn_shape (out-Shape s)) → Comes (dist_shape o)
dist_of_shape s None e c = absurd (cc)
dist_of_shape s (Some u) e c =
    let same : s ≡ u = cc in
    subst (λ u. Comes (drawn_shape (out-Shape u))) same c

drawn_comes : (t : Ty) (layer : Ty-F Ty) → out-Ty t ≡ layer → is_drawn layer ≡ true → Comes (dist_shape (shape_of t))
drawn_comes t Ty-F.Bool h d = dist_of_shape shape.Bool (shape_of t) (shape_at t Ty-F.Bool h) (subst (λ s. Comes (drawn_shape s)) (sym shape.outs-Bool) tt)
drawn_comes t Ty-F.Int h d = dist_of_shape shape.Int (shape_of t) (shape_at t Ty-F.Int h) (subst (λ s. Comes (drawn_shape s)) (sym shape.outs-Int) tt)
drawn_comes t Ty-F.Real h d = dist_of_shape shape.Real (shape_of t) (shape_at t Ty-F.Real h) (subst (λ s. Comes (drawn_shape s)) (sym shape.outs-Real) tt)
drawn_comes t _ h d = absurd (cc)

parts_comes : (parts : List (List ℕ × Ty)) → Each (FieldOk Shaped) parts → Comes (part_shapes (map (beside shape_of) parts))
parts_comes [] h = tt
parts_comes (part ∷ parts) h = both_comes (λ s ss. s ∷ ss) (shape_of part.1) (part_shapes (map (beside shape_of) parts)) (subst HasShape h.0.2 h.0.1.0) (parts_comes parts h.1)

tuple_comes : (o : Option (List Shape)) → Comes o → Comes (tuple_shape o)
tuple_comes None c = absurd c
tuple_comes (Some shapes) c = tt

-- ---- what is meant

unless_made : {A : Type 0} (fs : List Fault) (a m : A) → (unless fs a).made ≡ Some m → a ≡ m
unless_made [] a m e = cc
unless_made (f ∷ fs) a m e = absurd (cc)

unbroken : {A : Type 0} (holds : Bool) (rule : ℕ) (place : Place) (fs : List Fault) (a m : A) → (unless (broken_if (not holds) rule place ++ fs) a).made ≡ Some m → holds ≡ true
unbroken true rule place fs a m e = refl
unbroken false rule place fs a m e = absurd (cc)

plain_shaped : (place : Place) (own : List Fault) (t : Ty) (m : Meant) → HasShape t → (of_type place own (meaning t)).made ≡ Some m → Shaped m
plain_shaped place own t m h e = subst Shaped (unless_made (own ++ depth_rule place t) (meaning t) m e) (h, mapped_comes (λ s. repeated [] (expression.Default s)) (shape_of t) h)

length_more : (es : List CExpr) (e : CExpr) → length (es ++ e ∷ []) ≡ suc (length es)
length_more [] e = refl
length_more (x ∷ es) e = ap suc (length_more es e)

within_list : (n : ℕ) (t : Ty) → within (suc n) (ty.ListOf t) ≡ within n t
within_list n t = ap (λ o. option_and_then (within n) (element_type o)) (ty.outs-ListOf t)

with_size_shaped : (element : Meant) (size : CExpr) → Shaped element → Shaped (with_size element size)
with_size_shaped element size h =
    let few : within (length (element.sizes ++ size ∷ [])) (ty.ListOf element.ty) ≡ within (length element.sizes) element.ty = ap (λ n. within n (ty.ListOf element.ty)) (length_more element.sizes size) ∙ within_list (length element.sizes) element.ty in
    let found = unmapped_comes (λ s. repeated element.sizes (expression.Default s)) (option_and_then shape_of (within (length element.sizes) element.ty)) h.1 in (
      has_at (ty.ListOf element.ty) (Ty-F.ListOf element.ty) (ty.outs-ListOf element.ty) tt,
      mapped_comes (λ s. repeated (element.sizes ++ size ∷ []) (expression.Default s)) (option_and_then shape_of (within (length (element.sizes ++ size ∷ [])) (ty.ListOf element.ty))) (subst (λ o. Comes (option_and_then shape_of o)) (sym few) found),
    )

name_shaped : (place : Place) (k : Known) (m : Meant) → Fine k → (visible_type place (Some k)).made ≡ Some m → Shaped m
name_shaped place (known.Kind t) m h e = plain_shaped place [] t m h e
name_shaped place (known.Untyped k) m h e = absurd h
name_shaped place _ m h e = absurd (cc)

dist_shaped : (place : Place) (drawn m : Meant) → (dist_of place (Some drawn)).made ≡ Some m → Shaped m
dist_shaped place drawn m e =
    let holds : is_drawn (out-Ty drawn.ty) ≡ true = unbroken (is_drawn (out-Ty drawn.ty)) DISTRIBUTION place (depth_rule place (ty.Dist drawn.ty)) (meaning (ty.Dist drawn.ty)) m e in
    plain_shaped place _ (ty.Dist drawn.ty) m (has_at (ty.Dist drawn.ty) (Ty-F.Dist drawn.ty) (ty.outs-Dist drawn.ty) (drawn_comes drawn.ty (out-Ty drawn.ty) refl holds)) e

keeps_shaped : (site : Site) (names : Names) → Entries Fine names → Keeps site names Anything Shaped
keeps_shaped site names fine = record {
  int = λ _ _ _. tt;
  real = λ _ _ _. tt;
  text = λ _. tt;
  bool = λ _. tt;
  time = λ _ _ _. tt;
  name = λ _ _ _ _ _. tt;
  chain = λ _ _ _ _ _ _ _ _. tt;
  prefix = λ _ _ _ _ _ _. tt;
  relation = λ _ _ _ _ _ _ _ _. tt;
  power = λ _ _ _ _ _ _ _. tt;
  cast = λ _ _ _ _ _ _. tt;
  index = λ _ _ _ _ _ _ _. tt;
  slice = λ _ _ _ _ _ _ _ _. tt;
  field = λ _ _ _ _ _. tt;
  call = λ _ _ _ _ _ _ _. tt;
  predefined_name = λ _ _ _ _ _ _. tt;
  insertion = λ _ _ _ _ _ _ _ _ _ _. tt;
  tuple = λ _ _ _ _ _. tt;
  list = λ _ _ _ _ _. tt;
  set = λ _ _ _ _ _. tt;
  dict = λ _ _ _ _ _ _ _. tt;
  empty_list = λ _ _ _ _ _. tt;
  empty_set = λ _ _ _ _ _. tt;
  empty_dict = λ _ _ _ _ _ _ _. tt;
  word = λ place w m e. plain_shaped place [] (word_type w) m (word_shape w) e;
  named_type = λ name k m found e. name_shaped name.place k m (known_entry Fine names name.text k fine found) e;
  list_type = λ place element m h e. plain_shaped place [] (ty.ListOf element.ty) m (has_at (ty.ListOf element.ty) (Ty-F.ListOf element.ty) (ty.outs-ListOf element.ty) tt) e;
  sized_list = λ place sizes size element m h k e. subst Shaped (unless_made (size_rule place sizes (Some size) ++ depth_rule place (ty.ListOf element.ty)) (with_size element size.core) m e) (with_size_shaped element size.core k);
  set_type = λ place element m h e. plain_shaped place (plain_rule place (Some element)) (ty.SetOf element.ty) m (has_at (ty.SetOf element.ty) (Ty-F.SetOf element.ty) (ty.outs-SetOf element.ty) tt) e;
  dict_type = λ place key value m h k e. plain_shaped place (plain_rule place (Some key)) (ty.DictOf key.ty value.ty) m (has_at (ty.DictOf key.ty value.ty) (Ty-F.DictOf key.ty value.ty) (ty.outs-DictOf key.ty value.ty) tt) e;
  dist = λ place drawn m h e. dist_shaped place drawn m e;
  tuple_type = λ place fields parts m h e. plain_shaped place (names_rule [] fields) (ty.TupleOf parts) m
      (has_at (ty.TupleOf parts) (Ty-F.TupleOf parts) (ty.outs-TupleOf parts) (tuple_comes (part_shapes (map (beside shape_of) parts)) (parts_comes parts h))) e;
  chan = λ place way carried m h e. plain_shaped place [] (ty.Chan (way_of way) carried.ty) m (has_at (ty.Chan (way_of way) carried.ty) (Ty-F.Chan (way_of way) carried.ty) (ty.outs-Chan (way_of way) carried.ty) tt) e;
  void_chan = λ place way m e. plain_shaped place [] (ty.Chan (way_of way) ty.Void) m (has_at (ty.Chan (way_of way) ty.Void) (Ty-F.Chan (way_of way) ty.Void) (ty.outs-Chan (way_of way) ty.Void) tt) e;
}

-- a type means something with a default exactly where no rule is broken
pub reading_shaped : (site : Site) (names : Names) → Entries Fine names → (t : TypeTree) (sizes : Bool) → GoodTyped Shaped (reading site names t sizes)
reading_shaped site names fine t sizes = reading_good Anything Shaped site names (clean_of names fine) (keeps_shaped site names fine) t sizes
