-- What the signs between two sums make is sound.
use Rattle.std.proofs.Common.{◌≡◌, true, false, List, [], ◌∷◌, Some, refl, sym, ap, subst, ◌∙◌}
use Rattle.std.proofs.lemmas.Bool.{and_parts}
use Rattle.std.specs.Option.{option_and_then}
use Rattle.std.specs.Prelude.{◌&&◌}
use Rattle.chi_tree.specs.declared.operator.RelationSign.{RelationSign}
use Rattle.chi_tree.specs.declared.operator.RelationSign.TheVariants as sign
use Rattle.chi_types.specs.declared.ty.Ty.{Ty, Ty-F, out-Ty, map-Ty}
use Rattle.chi_types.specs.declared.ty.Ty.TheVariants as ty
use Rattle.chi_types.specs.Fits.{fits}
use Rattle.chi_types.specs.Joined.{joined}
use Rattle.chi_types.specs.Plain.{is_plain}
use Rattle.chi_types.specs.Same.{same}
use Rattle.chi_core.specs.declared.op_name.OpName.{OpName}
use Rattle.chi_core.specs.declared.op_name.OpName.TheVariants as op
use Rattle.chi_core.specs.Kinds.{Kind, kind_of, erased, without_ways_and_names, is_plain_kind}
use Rattle.chi_core.specs.OperatorKinds as row
use Rattle.chi_core.specs.OperatorKinds.{OpKind, depends_on_run, is_ordered}
use Rattle.chi_core.specs.Scopes.{Scope}
use Rattle.chi_core.specs.SetSlots.{Known as Set}
use Rattle.chi_core.proofs.Erased.{kind_at, same_kind}
use Rattle.chi_check_types.specs.declared.meant.Made.{Made}
use Rattle.chi_check_expr_rules.specs.Conversions.{converted, as_they_are, both_as}
use Rattle.chi_check_expr_rules.specs.Comparisons.{if_plain, equality, has_order, if_ordered, ordering, member_type, if_member, member_of, membership, is_set, subset, related}
use Rattle.chi_check_laws.specs.KnownNames.{Has}
use Rattle.chi_check_laws.proofs.TypeKinds.{kind_bool, sound_bool, joined_serves, plain_kind, plain_erased}
use Rattle.chi_check_laws.proofs.Conversions.{Sounds, always, as_they_are_sound, both_sound, chained, chosen, fits_has, mapped, operation_sound, some_is, two_of}

ordered_layer : (layer : Ty-F Ty) → has_order layer ≡ true → is_ordered (without_ways_and_names (map-Ty Ty Ty erased layer)) ≡ true
ordered_layer Ty-F.Int h = refl
ordered_layer Ty-F.Real h = refl
ordered_layer Ty-F.Text h = refl
ordered_layer (Ty-F.Choice enumeration) h = refl
ordered_layer _ h = absurd (cc)

ordered_kind : (t : Ty) → has_order (out-Ty t) ≡ true → is_ordered (kind_of t) ≡ true
ordered_kind t h = ap is_ordered (kind_at t (out-Ty t) refl) ∙ ordered_layer (out-Ty t) h

module _ (scope : Scope) (set : Set) where
  -- two operands of one kind, and a bool
  joined_sound : (name : OpName) (t : Ty) → OpKind name (kind_of t ∷ kind_of t ∷ []) Ty-F.Bool → depends_on_run name (kind_of t ∷ kind_of t ∷ []) ≡ false → (a b m : Made) → joined a.ty b.ty ≡ Some t
      → Sounds scope set a → Sounds scope set b → both_as name t a b ty.Bool ≡ m → Sounds scope set m
  joined_sound name t r still a b m is h k e =
      let serve = joined_serves a.ty b.ty t is in
      both_sound scope set name t a b ty.Bool (kind_of t) Ty-F.Bool m r (always scope.role name _ still) refl kind_bool (sound_bool _) serve.0 serve.1 h k e

  equality_sound : (name : OpName) → ((T : Kind) → is_plain_kind T ≡ true → OpKind name (T ∷ T ∷ []) Ty-F.Bool) → ((Ts : List Kind) → depends_on_run name Ts ≡ false) → (a b m : Made)
      → Sounds scope set a → Sounds scope set b → equality name a b ≡ Some m → Sounds scope set m
  equality_sound name r still a b m h k e =
      let f = mapped (λ t. both_as name t a b ty.Bool) (option_and_then if_plain (joined a.ty b.ty)) m e in
      let g = chained if_plain (joined a.ty b.ty) f.0 f.1 in
      let c = chosen (is_plain g.0) g.0 f.0 g.2 in
      joined_sound name g.0 (r (kind_of g.0) (plain_kind g.0 c.0)) (still _) a b m g.1 h k (ap (λ t. both_as name t a b ty.Bool) c.1 ∙ f.2)

  ordering_sound : (name : OpName) → ((T : Kind) → is_ordered T ≡ true → OpKind name (T ∷ T ∷ []) Ty-F.Bool) → ((Ts : List Kind) → depends_on_run name Ts ≡ false) → (a b m : Made)
      → Sounds scope set a → Sounds scope set b → ordering name a b ≡ Some m → Sounds scope set m
  ordering_sound name r still a b m h k e =
      let f = mapped (λ t. both_as name t a b ty.Bool) (option_and_then if_ordered (joined a.ty b.ty)) m e in
      let g = chained if_ordered (joined a.ty b.ty) f.0 f.1 in
      let c = chosen (has_order (out-Ty g.0)) g.0 f.0 g.2 in
      joined_sound name g.0 (r (kind_of g.0) (ordered_kind g.0 c.0)) (still _) a b m g.1 h k (ap (λ t. both_as name t a b ty.Bool) c.1 ∙ f.2)

  member_sound : (a b m : Made) (t : Ty) (K : Kind) → kind_of b.ty ≡ K → (is_plain t ≡ true → OpKind op.In (kind_of t ∷ K ∷ []) Ty-F.Bool) → Sounds scope set a → Sounds scope set b
      → (is_plain t && fits a.ty t) ≡ true → member_of a b t ≡ m → Sounds scope set m
  member_sound a b m t K is r h k holds e =
      let both = and_parts _ _ holds in
      operation_sound scope set op.In (converted a t ∷ b.core ∷ []) (kind_of t ∷ K ∷ []) ty.Bool Ty-F.Bool m (r both.0) (always scope.role op.In _ refl) kind_bool
      (two_of scope set _ _ _ _ (fits_has scope set a t both.1 h) (subst (Has scope set b.core) is k.kind)) (sound_bool _) e

  membership_by : (a b m : Made) → Sounds scope set a → Sounds scope set b → (layer : Ty-F Ty) → out-Ty b.ty ≡ layer → (t : Ty) → member_type layer ≡ Some t → (is_plain t && fits a.ty t) ≡ true → member_of a b t ≡ m → Sounds scope set m
  membership_by a b m h k (Ty-F.ListOf u) p t is holds e =
      member_sound a b m t (Ty-F.ListOf (erased t)) (kind_at b.ty _ p ∙ ap (λ t. Ty-F.ListOf (erased t)) (some_is u t is)) (λ plain. row.in_list (erased t) (plain_erased t plain)) h k holds e
  membership_by a b m h k (Ty-F.SetOf u) p t is holds e =
      member_sound a b m t (Ty-F.SetOf (erased t)) (kind_at b.ty _ p ∙ ap (λ t. Ty-F.SetOf (erased t)) (some_is u t is)) (λ plain. row.in_set (erased t)) h k holds e
  membership_by a b m h k (Ty-F.DictOf u v) p t is holds e =
      member_sound a b m t (Ty-F.DictOf (erased t) (erased v)) (kind_at b.ty _ p ∙ ap (λ t. Ty-F.DictOf (erased t) (erased v)) (some_is u t is)) (λ plain. row.in_dictionary (erased t) (erased v)) h k holds e
  membership_by a b m h k _ p t is holds e = absurd (cc)

  membership_sound : (a b m : Made) → Sounds scope set a → Sounds scope set b → membership a b ≡ Some m → Sounds scope set m
  membership_sound a b m h k e =
      let f = mapped (member_of a b) (option_and_then (if_member a.ty) (member_type (out-Ty b.ty))) m e in
      let g = chained (if_member a.ty) (member_type (out-Ty b.ty)) f.0 f.1 in
      let c = chosen (is_plain g.0 && fits a.ty g.0) g.0 f.0 g.2 in
      membership_by a b m h k (out-Ty b.ty) refl g.0 g.1 c.0 (ap (member_of a b) c.1 ∙ f.2)

  subset_by : (a b m : Made) → Sounds scope set a → Sounds scope set b → (layer : Ty-F Ty) → out-Ty a.ty ≡ layer → is_set layer ≡ true → same a.ty b.ty ≡ true → as_they_are op.Subset (a ∷ b ∷ []) ty.Bool ≡ m → Sounds scope set m
  subset_by a b m h k (Ty-F.SetOf t) p is s e =
      let first : kind_of a.ty ≡ Ty-F.SetOf (erased t) = kind_at a.ty _ p in
      let second : kind_of b.ty ≡ Ty-F.SetOf (erased t) = sym (same_kind a.ty b.ty s) ∙ first in
      as_they_are_sound scope set op.Subset (a ∷ b ∷ []) ty.Bool _ Ty-F.Bool m (row.subset_of_set (erased t)) (always scope.role op.Subset _ refl) (λ i. first i ∷ second i ∷ []) kind_bool (sound_bool _) (h, (k, tt)) e
  subset_by a b m h k _ p is s e = absurd (cc)

  subset_sound : (a b m : Made) → Sounds scope set a → Sounds scope set b → subset a b ≡ Some m → Sounds scope set m
  subset_sound a b m h k e =
      let c = chosen (is_set (out-Ty a.ty) && same a.ty b.ty) (as_they_are op.Subset (a ∷ b ∷ []) ty.Bool) m e in
      let both = and_parts _ _ c.0 in
      subset_by a b m h k (out-Ty a.ty) refl both.0 both.1 c.1

  pub related_sound : (s : RelationSign) (a b m : Made) → Sounds scope set a → Sounds scope set b → related s a b ≡ Some m → Sounds scope set m
  related_sound sign.Less = ordering_sound op.Less row.less_ordered (λ Ts. refl)
  related_sound sign.LessEqual = ordering_sound op.AtMost row.at_most_ordered (λ Ts. refl)
  related_sound sign.Equal = equality_sound op.Equal row.equal_plain (λ Ts. refl)
  related_sound sign.NotEqual = equality_sound op.NotEqual row.differ_plain (λ Ts. refl)
  related_sound sign.Greater = ordering_sound op.Greater row.greater_ordered (λ Ts. refl)
  related_sound sign.GreaterEqual = ordering_sound op.AtLeast row.at_least_ordered (λ Ts. refl)
  related_sound sign.In = membership_sound
  related_sound sign.Sub = subset_sound
