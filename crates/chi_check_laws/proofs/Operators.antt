-- What the operators of chains, `^` and the prefixes make is sound.
use Rattle.std.proofs.Common.{◌≡◌, ◌⊎◌, inl, inr, true, false, List, [], ◌∷◌, Some, refl, sym, ap, subst, ◌∙◌}
use Rattle.std.proofs.lemmas.Bool.{and_parts}
use Rattle.chi_token.specs.declared.place.Place.{Place}
use Rattle.chi_tree.specs.declared.operator.Operator.{Operator}
use Rattle.chi_tree.specs.declared.operator.Operator.TheVariants as operator
use Rattle.chi_tree.specs.declared.operator.PrefixSign.{PrefixSign}
use Rattle.chi_tree.specs.declared.operator.PrefixSign.TheVariants as prefix
use Rattle.chi_types.specs.declared.ty.Ty.{Ty, Ty-F, out-Ty}
use Rattle.chi_types.specs.declared.ty.Ty.TheVariants as ty
use Rattle.chi_types.specs.Same.{same}
use Rattle.chi_core.specs.declared.expression.CExpr.TheVariants as expression
use Rattle.chi_core.specs.declared.op_name.OpName.{OpName}
use Rattle.chi_core.specs.declared.op_name.OpName.TheVariants as op
use Rattle.chi_core.specs.Kinds.{Kind, kind_of, erased}
use Rattle.chi_core.specs.OperatorKinds as row
use Rattle.chi_core.specs.OperatorKinds.{OpKind, depends_on_run}
use Rattle.chi_core.specs.Scopes.{Scope, may_apply}
use Rattle.chi_core.specs.SetSlots.{Known as Set}
use Rattle.chi_core.specs.Sound.{SoundIn}
use Rattle.chi_core.proofs.Erased.{kind_at, same_kind, same_erased}
use Rattle.chi_check_types.specs.declared.meant.Made.{Made}
use Rattle.chi_check_types.specs.declared.site.Site.{Site}
use Rattle.chi_check_expr_rules.specs.Conversions.{made, as_they_are, both_as}
use Rattle.chi_check_expr_rules.specs.Operators.{number_of, arithmetic, of_same, add_by, subtract_by, multiply_by, is_set_of, is_bool, are_bools, conjunction, disjunction, ints, reals, of_ints, binary, power, negated, unchanged, sampled, prefixed, prefix_rule, prefix_made, prefix_of}
use Rattle.chi_check_laws.specs.KnownNames.{Has, IsSite}
use Rattle.chi_check_laws.proofs.Has.{has_both, has_either}
use Rattle.chi_check_laws.proofs.TypeKinds.{Serves, kind_bool, kind_int, kind_real, sound_bool, sound_int, sound_real, drawn_of_dist}
use Rattle.chi_check_laws.proofs.Conversions.{some_is, mapped, chosen, always, Sounds, sound_made, wanting_sound, as_they_are_sound, both_sound}
use Rattle.chi_check_laws.proofs.Sites.{may_run, settled_made, barred_made}

-- ---- kinds by tests

bool_layer : (t : Ty) (layer : Ty-F Ty) → out-Ty t ≡ layer → is_bool layer ≡ true → kind_of t ≡ Ty-F.Bool
bool_layer t Ty-F.Bool p h = kind_at t Ty-F.Bool p
bool_layer t _ p h = absurd (cc)

pub bool_kind : (t : Ty) → is_bool (out-Ty t) ≡ true → kind_of t ≡ Ty-F.Bool
bool_kind t h = bool_layer t (out-Ty t) refl h

-- two numbers have a common type, int or real, for which both serve
pub record Numeric (a b t : Ty) : Type 0 where
  pub number : (t ≡ ty.Int) ⊎ (t ≡ ty.Real)
  pub left : Serves a t
  pub right : Serves b t

numeric : (a b t : Ty) (x y : Ty-F Ty) → out-Ty a ≡ x → out-Ty b ≡ y → number_of x y ≡ Some t → Numeric a b t
numeric a b t Ty-F.Int Ty-F.Int p q e = subst (Numeric a b) (some_is ty.Int t e) (record { number = inl refl; left = inl (kind_at a Ty-F.Int p ∙ sym kind_int); right = inl (kind_at b Ty-F.Int q ∙ sym kind_int) })
numeric a b t Ty-F.Int Ty-F.Real p q e = subst (Numeric a b) (some_is ty.Real t e) (record { number = inr refl; left = inr (kind_at a Ty-F.Int p, kind_real); right = inl (kind_at b Ty-F.Real q ∙ sym kind_real) })
numeric a b t Ty-F.Real Ty-F.Int p q e = subst (Numeric a b) (some_is ty.Real t e) (record { number = inr refl; left = inl (kind_at a Ty-F.Real p ∙ sym kind_real); right = inr (kind_at b Ty-F.Int q, kind_real) })
numeric a b t Ty-F.Real Ty-F.Real p q e = subst (Numeric a b) (some_is ty.Real t e) (record { number = inr refl; left = inl (kind_at a Ty-F.Real p ∙ sym kind_real); right = inl (kind_at b Ty-F.Real q ∙ sym kind_real) })
numeric a b t Ty-F.Int _ p q e = absurd (cc)
numeric a b t Ty-F.Real _ p q e = absurd (cc)
numeric a b t _ y p q e = absurd (cc)

pub numbers_are : (a b t : Ty) → number_of (out-Ty a) (out-Ty b) ≡ Some t → Numeric a b t
numbers_are a b t e = numeric a b t (out-Ty a) (out-Ty b) refl refl e

-- an operator of two ints or of two reals, which doesn't depend on the run
pub record OfNumbers (name : OpName) : Type 0 where
  pub ints : OpKind name (Ty-F.Int ∷ Ty-F.Int ∷ []) Ty-F.Int
  pub reals : OpKind name (Ty-F.Real ∷ Ty-F.Real ∷ []) Ty-F.Real
  pub still : (Ts : List Kind) → depends_on_run name Ts ≡ false

module _ (scope : Scope) (set : Set) where
  arithmetic_sound : (name : OpName) → OfNumbers name → (a b m : Made) → Sounds scope set a → Sounds scope set b → arithmetic name a b ≡ Some m → Sounds scope set m
  arithmetic_sound name rows a b m h k e =
      let f = mapped (λ t. both_as name t a b t) (number_of (out-Ty a.ty) (out-Ty b.ty)) m e in
      by f.0 (numbers_are a.ty b.ty f.0 f.1) f.2
    where
      of : (t : Ty) → (t ≡ ty.Int) ⊎ (t ≡ ty.Real) → Serves a.ty t → Serves b.ty t → both_as name t a b t ≡ m → Sounds scope set m
      of t (inl is) p q e = both_sound scope set name t a b t Ty-F.Int Ty-F.Int m rows.ints (always scope.role name _ (rows.still _)) (ap kind_of is ∙ kind_int) (ap kind_of is ∙ kind_int)
          (subst (SoundIn scope.core) (sym is) (sound_int _)) p q h k e
      of t (inr is) p q e = both_sound scope set name t a b t Ty-F.Real Ty-F.Real m rows.reals (always scope.role name _ (rows.still _)) (ap kind_of is ∙ kind_real) (ap kind_of is ∙ kind_real)
          (subst (SoundIn scope.core) (sym is) (sound_real _)) p q h k e

      by : (t : Ty) → Numeric a.ty b.ty t → both_as name t a b t ≡ m → Sounds scope set m
      by t n e = of t n.number n.left n.right e

  -- two of the same type, and a result of it
  same_sound : (name : OpName) (T : Kind) → OpKind name (T ∷ T ∷ []) T → depends_on_run name (T ∷ T ∷ []) ≡ false → (a b m : Made) → kind_of a.ty ≡ T → Sounds scope set a → Sounds scope set b
      → of_same name a b ≡ Some m → Sounds scope set m
  same_sound name T r still a b m is h k e =
      let c = chosen (same a.ty b.ty) (as_they_are name (a ∷ b ∷ []) a.ty) m e in
      let other : kind_of b.ty ≡ T = sym (same_kind a.ty b.ty c.0) ∙ is in
      as_they_are_sound scope set name (a ∷ b ∷ []) a.ty (T ∷ T ∷ []) T m r (always scope.role name _ still) (λ i. is i ∷ other i ∷ []) is h.ty (h, (k, tt)) c.1

  add_sound : (a b m : Made) → Sounds scope set a → Sounds scope set b → (layer : Ty-F Ty) → out-Ty a.ty ≡ layer → add_by layer a b ≡ Some m → Sounds scope set m
  add_sound a b m h k Ty-F.Text p e = same_sound op.Add Ty-F.Text row.join_texts refl a b m (kind_at a.ty _ p) h k e
  add_sound a b m h k (Ty-F.ListOf t) p e = same_sound op.Add (Ty-F.ListOf (erased t)) (row.join_lists (erased t)) refl a b m (kind_at a.ty _ p) h k e
  add_sound a b m h k (Ty-F.SetOf t) p e = same_sound op.Add (Ty-F.SetOf (erased t)) (row.unite_sets (erased t)) refl a b m (kind_at a.ty _ p) h k e
  add_sound a b m h k (Ty-F.DictOf key has) p e =
      same_sound op.Add (Ty-F.DictOf (erased key) (erased has)) (row.unite_dictionaries (erased key) (erased has)) refl a b m (kind_at a.ty _ p) h k e
  add_sound a b m h k _ p e = arithmetic_sound op.Add (record { ints = row.add_ints; reals = row.add_reals; still = λ Ts. refl }) a b m h k e

  set_layer : (key : Ty) (b : Ty) (layer : Ty-F Ty) → out-Ty b ≡ layer → is_set_of key layer ≡ true → kind_of b ≡ Ty-F.SetOf (erased key)
  set_layer key b (Ty-F.SetOf t) p e = kind_at b _ p ∙ ap Ty-F.SetOf (same_erased t key e)
  set_layer key b _ p e = absurd (cc)

  subtract_sound : (a b m : Made) → Sounds scope set a → Sounds scope set b → (layer : Ty-F Ty) → out-Ty a.ty ≡ layer → subtract_by layer a b ≡ Some m → Sounds scope set m
  subtract_sound a b m h k (Ty-F.SetOf t) p e = same_sound op.Sub (Ty-F.SetOf (erased t)) (row.subtract_sets (erased t)) refl a b m (kind_at a.ty _ p) h k e
  subtract_sound a b m h k (Ty-F.DictOf key has) p e =
      let c = chosen (is_set_of key (out-Ty b.ty)) (as_they_are op.Sub (a ∷ b ∷ []) a.ty) m e in
      let whole : kind_of a.ty ≡ Ty-F.DictOf (erased key) (erased has) = kind_at a.ty _ p in
      let keys : kind_of b.ty ≡ Ty-F.SetOf (erased key) = set_layer key b.ty (out-Ty b.ty) refl c.0 in
      as_they_are_sound scope set op.Sub (a ∷ b ∷ []) a.ty _ _ m (row.subtract_keys (erased key) (erased has)) (always scope.role op.Sub _ refl) (λ i. whole i ∷ keys i ∷ []) whole h.ty (h, (k, tt)) c.1
  subtract_sound a b m h k _ p e = arithmetic_sound op.Sub (record { ints = row.subtract_ints; reals = row.subtract_reals; still = λ Ts. refl }) a b m h k e

  multiply_sound : (a b m : Made) → Sounds scope set a → Sounds scope set b → (layer : Ty-F Ty) → out-Ty a.ty ≡ layer → multiply_by layer a b ≡ Some m → Sounds scope set m
  multiply_sound a b m h k (Ty-F.SetOf t) p e = same_sound op.Mul (Ty-F.SetOf (erased t)) (row.intersect_sets (erased t)) refl a b m (kind_at a.ty _ p) h k e
  multiply_sound a b m h k _ p e = arithmetic_sound op.Mul (record { ints = row.multiply_ints; reals = row.multiply_reals; still = λ Ts. refl }) a b m h k e

  has_bool : (a : Made) → Sounds scope set a → is_bool (out-Ty a.ty) ≡ true → Has scope set a.core Ty-F.Bool
  has_bool a h is = subst (Has scope set a.core) (bool_kind a.ty is) h.kind

  conjunction_sound : (a b m : Made) → Sounds scope set a → Sounds scope set b → conjunction a b ≡ Some m → Sounds scope set m
  conjunction_sound a b m h k e =
      let c = chosen (are_bools a b) (made (expression.And a.core b.core) ty.Bool) m e in
      let bools = and_parts _ _ c.0 in
      sound_made scope set _ ty.Bool m c.1 (subst (Has scope set _) (sym kind_bool) (has_both scope set a.core b.core (has_bool a h bools.0) (has_bool b k bools.1))) (sound_bool _)

  disjunction_sound : (a b m : Made) → Sounds scope set a → Sounds scope set b → disjunction a b ≡ Some m → Sounds scope set m
  disjunction_sound a b m h k e =
      let c = chosen (are_bools a b) (made (expression.Or a.core b.core) ty.Bool) m e in
      let bools = and_parts _ _ c.0 in
      sound_made scope set _ ty.Bool m c.1 (subst (Has scope set _) (sym kind_bool) (has_either scope set a.core b.core (has_bool a h bools.0) (has_bool b k bools.1))) (sound_bool _)

  of_ints_sound : (name : OpName) → OpKind name (Ty-F.Int ∷ Ty-F.Int ∷ []) Ty-F.Int → depends_on_run name (Ty-F.Int ∷ Ty-F.Int ∷ []) ≡ false → (a b m : Made) → Sounds scope set a → Sounds scope set b
      → of_ints name a b ≡ Some m → Sounds scope set m
  of_ints_sound name r still a b m h k e =
      wanting_sound scope set name ints ty.Int _ Ty-F.Int (a ∷ b ∷ []) m r (always scope.role name _ still) (λ i. kind_int i ∷ kind_int i ∷ []) kind_int (sound_int _) (h, (k, tt)) e

  pub binary_sound : (sign : Operator) (a b m : Made) → Sounds scope set a → Sounds scope set b → binary sign a b ≡ Some m → Sounds scope set m
  binary_sound operator.Or = disjunction_sound
  binary_sound operator.And = conjunction_sound
  binary_sound operator.Add = λ a b m h k. add_sound a b m h k (out-Ty a.ty) refl
  binary_sound operator.Subtract = λ a b m h k. subtract_sound a b m h k (out-Ty a.ty) refl
  binary_sound operator.Multiply = λ a b m h k. multiply_sound a b m h k (out-Ty a.ty) refl
  binary_sound operator.Divide = λ a b m h k e. wanting_sound scope set op.Divide reals ty.Real _ Ty-F.Real (a ∷ b ∷ []) m row.divide_reals (always scope.role op.Divide _ refl) (λ i. kind_real i ∷ kind_real i ∷ []) kind_real (sound_real _) (h, (k, tt)) e
  binary_sound operator.DivideWhole = of_ints_sound op.Div row.divide_ints refl
  binary_sound operator.Remainder = of_ints_sound op.Mod row.remainder_of_ints refl

  pub power_sound : (a b m : Made) → Sounds scope set a → Sounds scope set b → power a b ≡ Some m → Sounds scope set m
  power_sound = of_ints_sound op.Power row.power_of_ints refl

  negated_sound : (a m : Made) → Sounds scope set a → (layer : Ty-F Ty) → out-Ty a.ty ≡ layer → negated layer a ≡ Some m → Sounds scope set m
  negated_sound a m h Ty-F.Int p e =
      let is : kind_of a.ty ≡ Ty-F.Int = kind_at a.ty _ p in
      as_they_are_sound scope set op.Neg (a ∷ []) ty.Int (Ty-F.Int ∷ []) Ty-F.Int m row.negate_int (always scope.role op.Neg _ refl) (λ i. is i ∷ []) kind_int (sound_int _) (h, tt) (some_is _ m e)
  negated_sound a m h Ty-F.Real p e =
      let is : kind_of a.ty ≡ Ty-F.Real = kind_at a.ty _ p in
      as_they_are_sound scope set op.Neg (a ∷ []) ty.Real (Ty-F.Real ∷ []) Ty-F.Real m row.negate_real (always scope.role op.Neg _ refl) (λ i. is i ∷ []) kind_real (sound_real _) (h, tt) (some_is _ m e)
  negated_sound a m h _ p e = absurd (cc)

  unchanged_sound : (a m : Made) → Sounds scope set a → (layer : Ty-F Ty) → unchanged layer a ≡ Some m → Sounds scope set m
  unchanged_sound a m h Ty-F.Int e = subst (Sounds scope set) (some_is a m e) h
  unchanged_sound a m h Ty-F.Real e = subst (Sounds scope set) (some_is a m e) h
  unchanged_sound a m h _ e = absurd (cc)

  sampled_sound : (a m : Made) → ((Ts : List Kind) → may_apply scope.role op.Sample Ts ≡ true) → Sounds scope set a → (layer : Ty-F Ty) → out-Ty a.ty ≡ layer → sampled layer a ≡ Some m → Sounds scope set m
  sampled_sound a m may h (Ty-F.Dist t) p e =
      let is : kind_of a.ty ≡ Ty-F.Dist (erased t) = kind_at a.ty _ p in
      as_they_are_sound scope set op.Sample (a ∷ []) t (Ty-F.Dist (erased t) ∷ []) (kind_of t) m (row.sample_dist (erased t)) (may _) (λ i. is i ∷ []) refl (drawn_of_dist _ a.ty t p h.ty) (h, tt) (some_is _ m e)
  sampled_sound a m may h _ p e = absurd (cc)

  prefixed_sound : (sign : PrefixSign) (s : Site) (place : Place) (a m : Made) → IsSite s scope.role → prefix_rule s sign place ≡ [] → Sounds scope set a → prefixed sign a ≡ Some m → Sounds scope set m
  prefixed_sound prefix.Not s place a m at rule h e =
      wanting_sound scope set op.Not (ty.Bool ∷ []) ty.Bool _ Ty-F.Bool (a ∷ []) m row.not_bool (always scope.role op.Not _ refl) (λ i. kind_bool i ∷ []) kind_bool (sound_bool _) (h, tt) e
  prefixed_sound prefix.Minus s place a m at rule h e = negated_sound a m h (out-Ty a.ty) refl e
  prefixed_sound prefix.Plus s place a m at rule h e = unchanged_sound a m h (out-Ty a.ty) e
  prefixed_sound prefix.Sample s place a m at rule h e = sampled_sound a m (λ Ts. may_run s scope.role place op.Sample Ts at rule) h (out-Ty a.ty) refl e

  pub prefix_sound : (s : Site) (sign : PrefixSign) (place : Place) (a m : Made) → IsSite s scope.role → Sounds scope set a → (prefix_of s sign place (Some a)).made ≡ Some m → Sounds scope set m
  prefix_sound s sign place a m at h e =
      let open_ = barred_made (prefix_rule s sign place) (prefix_made sign place (Some a)) m e in
      prefixed_sound sign s place a m at open_.0 h (settled_made _ place (prefixed sign a) m open_.1)
