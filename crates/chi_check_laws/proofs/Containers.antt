-- What literals of several parts make is sound, and so are empty ones.
use Rattle.std.proofs.Common.{◌≡◌, ℕ, suc, Bool, true, false, cond, ◌||◌, List, [], ◌∷◌, ◌++◌, map, Option, Some, None, refl, sym, ap, subst, ◌∙◌}
use Rattle.std.specs.Prelude.{length}
use Rattle.chi_token.specs.declared.place.Place.{Place}
use Rattle.chi_types.specs.declared.ty.Ty.{Ty, Ty-F, out-Ty}
use Rattle.chi_types.specs.declared.ty.Ty.TheVariants as ty
use Rattle.chi_types.specs.Fits.{widens}
use Rattle.chi_types.specs.Joined.{joined}
use Rattle.chi_types.specs.Plain.{is_plain}
use Rattle.chi_types.specs.Same.{same, nameless, beside}
use Rattle.chi_value.specs.declared.format.Kind.{Kind as Build}
use Rattle.chi_value.specs.declared.format.Kind.TheVariants as build
use Rattle.chi_core.specs.declared.expression.CExpr.{CExpr}
use Rattle.chi_core.specs.declared.expression.CExpr.TheVariants as expression
use Rattle.chi_core.specs.Kinds.{Kind, kind_of, erased, nameless_parts, tuple_of}
use Rattle.chi_core.specs.Scopes.{Scope}
use Rattle.chi_core.specs.SetSlots.{Known as Set}
use Rattle.chi_core.specs.Sound.{SoundIn}
use Rattle.chi_core.specs.SoundExpressions.{entry_kinds}
use Rattle.chi_core.specs.SoundTypes.{SoundType}
use Rattle.chi_check_types.specs.declared.fault.Fault.{Fault}
use Rattle.chi_check_types.specs.declared.meant.Made.{Made}
use Rattle.chi_check_types.specs.declared.meant.Meant.{Meant}
use Rattle.chi_check_types.specs.TypeRules.{depth_rule}
use Rattle.chi_check_expr_rules.specs.Conversions.{made, converted}
use Rattle.chi_check_expr_rules.specs.Containers.{joined_from, joined_all, all_converted, literal_of, plain_type_rule, tuple_literal, list_joined, set_joined, entries, dict_joined, empty_list, empty_set, empty_dict}
use Rattle.chi_check_laws.specs.KnownNames.{Has}
use Rattle.chi_check_laws.proofs.Has.{Have, have_none, have_one, has_tuple, has_list, has_set, has_dictionary}
use Rattle.chi_check_laws.proofs.TypeKinds.{Serves, serves_itself, serves_still, joined_serves, kind_tuple, kind_list, kind_set, kind_dictionary, plain_erased, sound_real, sound_list, sound_set, sound_dictionary, sound_tuple, EachSound, sound_nameless}
use Rattle.chi_check_expr.proofs.Kept.{Each}
use Rattle.chi_check_laws.proofs.Conversions.{some_is, chained, Sounds, sound_made, converts, AllServe, all_have, cores_have}
use Rattle.chi_check_laws.proofs.Sites.{unless_made, unbroken}

-- ---- the joined type

-- it is one of the two, or real
join_sound : (n : ℕ) (a b t : Ty) → SoundType n (out-Ty a) → joined a b ≡ Some t → SoundType n (out-Ty t)
join_sound n a b t s e = by (same a b) (widens (out-Ty a) (out-Ty b) || widens (out-Ty b) (out-Ty a)) e
  where
    by : (first second : Bool) → cond first (Some a) (cond second (Some ty.Real) None) ≡ Some t → SoundType n (out-Ty t)
    by true second e = subst (λ t. SoundType n (out-Ty t)) (some_is a t e) s
    by false true e = subst (λ t. SoundType n (out-Ty t)) (some_is ty.Real t e) (sound_real n)
    by false false e = absurd (cc)

joined_from_sound : (n : ℕ) (t : Ty) (ms : List Made) (u : Ty) → SoundType n (out-Ty t) → joined_from t ms ≡ Some u → SoundType n (out-Ty u)
joined_from_sound n t [] u s e = subst (λ t. SoundType n (out-Ty t)) (some_is t u e) s
joined_from_sound n t (m ∷ ms) u s e =
    let f = chained (λ u. joined_from u ms) (joined t m.ty) u e in
    joined_from_sound n f.0 ms u (join_sound n t m.ty f.0 s f.1) f.2

joined_from_serve : (scope : Scope) (set : Set) (t : Ty) (ms : List Made) (u : Ty) → joined_from t ms ≡ Some u → Serves t u × AllServe scope set u ms
joined_from_serve scope set t [] u e = (subst (Serves t) (some_is t u e) (serves_itself t), tt)
joined_from_serve scope set t (m ∷ ms) u e =
    let f = chained (λ u. joined_from u ms) (joined t m.ty) u e in
    let both = joined_serves t m.ty f.0 f.1 in
    let rest = joined_from_serve scope set f.0 ms u f.2 in
    (serves_still t f.0 u both.0 rest.0, (serves_still m.ty f.0 u both.1 rest.0, rest.1))

-- ---- tuples of types

nameless_erased : (ts : List Ty) → nameless (map (beside erased) (nameless_parts ts)) ≡ nameless_parts (map erased ts)
nameless_erased [] = refl
nameless_erased (t ∷ ts) = ap (λ rest. ([], erased t) ∷ rest) (nameless_erased ts)

pub kind_of_tuple : (ts : List Ty) → kind_of (ty.TupleOf (nameless_parts ts)) ≡ tuple_of (map erased ts)
kind_of_tuple ts = kind_tuple (nameless_parts ts) ∙ ap Ty-F.TupleOf (nameless_erased ts)

types_kinds : (ms : List Made) → map (λ m. kind_of m.ty) ms ≡ map out-Ty (map erased (map (λ m. m.ty) ms))
types_kinds [] = refl
types_kinds (m ∷ ms) = ap (λ rest. kind_of m.ty ∷ rest) (types_kinds ms)

module _ (scope : Scope) (set : Set) where
  joined_sound : (ms : List Made) (t : Ty) → Each (Sounds scope set) ms → joined_all ms ≡ Some t → AllServe scope set t ms × SoundIn scope.core t
  joined_sound [] t h e = absurd (cc)
  joined_sound (m ∷ ms) t h e = (joined_from_serve scope set m.ty ms t e, joined_from_sound _ m.ty ms t h.0.ty e)

  -- a literal is of its type
  literal_sound : (place : Place) (own : List Fault) (kind : Build) (es : List CExpr) (t : Ty) (K : Kind) (m : Made) → kind_of t ≡ K → Has scope set (expression.Build kind es) K → SoundIn scope.core t
      → (literal_of place own kind es t).made ≡ Some m → Sounds scope set m
  literal_sound place own kind es t K m is h s e =
      sound_made scope set (expression.Build kind es) t m (unless_made (own ++ depth_rule place t) (made (expression.Build kind es) t) m e).1 (subst (Has scope set _) (sym is) h) s

  each_type : (ms : List Made) → Each (Sounds scope set) ms → EachSound (length scope.core.names.kinds) (map (λ m. m.ty) ms)
  each_type [] h = tt
  each_type (m ∷ ms) h = (h.0.ty, each_type ms h.1)

  pub tuple_sound : (place : Place) (ms : List Made) (m : Made) → Each (Sounds scope set) ms → (tuple_literal place ms).made ≡ Some m → Sounds scope set m
  tuple_sound place ms m h e =
      let ts : List Ty = map (λ m. m.ty) ms in
      literal_sound place [] build.TupleOf (map (λ m. m.core) ms) (ty.TupleOf (nameless_parts ts)) (tuple_of (map erased ts)) m (kind_of_tuple ts)
      (has_tuple scope set (map (λ m. m.core) ms) (map erased ts) (subst (Have scope set (map (λ m. m.core) ms)) (types_kinds ms) (cores_have scope set ms h)))
      (sound_tuple _ (nameless_parts ts) (sound_nameless _ ts (each_type ms h))) e

  pub list_sound : (place : Place) (ms : List Made) (o : Option Ty) (m : Made) → Each (Sounds scope set) ms → joined_all ms ≡ o → (list_joined place ms o).made ≡ Some m → Sounds scope set m
  list_sound place ms None m h j e = absurd (cc)
  list_sound place ms (Some t) m h j e =
      let both = joined_sound ms t h j in
      literal_sound place [] build.ListOf (all_converted t ms) (ty.ListOf t) (Ty-F.ListOf (erased t)) m (kind_list t) (has_list scope set (all_converted t ms) (erased t) (all_have scope set t ms both.0 h)) (sound_list _ t both.1) e

  -- what has to be plain is
  plain_made : (place : Place) (t : Ty) (kind : Build) (es : List CExpr) (u : Ty) (m : Made) → (literal_of place (plain_type_rule place t) kind es u).made ≡ Some m → is_plain t ≡ true
  plain_made place t kind es u m e = unbroken (is_plain t) _ place (depth_rule place u) (made (expression.Build kind es) u) m e

  pub set_sound : (place : Place) (ms : List Made) (o : Option Ty) (m : Made) → Each (Sounds scope set) ms → joined_all ms ≡ o → (set_joined place ms o).made ≡ Some m → Sounds scope set m
  set_sound place ms None m h j e = absurd (cc)
  set_sound place ms (Some t) m h j e =
      let both = joined_sound ms t h j in
      let plain = plain_made place t build.SetOf (all_converted t ms) (ty.SetOf t) m e in
      literal_sound place (plain_type_rule place t) build.SetOf (all_converted t ms) (ty.SetOf t) (Ty-F.SetOf (erased t)) m (kind_set t)
      (has_set scope set (all_converted t ms) (erased t) (plain_erased t plain) (all_have scope set t ms both.0 h)) (sound_set _ t plain both.1) e

  -- so many entries
  entries_have : (key has : Ty) (ks vs : List Made) → AllServe scope set key ks → AllServe scope set has vs → Each (Sounds scope set) ks → Each (Sounds scope set) vs
      → (count : ℕ) × Have scope set (entries key has ks vs) (entry_kinds count (kind_of key) (kind_of has))
  entries_have key has [] vs p q h j = (0, have_none scope set)
  entries_have key has (k ∷ ks) [] p q h j = (0, have_none scope set)
  entries_have key has (k ∷ ks) (v ∷ vs) p q h j =
      let rest = entries_have key has ks vs p.1 q.1 h.1 j.1 in (
        suc rest.0,
        have_one scope set (converted k key) (converted v has ∷ entries key has ks vs) _ _ (converts scope set k key p.0 h.0)
            (have_one scope set (converted v has) (entries key has ks vs) _ _ (converts scope set v has q.0 j.0) rest.1),
      )

  pub dictionary_sound : (place : Place) (ks vs : List Made) (o p : Option Ty) (m : Made) → Each (Sounds scope set) ks → Each (Sounds scope set) vs → joined_all ks ≡ o → joined_all vs ≡ p
      → (dict_joined place ks vs o p).made ≡ Some m → Sounds scope set m
  dictionary_sound place ks vs None p m h k i j e = absurd (cc)
  dictionary_sound place ks vs (Some key) None m h k i j e = absurd (cc)
  dictionary_sound place ks vs (Some key) (Some has) m h k i j e =
      let keys = joined_sound ks key h i in
      let values = joined_sound vs has k j in
      let plain = plain_made place key build.DictOf (entries key has ks vs) (ty.DictOf key has) m e in
      let each = entries_have key has ks vs keys.0 values.0 h k in
      literal_sound place (plain_type_rule place key) build.DictOf (entries key has ks vs) (ty.DictOf key has) (Ty-F.DictOf (erased key) (erased has)) m (kind_dictionary key has)
      (has_dictionary scope set (entries key has ks vs) (erased key) (erased has) each.0 (plain_erased key plain) each.1) (sound_dictionary _ key has plain keys.1 values.1) e

  -- ---- empty ones

  pub empty_list_sound : (place : Place) (element : Meant) (m : Made) → SoundIn scope.core element.ty → (empty_list place (Some element)).made ≡ Some m → Sounds scope set m
  empty_list_sound place element m s e =
      literal_sound place [] build.ListOf [] (ty.ListOf element.ty) (Ty-F.ListOf (erased element.ty)) m (kind_list element.ty) (has_list scope set [] (erased element.ty) (have_none scope set)) (sound_list _ element.ty s) e

  pub empty_set_sound : (place : Place) (element : Meant) (m : Made) → SoundIn scope.core element.ty → (empty_set place (Some element)).made ≡ Some m → Sounds scope set m
  empty_set_sound place element m s e =
      let plain = plain_made place element.ty build.SetOf [] (ty.SetOf element.ty) m e in
      literal_sound place (plain_type_rule place element.ty) build.SetOf [] (ty.SetOf element.ty) (Ty-F.SetOf (erased element.ty)) m (kind_set element.ty)
      (has_set scope set [] (erased element.ty) (plain_erased element.ty plain) (have_none scope set)) (sound_set _ element.ty plain s) e

  pub empty_dictionary_sound : (place : Place) (key has : Meant) (m : Made) → SoundIn scope.core key.ty → SoundIn scope.core has.ty → (empty_dict place (Some key) (Some has)).made ≡ Some m → Sounds scope set m
  empty_dictionary_sound place key has m s r e =
      let plain = plain_made place key.ty build.DictOf [] (ty.DictOf key.ty has.ty) m e in
      literal_sound place (plain_type_rule place key.ty) build.DictOf [] (ty.DictOf key.ty has.ty) (Ty-F.DictOf (erased key.ty) (erased has.ty)) m (kind_dictionary key.ty has.ty)
      (has_dictionary scope set [] (erased key.ty) (erased has.ty) 0 (plain_erased key.ty plain) (have_none scope set)) (sound_dictionary _ key.ty has.ty plain s r) e
