-- What indexes, slices and fields make is sound.
use Rattle.std.proofs.Common.{◌≡◌, ℕ, suc, ◌+◌, Bool, true, false, cond, List, [], ◌∷◌, map, Option, Some, None, refl, sym, ap, subst, ◌∙◌, arith}
use Rattle.std.proofs.lemmas.Bool.{and_parts}
use Rattle.std.specs.List.{list_all}
use Rattle.std.specs.Str.{bytes_eq}
use Rattle.std.specs.Prelude.{◌&&◌, slice_get, is_some, option_map}
use Rattle.chi_types.specs.declared.ty.Ty.{Ty, Ty-F, out-Ty}
use Rattle.chi_types.specs.declared.ty.Ty.TheVariants as ty
use Rattle.chi_types.specs.Fits.{fits}
use Rattle.chi_types.specs.Same.{nameless, beside}
use Rattle.chi_core.specs.declared.expression.CExpr.TheVariants as expression
use Rattle.chi_core.specs.declared.op_name.OpName.TheVariants as op
use Rattle.chi_core.specs.Kinds.{Kind, kind_of, erased}
use Rattle.chi_core.specs.OperatorKinds as row
use Rattle.chi_core.specs.OperatorKinds.{OpKind, bounds}
use Rattle.chi_core.specs.Scopes.{Scope}
use Rattle.chi_core.specs.SetSlots.{Known as Set}
use Rattle.chi_core.specs.Sound.{SoundIn}
use Rattle.chi_core.specs.SoundTypes as sound
use Rattle.chi_core.specs.SoundTypes.{SoundType, SoundParts}
use Rattle.chi_core.proofs.Erased.{kind_at}
use Rattle.chi_check_types.specs.declared.meant.Made.{Made}
use Rattle.chi_check_types.specs.TypeRules.{is_int}
use Rattle.chi_check_expr_rules.specs.Conversions.{made, converted, as_they_are}
use Rattle.chi_check_expr_rules.specs.Nodes.{all_made}
use Rattle.chi_check_expr_rules.specs.Parts.{element_at, looked_up, indexed_by, indexed, Bounds, if_given, given, has_slices, sliced, position_from, part_of, field_in, field}
use Rattle.chi_check_laws.specs.KnownNames.{Has}
use Rattle.chi_check_laws.proofs.Has.{has_part}
use Rattle.chi_check_laws.proofs.TypeKinds.{kind_text, sound_text, element_of_list, parts_of_dictionary, parts_of_tuple}
use Rattle.chi_check_expr.proofs.Kept.{Each}
use Rattle.chi_check_laws.proofs.Conversions.{some_is, mapped, chained, chosen, always, Sounds, sound_made, fits_has, two_of, operation_sound, as_they_are_sound}

-- ---- ints

int_layer : (t : Ty) (layer : Ty-F Ty) → out-Ty t ≡ layer → is_int layer ≡ true → kind_of t ≡ Ty-F.Int
int_layer t Ty-F.Int p h = kind_at t Ty-F.Int p
int_layer t _ p h = absurd (cc)

pub int_kind : (t : Ty) → is_int (out-Ty t) ≡ true → kind_of t ≡ Ty-F.Int
int_kind t h = int_layer t (out-Ty t) refl h

pub ints_kinds : (ms : List Made) → list_all (λ m. is_int (out-Ty m.ty)) ms ≡ true → map (λ m. kind_of m.ty) ms ≡ map {A = Made} {B = Kind} (λ m. Ty-F.Int) ms
ints_kinds [] h = refl
ints_kinds (m ∷ ms) h =
    let both = and_parts _ _ h in
    let first = int_kind m.ty both.0 in
    let rest = ints_kinds ms both.1 in
    λ i. first i ∷ rest i

-- as many bounds as are given
given_kinds : {A : Type 0} (from upto by : Option A) → map {A = A} {B = Kind} (λ b. Ty-F.Int) (if_given from (if_given upto (if_given by []))) ≡ bounds (is_some from) (is_some upto) (is_some by)
given_kinds None None None = refl
given_kinds None None (Some c) = refl
given_kinds None (Some b) None = refl
given_kinds None (Some b) (Some c) = refl
given_kinds (Some a) None None = refl
given_kinds (Some a) None (Some c) = refl
given_kinds (Some a) (Some b) None = refl
given_kinds (Some a) (Some b) (Some c) = refl

made_kinds : (K : Kind) (os : List (Option Made)) (ms : List Made) → all_made os ≡ Some ms → map {A = Made} (λ m. K) ms ≡ map {A = Option Made} (λ o. K) os
made_kinds K [] ms e = ap (map {A = Made} (λ m. K)) (sym (some_is [] ms e))
made_kinds K (o ∷ os) ms e =
    let f = chained (λ first. option_map (λ more. first ∷ more) (all_made os)) o ms e in
    let g = mapped (λ more. f.0 ∷ more) (all_made os) ms f.2 in
    ap (map {A = Made} (λ m. K)) (sym g.2) ∙ ap (λ rest. K ∷ rest) (made_kinds K os g.0 g.1)

pub bounds_kinds : (b : Bounds (Option Made)) (ms : List Made) → all_made (given b) ≡ Some ms → map {A = Made} {B = Kind} (λ m. Ty-F.Int) ms ≡ bounds (is_some b.from) (is_some b.upto) (is_some b.by)
bounds_kinds b ms e = made_kinds Ty-F.Int (given b) ms e ∙ given_kinds b.from b.upto b.by

-- ---- parts by their names

-- the part of a number, among the kinds too
pub record PartAt (parts : List (List ℕ × Ty)) (number : ℕ) (t : Ty) : Type 0 where
  pub place : slice_get (nameless (map (beside erased) parts)) number ≡ Some ([], erased t)
  pub sound_part : (n : ℕ) → SoundParts n parts → SoundType n (out-Ty t)

first_sound : (n : ℕ) (all : List (List ℕ × Ty)) (p : List ℕ × Ty) (ps : List (List ℕ × Ty)) → all ≡ p ∷ ps → SoundParts n all → SoundType n (out-Ty p.1) × SoundParts n ps
first_sound n _ p ps h sound.no_part = absurd (cc)
first_sound n _ p ps h (sound.one_part q qs s r) =
    let first : q ≡ p = cc in
    let rest : qs ≡ ps = cc in
    (subst (λ p. SoundType n (out-Ty p.1)) first s, subst (SoundParts n) rest r)

abbrev pub Placed : List (List ℕ × Ty) → ℕ → ℕ × Ty → Type 0
Placed parts from found = (number : ℕ) × (found.0 ≡ from + number) × PartAt parts number found.1

pub position_is : (name : List ℕ) (parts : List (List ℕ × Ty)) (from : ℕ) (found : ℕ × Ty) → position_from from name parts ≡ Some found → Placed parts from found
position_is name [] from found e = absurd (cc)
position_is name (p ∷ ps) from found e = by (bytes_eq name p.0) (position_is name ps (suc from) found) e
  where
    by : (b : Bool) → (position_from (suc from) name ps ≡ Some found → Placed ps (suc from) found) → cond b (Some (from, p.1)) (position_from (suc from) name ps) ≡ Some found → Placed (p ∷ ps) from found
    by true later e = subst (Placed (p ∷ ps) from) (some_is (from, p.1) found e) (0, omega arith, record { place = refl; sound_part = λ n s. (first_sound n (p ∷ ps) p ps refl s).0 })
    by false later e =
        let rest = later e in
        let counted : found.0 ≡ from + suc rest.0 = omega (arith, rest.1) in
        (suc rest.0, counted, record { place = rest.2.place; sound_part = λ n s. rest.2.sound_part n (first_sound n (p ∷ ps) p ps refl s).1 })

module _ (scope : Scope) (set : Set) where
  -- ---- indexes

  element_sound : (element : Ty) (K : Kind) (a b m : Made) → OpKind op.Index (K ∷ Ty-F.Int ∷ []) (kind_of element) → kind_of a.ty ≡ K → SoundIn scope.core element → Sounds scope set a → Sounds scope set b
      → element_at element a b ≡ Some m → Sounds scope set m
  element_sound element K a b m r is s h k e =
      let c = chosen (is_int (out-Ty b.ty)) (as_they_are op.Index (a ∷ b ∷ []) element) m e in
      let int = int_kind b.ty c.0 in
      as_they_are_sound scope set op.Index (a ∷ b ∷ []) element (K ∷ Ty-F.Int ∷ []) (kind_of element) m r (always scope.role op.Index _ refl) (λ i. is i ∷ int i ∷ []) refl s (h, (k, tt)) c.1

  looked_up_sound : (key has : Ty) (a b m : Made) → kind_of a.ty ≡ Ty-F.DictOf (erased key) (erased has) → SoundIn scope.core has → Sounds scope set a → Sounds scope set b → looked_up key has a b ≡ Some m → Sounds scope set m
  looked_up_sound key has a b m is s h k e =
      let c = chosen (fits b.ty key) (made (expression.Op op.Lookup (a.core ∷ converted b key ∷ [])) has) m e in
      operation_sound scope set op.Lookup _ _ has (kind_of has) m (row.look_up (erased key) (erased has)) (always scope.role op.Lookup _ refl) refl
      (two_of scope set _ _ _ _ (subst (Has scope set a.core) is h.kind) (fits_has scope set b key c.0 k)) s c.1

  indexed_sound_by : (a b m : Made) → Sounds scope set a → Sounds scope set b → (layer : Ty-F Ty) → out-Ty a.ty ≡ layer → indexed_by layer a b ≡ Some m → Sounds scope set m
  indexed_sound_by a b m h k (Ty-F.ListOf t) p e = element_sound t (Ty-F.ListOf (erased t)) a b m (row.index_list (erased t)) (kind_at a.ty _ p) (element_of_list _ a.ty t p h.ty) h k e
  indexed_sound_by a b m h k Ty-F.Text p e = element_sound ty.Text Ty-F.Text a b m (subst (OpKind op.Index (Ty-F.Text ∷ Ty-F.Int ∷ [])) (sym kind_text) row.index_text) (kind_at a.ty _ p) (sound_text _) h k e
  indexed_sound_by a b m h k (Ty-F.DictOf key has) p e = looked_up_sound key has a b m (kind_at a.ty _ p) (parts_of_dictionary _ a.ty key has p h.ty).1 h k e
  indexed_sound_by a b m h k _ p e = absurd (cc)

  pub indexed_sound : (a b m : Made) → Sounds scope set a → Sounds scope set b → indexed a b ≡ Some m → Sounds scope set m
  indexed_sound a b m h k e = indexed_sound_by a b m h k (out-Ty a.ty) refl e

  -- ---- slices

  slices : (from upto by : Bool) (a : Made) (ms : List Made) (m : Made) (K : Kind) → OpKind (op.Slice from upto by) (K ∷ bounds from upto by) K → kind_of a.ty ≡ K
      → map (λ m. kind_of m.ty) ms ≡ bounds from upto by → Sounds scope set a → Each (Sounds scope set) ms → as_they_are (op.Slice from upto by) (a ∷ ms) a.ty ≡ m → Sounds scope set m
  slices from upto by a ms m K r is are h hs e =
      as_they_are_sound scope set (op.Slice from upto by) (a ∷ ms) a.ty (K ∷ bounds from upto by) K m r (always scope.role (op.Slice from upto by) _ refl) (λ i. is i ∷ are i) is h.ty (h, hs) e

  sliced_by : (from upto by : Bool) (a : Made) (ms : List Made) (m : Made) (layer : Ty-F Ty) → out-Ty a.ty ≡ layer → has_slices layer ≡ true
      → map (λ m. kind_of m.ty) ms ≡ bounds from upto by → Sounds scope set a → Each (Sounds scope set) ms → as_they_are (op.Slice from upto by) (a ∷ ms) a.ty ≡ m → Sounds scope set m
  sliced_by from upto by a ms m (Ty-F.ListOf t) p is are h hs e = slices from upto by a ms m (Ty-F.ListOf (erased t)) (row.slice_list from upto by (erased t)) (kind_at a.ty _ p) are h hs e
  sliced_by from upto by a ms m Ty-F.Text p is are h hs e = slices from upto by a ms m Ty-F.Text (row.slice_text from upto by) (kind_at a.ty _ p) are h hs e
  sliced_by from upto by a ms m _ p is are h hs e = absurd (cc)

  pub sliced_sound : (b : Bounds (Option Made)) (a : Made) (ms : List Made) (m : Made) → all_made (given b) ≡ Some ms → Sounds scope set a → Each (Sounds scope set) ms
      → sliced (is_some b.from) (is_some b.upto) (is_some b.by) a ms ≡ Some m → Sounds scope set m
  sliced_sound b a ms m all h hs e =
      let c = chosen (has_slices (out-Ty a.ty) && list_all (λ m. is_int (out-Ty m.ty)) ms) (as_they_are (op.Slice (is_some b.from) (is_some b.upto) (is_some b.by)) (a ∷ ms) a.ty) m e in
      let both = and_parts _ _ c.0 in
      sliced_by (is_some b.from) (is_some b.upto) (is_some b.by) a ms m (out-Ty a.ty) refl both.0 (ints_kinds ms both.1 ∙ bounds_kinds b ms all) h hs c.1

  -- ---- fields

  field_by : (name : List ℕ) (a m : Made) → Sounds scope set a → (layer : Ty-F Ty) → out-Ty a.ty ≡ layer → (found : ℕ × Ty) → field_in layer name ≡ Some found → part_of a found ≡ m → Sounds scope set m
  field_by name a m h (Ty-F.TupleOf parts) p found e is =
      let at = position_is name parts 0 found e in
      let number : at.0 ≡ found.0 = omega (arith, at.1) in
      sound_made scope set (expression.Part a.core found.0) found.1 m is
      (has_part scope set a.core found.0 (nameless (map (beside erased) parts)) ([], erased found.1) (subst (Has scope set a.core) (kind_at a.ty _ p) h.kind)
      (subst (λ number. slice_get (nameless (map (beside erased) parts)) number ≡ Some ([], erased found.1)) number at.2.place))
      (at.2.sound_part _ (parts_of_tuple _ a.ty parts p h.ty))
  field_by name a m h _ p found e is = absurd (cc)

  pub field_sound : (name : List ℕ) (a m : Made) → Sounds scope set a → field name a ≡ Some m → Sounds scope set m
  field_sound name a m h e =
      let f = mapped (part_of a) (field_in (out-Ty a.ty) name) m e in
      field_by name a m h (out-Ty a.ty) refl f.0 f.1 f.2
