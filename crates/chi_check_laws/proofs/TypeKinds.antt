-- The kinds of types by their outermost layers, when a type serves for another, and sound types of parts.
use Rattle.std.proofs.Common.{◌≡◌, ◌⊎◌, inl, inr, ℕ, true, List, [], ◌∷◌, map, Some, refl, sym, subst, ◌∙◌}
use Rattle.chi_types.specs.declared.ty.Ty.{Ty, Ty-F, out-Ty, map-Ty}
use Rattle.chi_types.specs.declared.ty.Ty.TheVariants as ty
use Rattle.chi_types.specs.Plain.{is_plain}
use Rattle.chi_types.specs.Same.{nameless, beside}
use Rattle.chi_types.specs.Fits.{fits, widens}
use Rattle.chi_types.specs.Joined.{joined}
use Rattle.chi_types.proofs.FitsLaws.{joined_fitted}
use Rattle.chi_core.specs.Kinds.{kind_of, erased, without_ways_and_names, is_plain_kind, nameless_parts}
use Rattle.chi_core.specs.SoundTypes as sound
use Rattle.chi_core.specs.SoundTypes.{SoundType, SoundParts}
use Rattle.chi_core.proofs.Erased.{kind_at, plain_at, fitting_kinds}
use Rattle.chi_check_types.proofs.ShapeLaws.{stays_plain}

-- ---- by layers

pub kind_bool : kind_of ty.Bool ≡ Ty-F.Bool
kind_bool = kind_at ty.Bool Ty-F.Bool ty.outs-Bool

pub kind_int : kind_of ty.Int ≡ Ty-F.Int
kind_int = kind_at ty.Int Ty-F.Int ty.outs-Int

pub kind_real : kind_of ty.Real ≡ Ty-F.Real
kind_real = kind_at ty.Real Ty-F.Real ty.outs-Real

pub kind_text : kind_of ty.Text ≡ Ty-F.Text
kind_text = kind_at ty.Text Ty-F.Text ty.outs-Text

pub kind_timer : kind_of ty.Timer ≡ Ty-F.Timer
kind_timer = kind_at ty.Timer Ty-F.Timer ty.outs-Timer

pub kind_instance : kind_of ty.Inst ≡ Ty-F.Inst
kind_instance = kind_at ty.Inst Ty-F.Inst ty.outs-Inst

pub kind_choice : (enumeration : ℕ) → kind_of (ty.Choice enumeration) ≡ Ty-F.Choice enumeration
kind_choice enumeration = kind_at (ty.Choice enumeration) _ (ty.outs-Choice enumeration)

pub kind_tuple : (parts : List (List ℕ × Ty)) → kind_of (ty.TupleOf parts) ≡ Ty-F.TupleOf (nameless (map (beside erased) parts))
kind_tuple parts = kind_at (ty.TupleOf parts) _ (ty.outs-TupleOf parts)

pub kind_list : (t : Ty) → kind_of (ty.ListOf t) ≡ Ty-F.ListOf (erased t)
kind_list t = kind_at (ty.ListOf t) _ (ty.outs-ListOf t)

pub kind_set : (t : Ty) → kind_of (ty.SetOf t) ≡ Ty-F.SetOf (erased t)
kind_set t = kind_at (ty.SetOf t) _ (ty.outs-SetOf t)

pub kind_dictionary : (key has : Ty) → kind_of (ty.DictOf key has) ≡ Ty-F.DictOf (erased key) (erased has)
kind_dictionary key has = kind_at (ty.DictOf key has) _ (ty.outs-DictOf key has)

pub kind_dist : (t : Ty) → kind_of (ty.Dist t) ≡ Ty-F.Dist (erased t)
kind_dist t = kind_at (ty.Dist t) _ (ty.outs-Dist t)

-- an int has no other kind, nor has a real
int_layer : (layer : Ty-F Ty) → without_ways_and_names (map-Ty Ty Ty erased layer) ≡ Ty-F.Int → layer ≡ Ty-F.Int
int_layer Ty-F.Int h = refl
int_layer _ h = absurd (cc)

real_layer : (layer : Ty-F Ty) → without_ways_and_names (map-Ty Ty Ty erased layer) ≡ Ty-F.Real → layer ≡ Ty-F.Real
real_layer Ty-F.Real h = refl
real_layer _ h = absurd (cc)

pub is_int_by_kind : (t : Ty) → kind_of t ≡ Ty-F.Int → out-Ty t ≡ Ty-F.Int
is_int_by_kind t h = int_layer (out-Ty t) (sym (kind_at t (out-Ty t) refl) ∙ h)

pub is_real_by_kind : (t : Ty) → kind_of t ≡ Ty-F.Real → out-Ty t ≡ Ty-F.Real
is_real_by_kind t h = real_layer (out-Ty t) (sym (kind_at t (out-Ty t) refl) ∙ h)

-- ---- plain types have plain kinds

pub plain_erased : (t : Ty) → is_plain t ≡ true → is_plain (erased t) ≡ true
plain_erased t h = stays_plain t ∙ h

pub plain_kind : (t : Ty) → is_plain t ≡ true → is_plain_kind (kind_of t) ≡ true
plain_kind t h = sym (plain_at (erased t) (kind_of t) refl) ∙ plain_erased t h

-- ---- a type serves for another: they have one kind, or it is int and the other real

abbrev pub Serves : Ty → Ty → Type 0
Serves a t = (kind_of a ≡ kind_of t) ⊎ ((kind_of a ≡ Ty-F.Int) × (kind_of t ≡ Ty-F.Real))

pub serves_itself : (t : Ty) → Serves t t
serves_itself t = inl refl

pub serves_still : (a b t : Ty) → Serves a b → Serves b t → Serves a t
serves_still a b t (inl p) (inl q) = inl (p ∙ q)
serves_still a b t (inl p) (inr q) = inr (p ∙ q.0, q.1)
serves_still a b t (inr p) (inl q) = inr (p.0, sym q ∙ p.1)
serves_still a b t (inr p) (inr q) = inr (p.0, q.1)

pub fits_serves : (a t : Ty) → fits a t ≡ true → Serves a t
fits_serves = fitting_kinds

pub joined_serves : (a b t : Ty) → joined a b ≡ Some t → Serves a t × Serves b t
joined_serves a b t h = (fits_serves a t (joined_fitted a b t h).0, fits_serves b t (joined_fitted a b t h).1)

widened : (a t : Ty) (x y : Ty-F Ty) → out-Ty a ≡ x → out-Ty t ≡ y → widens x y ≡ true → (kind_of a ≡ Ty-F.Int) × (kind_of t ≡ Ty-F.Real)
widened a t Ty-F.Int Ty-F.Real p q h = (kind_at a Ty-F.Int p, kind_at t Ty-F.Real q)
widened a t Ty-F.Int _ p q h = absurd (cc)
widened a t _ y p q h = absurd (cc)

-- what is widened is an int, where a real is wanted
pub widens_kinds : (a t : Ty) → widens (out-Ty a) (out-Ty t) ≡ true → (kind_of a ≡ Ty-F.Int) × (kind_of t ≡ Ty-F.Real)
widens_kinds a t h = widened a t (out-Ty a) (out-Ty t) refl refl h

pub kinds_widen : (a t : Ty) → kind_of a ≡ Ty-F.Int → kind_of t ≡ Ty-F.Real → widens (out-Ty a) (out-Ty t) ≡ true
kinds_widen a t p q = λ i. widens (is_int_by_kind a p i) (is_real_by_kind t q i)

-- ---- sound types

module _ (n : ℕ) where
  sound_at : (t : Ty) (layer : Ty-F Ty) → out-Ty t ≡ layer → SoundType n layer → SoundType n (out-Ty t)
  sound_at t layer h s = subst (SoundType n) (sym h) s

  pub sound_bool : SoundType n (out-Ty ty.Bool)
  sound_bool = sound_at ty.Bool _ ty.outs-Bool sound.bool

  pub sound_int : SoundType n (out-Ty ty.Int)
  sound_int = sound_at ty.Int _ ty.outs-Int sound.int

  pub sound_real : SoundType n (out-Ty ty.Real)
  sound_real = sound_at ty.Real _ ty.outs-Real sound.real

  pub sound_text : SoundType n (out-Ty ty.Text)
  sound_text = sound_at ty.Text _ ty.outs-Text sound.text

  pub sound_timer : SoundType n (out-Ty ty.Timer)
  sound_timer = sound_at ty.Timer _ ty.outs-Timer sound.timer

  pub sound_list : (t : Ty) → SoundType n (out-Ty t) → SoundType n (out-Ty (ty.ListOf t))
  sound_list t s = sound_at (ty.ListOf t) _ (ty.outs-ListOf t) (sound.a_list t s)

  pub sound_set : (t : Ty) → is_plain t ≡ true → SoundType n (out-Ty t) → SoundType n (out-Ty (ty.SetOf t))
  sound_set t plain s = sound_at (ty.SetOf t) _ (ty.outs-SetOf t) (sound.a_set t plain s)

  pub sound_dictionary : (key has : Ty) → is_plain key ≡ true → SoundType n (out-Ty key) → SoundType n (out-Ty has) → SoundType n (out-Ty (ty.DictOf key has))
  sound_dictionary key has plain s r = sound_at (ty.DictOf key has) _ (ty.outs-DictOf key has) (sound.a_dictionary key has plain s r)

  pub sound_dist : (t : Ty) → SoundType n (out-Ty t) → SoundType n (out-Ty (ty.Dist t))
  sound_dist t s = sound_at (ty.Dist t) _ (ty.outs-Dist t) (sound.distribution t s)

  pub sound_tuple : (parts : List (List ℕ × Ty)) → SoundParts n parts → SoundType n (out-Ty (ty.TupleOf parts))
  sound_tuple parts s = sound_at (ty.TupleOf parts) _ (ty.outs-TupleOf parts) (sound.tuple parts s)

  -- and of what they have parts

  of_list : (layer : Ty-F Ty) (t : Ty) → layer ≡ Ty-F.ListOf t → SoundType n layer → SoundType n (out-Ty t)
  of_list _ t h (sound.a_list u s) = let same : u ≡ t = cc in subst (λ t. SoundType n (out-Ty t)) same s
  of_list _ t h _ = absurd (cc)

  pub element_of_list : (whole t : Ty) → out-Ty whole ≡ Ty-F.ListOf t → SoundType n (out-Ty whole) → SoundType n (out-Ty t)
  element_of_list whole t h s = of_list (out-Ty whole) t h s

  of_set : (layer : Ty-F Ty) (t : Ty) → layer ≡ Ty-F.SetOf t → SoundType n layer → SoundType n (out-Ty t)
  of_set _ t h (sound.a_set u plain s) = let same : u ≡ t = cc in subst (λ t. SoundType n (out-Ty t)) same s
  of_set _ t h _ = absurd (cc)

  pub element_of_set : (whole t : Ty) → out-Ty whole ≡ Ty-F.SetOf t → SoundType n (out-Ty whole) → SoundType n (out-Ty t)
  element_of_set whole t h s = of_set (out-Ty whole) t h s

  of_dictionary : (layer : Ty-F Ty) (key has : Ty) → layer ≡ Ty-F.DictOf key has → SoundType n layer → SoundType n (out-Ty key) × SoundType n (out-Ty has)
  of_dictionary _ key has h (sound.a_dictionary k v plain s r) =
      let keys : k ≡ key = cc in
      let values : v ≡ has = cc in
      (subst (λ t. SoundType n (out-Ty t)) keys s, subst (λ t. SoundType n (out-Ty t)) values r)
  of_dictionary _ key has h _ = absurd (cc)

  pub parts_of_dictionary : (whole key has : Ty) → out-Ty whole ≡ Ty-F.DictOf key has → SoundType n (out-Ty whole) → SoundType n (out-Ty key) × SoundType n (out-Ty has)
  parts_of_dictionary whole key has h s = of_dictionary (out-Ty whole) key has h s

  of_dist : (layer : Ty-F Ty) (t : Ty) → layer ≡ Ty-F.Dist t → SoundType n layer → SoundType n (out-Ty t)
  of_dist _ t h (sound.distribution u s) = let same : u ≡ t = cc in subst (λ t. SoundType n (out-Ty t)) same s
  of_dist _ t h _ = absurd (cc)

  pub drawn_of_dist : (whole t : Ty) → out-Ty whole ≡ Ty-F.Dist t → SoundType n (out-Ty whole) → SoundType n (out-Ty t)
  drawn_of_dist whole t h s = of_dist (out-Ty whole) t h s

  of_tuple : (layer : Ty-F Ty) (parts : List (List ℕ × Ty)) → layer ≡ Ty-F.TupleOf parts → SoundType n layer → SoundParts n parts
  of_tuple _ parts h (sound.tuple ps s) = let same : ps ≡ parts = cc in subst (SoundParts n) same s
  of_tuple _ parts h _ = absurd (cc)

  pub parts_of_tuple : (whole : Ty) (parts : List (List ℕ × Ty)) → out-Ty whole ≡ Ty-F.TupleOf parts → SoundType n (out-Ty whole) → SoundParts n parts
  parts_of_tuple whole parts h s = of_tuple (out-Ty whole) parts h s

  -- parts without names
  abbrev pub EachSound : List Ty → Type 0
  EachSound [] = Unit {0}
  EachSound (t ∷ ts) = SoundType n (out-Ty t) × EachSound ts

  pub sound_nameless : (ts : List Ty) → EachSound ts → SoundParts n (nameless_parts ts)
  sound_nameless [] s = sound.no_part
  sound_nameless (t ∷ ts) s = sound.one_part ([], t) (nameless_parts ts) s.0 (sound_nameless ts s.1)
