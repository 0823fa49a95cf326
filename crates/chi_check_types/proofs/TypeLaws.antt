-- Private to proofs. The rules of types give sound types.
use Rattle.std.proofs.Common.{◌≡◌, ℕ, Bool, true, false, not, List, [], ◌∷◌, ◌++◌, Option, Some, None, refl, sym, ap, subst, ◌∙◌}
use Rattle.std.specs.Prelude.{IsTrue}
use Rattle.chi_token.specs.declared.place.Place.{Place}
use Rattle.chi_tree.specs.declared.type_tree.Name.{Name}
use Rattle.chi_tree.specs.declared.type_tree.TypeWord.{TypeWord}
use Rattle.chi_tree.specs.declared.type_tree.TypeWord.TheVariants as word
use Rattle.chi_tree.specs.declared.type_tree.Way.{Way}
use Rattle.chi_types.specs.declared.ty.Ty.{Ty, Ty-F, out-Ty}
use Rattle.chi_types.specs.declared.ty.Ty.TheVariants as ty
use Rattle.chi_types.specs.Plain.{is_plain}
use Rattle.chi_core.specs.SoundTypes as sound
use Rattle.chi_core.specs.SoundTypes.{SoundType, SoundParts}
use Rattle.chi_check_types.specs.declared.fault.Fault.{Fault}
use Rattle.chi_check_types.specs.declared.known.Known.TheVariants as known
use Rattle.chi_check_types.specs.declared.known.NameKind.{NameKind}
use Rattle.chi_check_types.specs.declared.known.NameKind.TheVariants as kind
use Rattle.chi_check_types.specs.declared.meant.Made.{Made}
use Rattle.chi_check_types.specs.declared.meant.Meant.{Meant}
use Rattle.chi_check_types.specs.Typed.{Typed, broken_if, unless}
use Rattle.chi_check_types.specs.TypeRules.{of_type, meaning, depth_rule, word_type, word_of, untyped_name, visible_type, list_of, set_of, dict_of, dist_of, chan_of, void_chan_of, sized_list_of, with_size, way_of, names_rule, tuple_of}
use Rattle.chi_check_types.specs.TypeLaws.{IsSound, ComesToSound}

unless_made : (fs : List Fault) (m : Meant) → (unless fs m).faults ≡ [] → (unless fs m).made ≡ Some m
unless_made [] m h = refl
unless_made (f ∷ fs) m h = absurd (cc)

unless_unbroken : (fs : List Fault) (m : Meant) → (unless fs m).made ≡ Some m → (unless fs m).faults ≡ []
unless_unbroken [] m h = refl
unless_unbroken (f ∷ fs) m h = absurd (cc)

pub unbroken_made : (place : Place) (own : List Fault) (m : Meant) → (of_type place own m).faults ≡ [] → (of_type place own m).made ≡ Some m
unbroken_made place own m = unless_made (own ++ depth_rule place m.ty) m

pub made_unbroken : (place : Place) (own : List Fault) (m : Meant) → (of_type place own m).made ≡ Some m → (of_type place own m).faults ≡ []
made_unbroken place own m = unless_unbroken (own ++ depth_rule place m.ty) m

-- what is made is what was to be made
made_same : (fs : List Fault) (a b : Meant) → (unless fs a).made ≡ Some b → a ≡ b
made_same [] a b h = cc
made_same (f ∷ fs) a b h = absurd (cc)

-- a rule that isn't broken where something is made
unbroken : (broken : Bool) (rule : ℕ) (place : Place) (fs : List Fault) (a b : Meant) → (unless (broken_if broken rule place ++ fs) a).made ≡ Some b → broken ≡ false
unbroken true rule place fs a b h = absurd (cc)
unbroken false rule place fs a b h = refl

holds : (b : Bool) → not b ≡ false → IsTrue b
holds true h = refl
holds false h = absurd (cc)

sound_made : (n : ℕ) (place : Place) (own : List Fault) (m : Meant) → IsSound n m → ComesToSound n (of_type place own m)
sound_made n place own m s made h = subst (IsSound n) (made_same (own ++ depth_rule place m.ty) m made h) s

sound_word_type : (n : ℕ) (w : TypeWord) → SoundType n (out-Ty (word_type w))
sound_word_type n word.Bool = subst (SoundType n) (sym ty.outs-Bool) sound.bool
sound_word_type n word.Int = subst (SoundType n) (sym ty.outs-Int) sound.int
sound_word_type n word.Real = subst (SoundType n) (sym ty.outs-Real) sound.real
sound_word_type n word.Text = subst (SoundType n) (sym ty.outs-Text) sound.text
sound_word_type n word.Timer = subst (SoundType n) (sym ty.outs-Timer) sound.timer
sound_word_type n word.Inst = subst (SoundType n) (sym ty.outs-Inst) sound.instance

pub sound_word : (n : ℕ) (place : Place) (w : TypeWord) → ComesToSound n (word_of place w)
sound_word n place w = sound_made n place [] (meaning (word_type w)) (sound_word_type n w)

-- a name whose own type breaks a rule means no type
pub untyped_never : (place : Place) (k : NameKind) (m : Meant) → (untyped_name place k).made ≡ Some m → ⊥
untyped_never place kind.Type m e = absurd (cc)
untyped_never place _ m e = absurd (cc)

pub sound_name : (n : ℕ) (place : Place) (t : Ty) → SoundType n (out-Ty t) → ComesToSound n (visible_type place (Some (known.Kind t)))
sound_name n place t s = sound_made n place [] (meaning t) s

pub sound_list : (n : ℕ) (place : Place) (element : Meant) → IsSound n element → ComesToSound n (list_of place (Some element))
sound_list n place element s = sound_made n place [] (meaning (ty.ListOf element.ty)) (subst (SoundType n) (sym (ty.outs-ListOf element.ty)) (sound.a_list element.ty s))

pub sound_sized_list : (n : ℕ) (place : Place) (sizes : Bool) (size : Made) (element : Meant) → IsSound n element → ComesToSound n (sized_list_of place sizes (Some size) (Some element))
sound_sized_list n place sizes size element s = sound_made n place _ (with_size element size.core) (subst (SoundType n) (sym (ty.outs-ListOf element.ty)) (sound.a_list element.ty s))

pub sound_set : (n : ℕ) (place : Place) (element : Meant) → IsSound n element → ComesToSound n (set_of place (Some element))
sound_set n place element s made h =
    let plain : IsTrue (is_plain element.ty) = holds (is_plain element.ty) (unbroken (not (is_plain element.ty)) _ place _ (meaning (ty.SetOf element.ty)) made h) in
    sound_made n place _ (meaning (ty.SetOf element.ty)) (subst (SoundType n) (sym (ty.outs-SetOf element.ty)) (sound.a_set element.ty plain s)) made h

pub sound_dict : (n : ℕ) (place : Place) (key value : Meant) → IsSound n key → IsSound n value → ComesToSound n (dict_of place (Some key) (Some value))
sound_dict n place key value k v made h =
    let plain : IsTrue (is_plain key.ty) = holds (is_plain key.ty) (unbroken (not (is_plain key.ty)) _ place _ (meaning (ty.DictOf key.ty value.ty)) made h) in
    sound_made n place _ (meaning (ty.DictOf key.ty value.ty)) (subst (SoundType n) (sym (ty.outs-DictOf key.ty value.ty)) (sound.a_dictionary key.ty value.ty plain k v)) made h

pub sound_dist : (n : ℕ) (place : Place) (drawn : Meant) → IsSound n drawn → ComesToSound n (dist_of place (Some drawn))
sound_dist n place drawn s = sound_made n place _ (meaning (ty.Dist drawn.ty)) (subst (SoundType n) (sym (ty.outs-Dist drawn.ty)) (sound.distribution drawn.ty s))

pub sound_chan : (n : ℕ) (place : Place) (w : Way) (carried : Meant) → IsSound n carried → ComesToSound n (chan_of place w (Some carried))
sound_chan n place w carried s = sound_made n place [] (meaning (ty.Chan (way_of w) carried.ty)) (subst (SoundType n) (sym (ty.outs-Chan (way_of w) carried.ty)) (sound.channel (way_of w) carried.ty s))

pub sound_void_chan : (n : ℕ) (place : Place) (w : Way) → ComesToSound n (void_chan_of place w)
sound_void_chan n place w = sound_made n place [] (meaning (ty.Chan (way_of w) ty.Void)) (subst (SoundType n) (sym (ty.outs-Chan (way_of w) ty.Void)) (sound.channel_of_void (way_of w) ty.Void ty.outs-Void))

pub sound_tuple : (n : ℕ) (place : Place) (names : List Name) (parts : List (List ℕ × Ty)) → SoundParts n parts → ComesToSound n (tuple_of place names (Some parts))
sound_tuple n place names parts s = sound_made n place (names_rule [] names) (meaning (ty.TupleOf parts)) (subst (SoundType n) (sym (ty.outs-TupleOf parts)) (sound.tuple parts s))
