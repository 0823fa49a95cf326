-- Sound types, in a program with so many enumerations.
use Rattle.std.specs.Prelude.{◌≡◌, ℕ, ◌<◌, List, [], ◌∷◌, IsTrue}
use Rattle.chi_types.specs.declared.ty.Ty.{Ty, Ty-F, out-Ty}
use Rattle.chi_types.specs.declared.ty.Way.{Way}
use Rattle.chi_types.specs.Plain.{is_plain}

mutual
  pub data SoundType (enumerations : ℕ) : Ty-F Ty → Type 0 where
    bool : SoundType enumerations Ty-F.Bool
    int : SoundType enumerations Ty-F.Int
    real : SoundType enumerations Ty-F.Real
    text : SoundType enumerations Ty-F.Text
    timer : SoundType enumerations Ty-F.Timer
    instance : SoundType enumerations Ty-F.Inst
    -- the enumeration is there
    choice : (enumeration : ℕ) → enumeration < enumerations → SoundType enumerations (Ty-F.Choice enumeration)
    tuple : (parts : List (List ℕ × Ty)) → SoundParts enumerations parts → SoundType enumerations (Ty-F.TupleOf parts)
    a_list : (t : Ty) → SoundType enumerations (out-Ty t) → SoundType enumerations (Ty-F.ListOf t)
    -- the elements of a set are plain, and so are the keys of a dictionary
    a_set : (t : Ty) → IsTrue (is_plain t) → SoundType enumerations (out-Ty t) → SoundType enumerations (Ty-F.SetOf t)
    a_dictionary : (key has : Ty) → IsTrue (is_plain key) → SoundType enumerations (out-Ty key) → SoundType enumerations (out-Ty has) → SoundType enumerations (Ty-F.DictOf key has)
    -- void stands nowhere but as what a channel carries
    channel : (w : Way) (t : Ty) → SoundType enumerations (out-Ty t) → SoundType enumerations (Ty-F.Chan w t)
    channel_of_void : (w : Way) (t : Ty) → out-Ty t ≡ Ty-F.Void → SoundType enumerations (Ty-F.Chan w t)
    distribution : (t : Ty) → SoundType enumerations (out-Ty t) → SoundType enumerations (Ty-F.Dist t)

  pub data SoundParts (enumerations : ℕ) : List (List ℕ × Ty) → Type 0 where
    no_part : SoundParts enumerations []
    one_part : (part : List ℕ × Ty) (parts : List (List ℕ × Ty)) → SoundType enumerations (out-Ty part.1) → SoundParts enumerations parts
        → SoundParts enumerations (part ∷ parts)
