-- Which values are of which kinds.
use Rattle.std.specs.Prelude.{◌≡◌, ℕ, ◌^◌, ◌<◌, ◌≤◌, ℤ, Bool, Some, None, List, [], ◌∷◌, slice_get, length, IsTrue}
use Rattle.chi_num.specs.declared.dist.Dist.{Dist}
use Rattle.chi_num.specs.declared.dist.Dist.TheVariants as dist
use Rattle.chi_types.specs.declared.ty.Ty.{Ty, Ty-F, out-Ty}
use Rattle.chi_types.specs.declared.ty.Way.TheVariants as way
use Rattle.chi_types.specs.Plain.{is_plain}
use Rattle.chi_value.specs.declared.value.Value.{Value, Value-F, out-Value}
use Rattle.chi_value.specs.Names.{name_at}
use Rattle.chi_sets.specs.Sets.{is_ascending}
use Rattle.chi_sets.specs.Dictionaries.{ascending_by_key}
use Rattle.chi_dist.specs.Draws.{stream_count}
use Rattle.chi_core.specs.Kinds.{Kind, entry_of}

-- What a value may name: an enumeration value, by the names of its enumeration; a channel, by its number, which
-- has the type, without ways and names, of what it carries; and an instance, by its number.
pub record World : Type 0 where
  pub names : List (List (List ℕ))
  pub carried : List Ty
  pub instances : ℕ

-- where there is no channel and no instance
abbrev pub nowhere : List (List (List ℕ)) → World
nowhere names = record { names = names; carried = []; instances = 0 }

-- one instance, and no channel
abbrev pub at_start : List (List (List ℕ)) → World
at_start names = record { names = names; carried = []; instances = 1 }

-- more may be named, and what was there is as it was
pub record Wider (w v : World) : Type 0 where
  pub names : v.names ≡ w.names
  pub carried : (n : ℕ) (t : Ty) → slice_get w.carried n ≡ Some t → slice_get v.carried n ≡ Some t
  pub instances : w.instances ≤ v.instances

-- what a distribution yields when it is sampled; its stream is there, where it has one
pub data Yields : Dist → Kind → Type 0 where
  always_bool : (b : Bool) → Yields (dist.ConstBool b) Ty-F.Bool
  always_int : (n : ℤ) → Yields (dist.ConstInt n) Ty-F.Int
  always_real : (n : ℤ) → Yields (dist.ConstReal n) Ty-F.Real
  some_int : (a b : ℤ) (stream : ℕ) → stream < stream_count → Yields (dist.UniformInt a b stream) Ty-F.Int
  some_real : (a b : ℤ) (stream : ℕ) → stream < stream_count → Yields (dist.UniformReal a b stream) Ty-F.Real
  some_bool : (chance : ℤ) (stream : ℕ) → stream < stream_count → Yields (dist.Bernoulli chance stream) Ty-F.Bool
  some_count : (trials chance : ℤ) (stream : ℕ) → stream < stream_count → Yields (dist.Binomial trials chance stream) Ty-F.Int
  some_wait : (mean : ℤ) (stream : ℕ) → stream < stream_count → Yields (dist.Exponential mean stream) Ty-F.Real

-- a list is short enough for a value
abbrev pub IsShort : {A : Type 0} → List A → Type 0
IsShort xs = length xs < 2 ^ 32

mutual
  -- A value is of a kind. Sets are strictly ascending lists of plain elements, and dictionaries of entries strictly
  -- ascending by plain keys.
  pub data Of (w : World) : Value-F Value → Kind → Type 0 where
    of_bool : (b : Bool) → Of w (Value-F.Bool b) Ty-F.Bool
    of_int : (n : ℤ) → Of w (Value-F.Int n) Ty-F.Int
    of_real : (n : ℤ) → Of w (Value-F.Real n) Ty-F.Real
    of_text : (bytes : List ℕ) → IsShort bytes → Of w (Value-F.Text bytes) Ty-F.Text
    of_choice : (enumeration position : ℕ) (name : List ℕ) → name_at w.names enumeration position ≡ Some name
        → Of w (Value-F.Choice enumeration position) (Ty-F.Choice enumeration)
    of_tuple : (xs : List Value) (parts : List (List ℕ × Ty)) → PartsOf w xs parts → Of w (Value-F.TupleOf xs) (Ty-F.TupleOf parts)
    of_list : (xs : List Value) (t : Ty) → IsShort xs → ((k : ℕ) (x : Value) → slice_get xs k ≡ Some x → Of w (out-Value x) (out-Ty t))
        → Of w (Value-F.ListOf xs) (Ty-F.ListOf t)
    of_set : (xs : List Value) (t : Ty) → IsShort xs → IsTrue (is_plain t) → IsTrue (is_ascending xs)
        → ((k : ℕ) (x : Value) → slice_get xs k ≡ Some x → Of w (out-Value x) (out-Ty t)) → Of w (Value-F.SetOf xs) (Ty-F.SetOf t)
    of_dictionary : (xs : List Value) (key has : Ty) → IsShort xs → IsTrue (is_plain key) → IsTrue (ascending_by_key xs)
        → ((k : ℕ) (x : Value) → slice_get xs k ≡ Some x → Of w (out-Value x) (entry_of key has)) → Of w (Value-F.DictOf xs) (Ty-F.DictOf key has)
    of_channel : (number : ℕ) (t : Ty) → slice_get w.carried number ≡ Some t → Of w (Value-F.Chan number) (Ty-F.Chan way.Both t)
    of_dist : (d : Dist) (t : Ty) → Yields d (out-Ty t) → Of w (Value-F.Dist d) (Ty-F.Dist t)
    of_timer : (due : ℤ) → Of w (Value-F.Timer due) Ty-F.Timer
    of_no_instance : Of w (Value-F.Inst None) Ty-F.Inst
    of_instance : (number : ℕ) → number < w.instances → Of w (Value-F.Inst (Some number)) Ty-F.Inst

  -- values are those of the parts of a tuple, one by one
  pub data PartsOf (w : World) : List Value → List (List ℕ × Ty) → Type 0 where
    no_part : PartsOf w [] []
    one_part : (x : Value) (xs : List Value) (part : List ℕ × Ty) (parts : List (List ℕ × Ty)) → Of w (out-Value x) (out-Ty part.1) → PartsOf w xs parts
        → PartsOf w (x ∷ xs) (part ∷ parts)

abbrev pub IsOf : World → Kind → Value → Type 0
IsOf w T v = Of w (out-Value v) T

-- values are of kinds, one by one
pub data AreOf (w : World) : List Value → List Kind → Type 0 where
  none_of : AreOf w [] []
  one_of : (x : Value) (xs : List Value) (T : Kind) (Ts : List Kind) → Of w (out-Value x) T → AreOf w xs Ts → AreOf w (x ∷ xs) (T ∷ Ts)
