-- Kinds: types without the ways of channels and the names of tuples' parts. Where those don't count, two types
-- are alike exactly if their kinds are equal.
use Rattle.std.specs.Prelude.{◌≡◌, ℕ, Bool, true, false, ◌||◌, List, [], ◌∷◌, map, Some, slice_get}
use Rattle.std.specs.List.{list_any}
use Rattle.chi_types.specs.declared.ty.Ty.{Ty, Ty-F, fold-Ty, map-Ty, out-Ty, roll-Ty}
use Rattle.chi_types.specs.declared.ty.Way.TheVariants as way
use Rattle.chi_types.specs.Plain.{is_plain, plain_step, holds}
use Rattle.chi_types.specs.Same.{nameless}

-- the outermost layer of a type that has no ways and no names; its parts are such types
abbrev pub Kind : Type 0
Kind = Ty-F Ty

abbrev pub without_ways_and_names : Ty-F Ty → Ty-F Ty
without_ways_and_names (Ty-F.Chan direction element) = Ty-F.Chan way.Both element
without_ways_and_names (Ty-F.TupleOf parts) = Ty-F.TupleOf (nameless parts)
without_ways_and_names layer = layer

-- a type without the ways of channels and the names of tuples' parts
abbrev pub erased : Ty → Ty
erased = fold-Ty Ty (λ layer. roll-Ty (without_ways_and_names layer))

abbrev pub kind_of : Ty → Kind
kind_of t = out-Ty (erased t)

abbrev pub kinds_of : List Ty → List Kind
kinds_of = map kind_of

-- the parts of a tuple, without names
abbrev pub nameless_parts : List Ty → List (List ℕ × Ty)
nameless_parts [] = []
nameless_parts (t ∷ ts) = ([], t) ∷ nameless_parts ts

-- the kinds of the parts of a tuple
abbrev pub part_kinds : List (List ℕ × Ty) → List Kind
part_kinds [] = []
part_kinds (part ∷ parts) = out-Ty part.1 ∷ part_kinds parts

-- a tuple of parts of these types
abbrev pub tuple_of : List Ty → Kind
tuple_of ts = Ty-F.TupleOf (nameless_parts ts)

-- what an entry of a dictionary is: a pair of a key and what it has
abbrev pub entry_of : Ty → Ty → Kind
entry_of key has = tuple_of (key ∷ has ∷ [])

-- values of a kind can be compared, kept in sets and shown
abbrev pub is_plain_kind : Kind → Bool
is_plain_kind T = plain_step (map-Ty Ty Bool is_plain T)

abbrev pub holds_channel_step : Ty-F Bool → Bool
holds_channel_step (Ty-F.Chan direction element) = true
holds_channel_step (Ty-F.TupleOf parts) = list_any holds parts
holds_channel_step (Ty-F.ListOf element) = element
holds_channel_step (Ty-F.SetOf element) = element
holds_channel_step (Ty-F.DictOf key has) = key || has
holds_channel_step (Ty-F.Dist element) = element
holds_channel_step _ = false

-- a channel is in the kind, at some depth
abbrev pub holds_channel : Kind → Bool
holds_channel T = holds_channel_step (map-Ty Ty Bool (fold-Ty Bool holds_channel_step) T)

-- what stands on a channel of void only synchronises
abbrev pub is_void : Kind → Bool
is_void Ty-F.Void = true
is_void _ = false

-- P holds of each element
abbrev pub Every : {A : Type 0} → (A → Type 0) → List A → Type 0
Every {A} P xs = (k : ℕ) (x : A) → slice_get xs k ≡ Some x → P x
