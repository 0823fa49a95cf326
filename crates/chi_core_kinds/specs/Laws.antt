-- What operators, literals, defaults and stores give is of its kind: nothing is amiss where the operands are of their kinds.
use Rattle.std.specs.Prelude.{◌≡◌, ℕ, ◌<◌, ◌≤◌, pos, true, false, Some, List, [], ◌∷◌, ◌++◌, map, length, slice_get, IsTrue}
use Rattle.chi_types.specs.declared.ty.Ty.{Ty, Ty-F, out-Ty}
use Rattle.chi_types.specs.Plain.{is_plain}
use Rattle.chi_value.specs.declared.format.Kind.TheVariants as kind
use Rattle.chi_value.specs.declared.format.Piece.{Piece}
use Rattle.chi_value.specs.declared.shape.Shape.{Shape, out-Shape}
use Rattle.chi_value.specs.declared.value.Value.{Value, Value-F, out-Value}
use Rattle.chi_value.specs.declared.value.Value.TheVariants as value
use Rattle.chi_dist.specs.Draws.{stream_count}
use Rattle.chi_format.specs.Format.{rendered}
use Rattle.chi_ops.specs.Operations.{build}
use Rattle.chi_ops.specs.Sequences.{insert_at}
use Rattle.chi_ops.specs.Store.{Step, by, part, put}
use Rattle.chi_core.specs.declared.op_name.OpName.{OpName}
use Rattle.chi_core.specs.Answer.{Does, wanted}
use Rattle.chi_core.specs.Containers.{done}
use Rattle.chi_core.specs.Evaluation.{fresh}
use Rattle.chi_core.specs.Kinds.{Kind, Every, tuple_of, is_plain_kind}
use Rattle.chi_core.specs.Of.{World, nowhere, IsOf, AreOf}
use Rattle.chi_core.specs.OperatorKinds.{OpKind, has_stream, ShapeKind}
use Rattle.chi_core.specs.Operators.{applied}
use Rattle.chi_core.specs.Reading.{part_of, quoted_in}
use Rattle.chi_core.specs.declared.scene.Scene.{Scene}
use Rattle.chi_core.specs.SoundExpressions.{LiteralKind, entry_kinds}
use Rattle.chi_core.specs.SoundParts.{Shows}
use Rattle.chi_core.specs.Spots.{element_by}
use Rattle.chi_core_kinds.specs.Well.{Well}

-- it does well, and what it gives is a value of this kind
abbrev pub WellOf : World → Kind → Does Value → Type 0
WellOf w T m = Well w (λ v x. IsOf v T x) m

-- operators, predefined names and casts: operands of the kinds of a row of the table give a value of the row's kind
abbrev pub OperatorsKeepKinds : Type 0
OperatorsKeepKinds =
    (w : World) (scene : Scene) → scene.names.kinds ≡ w.names → (name : OpName) (Ts : List Kind) (T : Kind) → OpKind name Ts T → has_stream name ≡ false
    → (values : List Value) → AreOf w values Ts → WellOf w T (applied scene name values)

-- makers of distributions that draw, with a stream that is there for the last operand
abbrev pub DistributionsKeepKinds : Type 0
DistributionsKeepKinds =
    (w : World) (scene : Scene) (name : OpName) (Ts : List Kind) (T : Kind) → OpKind name Ts T → has_stream name ≡ true
    → (values : List Value) → AreOf w values Ts → (stream : ℕ) → stream < stream_count → WellOf w T (applied scene name (values ++ value.Int (pos stream) ∷ []))

-- the value of a literal names no channel and no instance
abbrev pub LiteralsAreOfKinds : Type 0
LiteralsAreOfKinds = (names : List (List (List ℕ))) (v : Value) (T : Kind) → LiteralKind names (out-Value v) T → IsOf (nowhere names) T v

-- tuples, lists, sets and dictionaries that are built of parts

abbrev pub TuplesKeepKinds : Type 0
TuplesKeepKinds = (w : World) (values : List Value) (ts : List Ty) → AreOf w values (map out-Ty ts) → WellOf w (tuple_of ts) (done (build kind.TupleOf values))

abbrev pub ListsKeepKinds : Type 0
ListsKeepKinds = (w : World) (values : List Value) (t : Ty) → Every (IsOf w (out-Ty t)) values → WellOf w (Ty-F.ListOf t) (done (build kind.ListOf values))

abbrev pub SetsKeepKinds : Type 0
SetsKeepKinds = (w : World) (values : List Value) (t : Ty) → IsTrue (is_plain t) → Every (IsOf w (out-Ty t)) values → WellOf w (Ty-F.SetOf t) (done (build kind.SetOf values))

abbrev pub DictionariesKeepKinds : Type 0
DictionariesKeepKinds =
    (w : World) (values : List Value) (key has : Ty) (entries : ℕ) → IsTrue (is_plain key) → AreOf w values (entry_kinds entries (out-Ty key) (out-Ty has))
    → WellOf w (Ty-F.DictOf key has) (done (build kind.DictOf values))

-- an element that is put into a list, at a place that is at most its length
abbrev pub InsertionsKeepKinds : Type 0
InsertionsKeepKinds =
    (w : World) (xs x : Value) (items : List Value) (t : Ty) (place : ℕ) → out-Value xs ≡ Value-F.ListOf items → place ≤ length items → IsOf w (Ty-F.ListOf t) xs → IsOf w (out-Ty t) x
    → WellOf w (Ty-F.ListOf t) (done (insert_at xs place x))

-- a fresh default, where each enumeration has a value; the channels that were made for it are there then
abbrev pub DefaultsKeepKinds : Type 0
DefaultsKeepKinds =
    (w : World) → Every (λ names. 0 < length names) w.names → (shape : Shape) (T : Kind) → ShapeKind (length w.names) (out-Shape shape) T → WellOf w T (fresh shape)

-- steps lead from a kind to that of a part, as values that were evaluated name it
pub data PathLeads (w : World) : List Step → Kind → Kind → Type 0 where
  no_step : (T : Kind) → PathLeads w [] T T
  into_list : (i : Value) (path : List Step) (t : Ty) (U : Kind) → IsOf w Ty-F.Int i → PathLeads w path (out-Ty t) U → PathLeads w (by i ∷ path) (Ty-F.ListOf t) U
  into_dictionary : (i : Value) (path : List Step) (key has : Ty) (U : Kind) → IsOf w (out-Ty key) i → PathLeads w path (out-Ty has) U → PathLeads w (by i ∷ path) (Ty-F.DictOf key has) U
  into_tuple : (number : ℕ) (path : List Step) (parts : List (List ℕ × Ty)) (p : List ℕ × Ty) (U : Kind) → slice_get parts number ≡ Some p → PathLeads w path (out-Ty p.1) U
      → PathLeads w (part number ∷ path) (Ty-F.TupleOf parts) U

-- a value that is stored into a part of another
abbrev pub StoresKeepKinds : Type 0
StoresKeepKinds = (w : World) (path : List Step) (T U : Kind) → PathLeads w path T U → (x v : Value) → IsOf w U x → IsOf w T v → WellOf w T (done (put path x v))

-- an element of a list by its index, what a key has in a dictionary, and a part of a tuple by its number

abbrev pub ElementsKeepKinds : Type 0
ElementsKeepKinds =
    (w : World) (v i : Value) (t : Ty) → IsOf w (Ty-F.ListOf t) v → IsOf w Ty-F.Int i → WellOf w (out-Ty t) (element_by v (out-Value v) i (out-Value i))

abbrev pub EntriesKeepKinds : Type 0
EntriesKeepKinds =
    (w : World) (v i : Value) (key has : Ty) → IsOf w (Ty-F.DictOf key has) v → IsOf w (out-Ty key) i → WellOf w (out-Ty has) (element_by v (out-Value v) i (out-Value i))

abbrev pub PartsKeepKinds : Type 0
PartsKeepKinds =
    (w : World) (v : Value) (parts : List (List ℕ × Ty)) (number : ℕ) (p : List ℕ × Ty) → IsOf w (Ty-F.TupleOf parts) v → slice_get parts number ≡ Some p
    → WellOf w (out-Ty p.1) (wanted (part_of v number))

-- texts: of the pieces of a format with a value of its kind for each that wants one, and of a plain value

abbrev pub FormatsRender : Type 0
FormatsRender =
    (w : World) (pieces : List Piece) (Ts : List Kind) → Shows pieces Ts → (values : List Value) → AreOf w values Ts
    → (text : List ℕ) × (rendered w.names pieces values ≡ Some text)

abbrev pub PlainValuesQuote : Type 0
PlainValuesQuote = (w : World) (v : Value) (T : Kind) → IsTrue (is_plain_kind T) → IsOf w T v → (text : List ℕ) × (quoted_in w.names v ≡ Some text)
