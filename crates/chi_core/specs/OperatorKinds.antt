-- The operator table: what kinds the operands of each operator, predefined name and cast have, and what kind it gives;
-- and likewise what kinds the defaults of each shape have. Conversions of ints to reals stand in the core, so that
-- no row speaks of them.
use Rattle.std.specs.Prelude.{ℕ, ◌<◌, Bool, true, false, List, [], ◌∷◌, ◌++◌, replicate, IsTrue, if◌then◌else◌}
use Rattle.chi_types.specs.declared.ty.Ty.{Ty, Ty-F, out-Ty, roll-Ty}
use Rattle.chi_types.specs.declared.ty.Ty.TheVariants as ty
use Rattle.chi_types.specs.declared.ty.Way.TheVariants as way
use Rattle.chi_types.specs.Plain.{is_plain}
use Rattle.chi_value.specs.declared.shape.Shape.{Shape, Shape-F, out-Shape}
use Rattle.chi_core.specs.declared.op_name.OpName.{OpName}
use Rattle.chi_core.specs.declared.op_name.OpName.TheVariants as op
use Rattle.chi_core.specs.Kinds.{Kind, tuple_of, is_plain_kind}

-- an int where a bound of a slice is given
abbrev pub bound : Bool → List Kind
bound given = if given then Ty-F.Int ∷ [] else []

abbrev pub bounds : Bool → Bool → Bool → List Kind
bounds first last by = bound first ++ bound last ++ bound by

-- two operands or more
abbrev pub several : ℕ → Kind → List Kind
several more T = T ∷ T ∷ replicate more T

-- what has an order beside that of plain values
abbrev pub is_ordered : Kind → Bool
is_ordered Ty-F.Int = true
is_ordered Ty-F.Real = true
is_ordered Ty-F.Text = true
is_ordered (Ty-F.Choice enumeration) = true
is_ordered _ = false

-- what has elements or bytes that are counted
abbrev pub has_size : Kind → Bool
has_size (Ty-F.ListOf t) = true
has_size (Ty-F.SetOf t) = true
has_size (Ty-F.DictOf key has) = true
has_size Ty-F.Text = true
has_size _ = false

-- A row of the table. The stream from which a distribution draws is no operand here.
pub data OpKind : OpName → List Kind → Kind → Type 0 where
  not_bool : OpKind op.Not (Ty-F.Bool ∷ []) Ty-F.Bool
  add_ints : OpKind op.Add (Ty-F.Int ∷ Ty-F.Int ∷ []) Ty-F.Int
  add_reals : OpKind op.Add (Ty-F.Real ∷ Ty-F.Real ∷ []) Ty-F.Real
  join_texts : OpKind op.Add (Ty-F.Text ∷ Ty-F.Text ∷ []) Ty-F.Text
  join_lists : (t : Ty) → OpKind op.Add (Ty-F.ListOf t ∷ Ty-F.ListOf t ∷ []) (Ty-F.ListOf t)
  unite_sets : (t : Ty) → OpKind op.Add (Ty-F.SetOf t ∷ Ty-F.SetOf t ∷ []) (Ty-F.SetOf t)
  unite_dictionaries : (key has : Ty) → OpKind op.Add (Ty-F.DictOf key has ∷ Ty-F.DictOf key has ∷ []) (Ty-F.DictOf key has)
  subtract_ints : OpKind op.Sub (Ty-F.Int ∷ Ty-F.Int ∷ []) Ty-F.Int
  subtract_reals : OpKind op.Sub (Ty-F.Real ∷ Ty-F.Real ∷ []) Ty-F.Real
  subtract_sets : (t : Ty) → OpKind op.Sub (Ty-F.SetOf t ∷ Ty-F.SetOf t ∷ []) (Ty-F.SetOf t)
  subtract_keys : (key has : Ty) → OpKind op.Sub (Ty-F.DictOf key has ∷ Ty-F.SetOf key ∷ []) (Ty-F.DictOf key has)
  multiply_ints : OpKind op.Mul (Ty-F.Int ∷ Ty-F.Int ∷ []) Ty-F.Int
  multiply_reals : OpKind op.Mul (Ty-F.Real ∷ Ty-F.Real ∷ []) Ty-F.Real
  intersect_sets : (t : Ty) → OpKind op.Mul (Ty-F.SetOf t ∷ Ty-F.SetOf t ∷ []) (Ty-F.SetOf t)
  divide_reals : OpKind op.Divide (Ty-F.Real ∷ Ty-F.Real ∷ []) Ty-F.Real
  divide_ints : OpKind op.Div (Ty-F.Int ∷ Ty-F.Int ∷ []) Ty-F.Int
  remainder_of_ints : OpKind op.Mod (Ty-F.Int ∷ Ty-F.Int ∷ []) Ty-F.Int
  power_of_ints : OpKind op.Power (Ty-F.Int ∷ Ty-F.Int ∷ []) Ty-F.Int
  negate_int : OpKind op.Neg (Ty-F.Int ∷ []) Ty-F.Int
  negate_real : OpKind op.Neg (Ty-F.Real ∷ []) Ty-F.Real
  -- any two plain values of one kind are equal or not
  equal_plain : (T : Kind) → IsTrue (is_plain_kind T) → OpKind op.Equal (T ∷ T ∷ []) Ty-F.Bool
  differ_plain : (T : Kind) → IsTrue (is_plain_kind T) → OpKind op.NotEqual (T ∷ T ∷ []) Ty-F.Bool
  less_ordered : (T : Kind) → IsTrue (is_ordered T) → OpKind op.Less (T ∷ T ∷ []) Ty-F.Bool
  at_most_ordered : (T : Kind) → IsTrue (is_ordered T) → OpKind op.AtMost (T ∷ T ∷ []) Ty-F.Bool
  greater_ordered : (T : Kind) → IsTrue (is_ordered T) → OpKind op.Greater (T ∷ T ∷ []) Ty-F.Bool
  at_least_ordered : (T : Kind) → IsTrue (is_ordered T) → OpKind op.AtLeast (T ∷ T ∷ []) Ty-F.Bool
  in_list : (t : Ty) → IsTrue (is_plain t) → OpKind op.In (out-Ty t ∷ Ty-F.ListOf t ∷ []) Ty-F.Bool
  in_set : (t : Ty) → OpKind op.In (out-Ty t ∷ Ty-F.SetOf t ∷ []) Ty-F.Bool
  in_dictionary : (key has : Ty) → OpKind op.In (out-Ty key ∷ Ty-F.DictOf key has ∷ []) Ty-F.Bool
  subset_of_set : (t : Ty) → OpKind op.Subset (Ty-F.SetOf t ∷ Ty-F.SetOf t ∷ []) Ty-F.Bool
  sample_dist : (t : Ty) → OpKind op.Sample (Ty-F.Dist t ∷ []) (out-Ty t)
  index_list : (t : Ty) → OpKind op.Index (Ty-F.ListOf t ∷ Ty-F.Int ∷ []) (out-Ty t)
  index_text : OpKind op.Index (Ty-F.Text ∷ Ty-F.Int ∷ []) Ty-F.Text
  look_up : (key has : Ty) → OpKind op.Lookup (Ty-F.DictOf key has ∷ out-Ty key ∷ []) (out-Ty has)
  slice_list : (first last by : Bool) (t : Ty) → OpKind (op.Slice first last by) (Ty-F.ListOf t ∷ bounds first last by) (Ty-F.ListOf t)
  slice_text : (first last by : Bool) → OpKind (op.Slice first last by) (Ty-F.Text ∷ bounds first last by) Ty-F.Text
  absolute_int : OpKind op.Abs (Ty-F.Int ∷ []) Ty-F.Int
  absolute_real : OpKind op.Abs (Ty-F.Real ∷ []) Ty-F.Real
  sign_of_int : OpKind op.Sign (Ty-F.Int ∷ []) Ty-F.Int
  sign_of_real : OpKind op.Sign (Ty-F.Real ∷ []) Ty-F.Int
  least_int : (more : ℕ) → OpKind op.Min (several more Ty-F.Int) Ty-F.Int
  least_real : (more : ℕ) → OpKind op.Min (several more Ty-F.Real) Ty-F.Real
  greatest_int : (more : ℕ) → OpKind op.Max (several more Ty-F.Int) Ty-F.Int
  greatest_real : (more : ℕ) → OpKind op.Max (several more Ty-F.Real) Ty-F.Real
  floor_of_real : OpKind op.Floor (Ty-F.Real ∷ []) Ty-F.Int
  ceiling_of_real : OpKind op.Ceil (Ty-F.Real ∷ []) Ty-F.Int
  round_real : OpKind op.Round (Ty-F.Real ∷ []) Ty-F.Int
  size_of : (T : Kind) → IsTrue (has_size T) → OpKind op.Size (T ∷ []) Ty-F.Int
  empty_of : (T : Kind) → IsTrue (has_size T) → OpKind op.Empty (T ∷ []) Ty-F.Bool
  -- the first, or the least, and the rest
  pop_list : (t : Ty) → OpKind op.Pop (Ty-F.ListOf t ∷ []) (tuple_of (t ∷ ty.ListOf t ∷ []))
  pop_set : (t : Ty) → OpKind op.Pop (Ty-F.SetOf t ∷ []) (tuple_of (t ∷ ty.SetOf t ∷ []))
  pop_dictionary : (key has : Ty) → OpKind op.Pop (Ty-F.DictOf key has ∷ []) (tuple_of (key ∷ has ∷ ty.DictOf key has ∷ []))
  delete_element : (t : Ty) → OpKind op.Del (Ty-F.ListOf t ∷ Ty-F.Int ∷ []) (Ty-F.ListOf t)
  range_to : OpKind op.Range (Ty-F.Int ∷ []) (Ty-F.ListOf ty.Int)
  range_from : OpKind op.Range (Ty-F.Int ∷ Ty-F.Int ∷ []) (Ty-F.ListOf ty.Int)
  range_by : OpKind op.Range (Ty-F.Int ∷ Ty-F.Int ∷ Ty-F.Int ∷ []) (Ty-F.ListOf ty.Int)
  enumerate_list : (t : Ty) → OpKind op.Enumerate (Ty-F.ListOf t ∷ []) (Ty-F.ListOf (roll-Ty (tuple_of (ty.Int ∷ t ∷ []))))
  keys_of_dictionary : (key has : Ty) → OpKind op.DictKeys (Ty-F.DictOf key has ∷ []) (Ty-F.ListOf key)
  values_of_dictionary : (key has : Ty) → OpKind op.DictValues (Ty-F.DictOf key has ∷ []) (Ty-F.ListOf has)
  constant_bool : OpKind op.Constant (Ty-F.Bool ∷ []) (Ty-F.Dist ty.Bool)
  constant_int : OpKind op.Constant (Ty-F.Int ∷ []) (Ty-F.Dist ty.Int)
  constant_real : OpKind op.Constant (Ty-F.Real ∷ []) (Ty-F.Dist ty.Real)
  uniform_int : OpKind op.Uniform (Ty-F.Int ∷ Ty-F.Int ∷ []) (Ty-F.Dist ty.Int)
  uniform_real : OpKind op.Uniform (Ty-F.Real ∷ Ty-F.Real ∷ []) (Ty-F.Dist ty.Real)
  bernoulli_bool : OpKind op.Bernoulli (Ty-F.Real ∷ []) (Ty-F.Dist ty.Bool)
  binomial_int : OpKind op.Binomial (Ty-F.Int ∷ Ty-F.Real ∷ []) (Ty-F.Dist ty.Int)
  exponential_real : OpKind op.Exponential (Ty-F.Real ∷ []) (Ty-F.Dist ty.Real)
  ready_timer : OpKind op.Ready (Ty-F.Timer ∷ []) Ty-F.Bool
  finished_instance : OpKind op.Finished (Ty-F.Inst ∷ []) Ty-F.Bool
  time_now : OpKind op.Time [] Ty-F.Real
  widen_int : OpKind op.Widen (Ty-F.Int ∷ []) Ty-F.Real
  int_of_int : OpKind op.ToInt (Ty-F.Int ∷ []) Ty-F.Int
  int_of_text : OpKind op.ToInt (Ty-F.Text ∷ []) Ty-F.Int
  real_of_int : OpKind op.ToReal (Ty-F.Int ∷ []) Ty-F.Real
  real_of_real : OpKind op.ToReal (Ty-F.Real ∷ []) Ty-F.Real
  real_of_text : OpKind op.ToReal (Ty-F.Text ∷ []) Ty-F.Real
  real_of_timer : OpKind op.ToReal (Ty-F.Timer ∷ []) Ty-F.Real
  text_of_plain : (T : Kind) → IsTrue (is_plain_kind T) → OpKind op.ToText (T ∷ []) Ty-F.Text
  bool_of_bool : OpKind op.ToBool (Ty-F.Bool ∷ []) Ty-F.Bool
  bool_of_text : OpKind op.ToBool (Ty-F.Text ∷ []) Ty-F.Bool
  timer_of_real : OpKind op.ToTimer (Ty-F.Real ∷ []) Ty-F.Timer

-- the makers of distributions that draw: each has one more operand, the last, which is its stream
abbrev pub has_stream : OpName → Bool
has_stream op.Uniform = true
has_stream op.Bernoulli = true
has_stream op.Binomial = true
has_stream op.Exponential = true
has_stream _ = false

-- what depends on the run: its draws, its time and its instances, and so also the casts to and from timers
abbrev pub depends_on_run : OpName → List Kind → Bool
depends_on_run op.Sample Ts = true
depends_on_run op.Time Ts = true
depends_on_run op.Ready Ts = true
depends_on_run op.Finished Ts = true
depends_on_run op.ToTimer Ts = true
depends_on_run op.ToReal (Ty-F.Timer ∷ []) = true
depends_on_run _ _ = false

mutual
  -- What the default of a shape is, where there are so many enumerations. The shape of an empty container doesn't tell
  -- its elements.
  pub data ShapeKind (enumerations : ℕ) : Shape-F Shape → Kind → Type 0 where
    shape_bool : ShapeKind enumerations Shape-F.Bool Ty-F.Bool
    shape_int : ShapeKind enumerations Shape-F.Int Ty-F.Int
    shape_real : ShapeKind enumerations Shape-F.Real Ty-F.Real
    shape_text : ShapeKind enumerations Shape-F.Text Ty-F.Text
    shape_choice : (enumeration : ℕ) → enumeration < enumerations → ShapeKind enumerations (Shape-F.Choice enumeration) (Ty-F.Choice enumeration)
    shape_tuple : (shapes : List Shape) (parts : List (List ℕ × Ty)) → ShapesOf enumerations shapes parts → ShapeKind enumerations (Shape-F.TupleOf shapes) (Ty-F.TupleOf parts)
    shape_list : (t : Ty) → ShapeKind enumerations Shape-F.ListOf (Ty-F.ListOf t)
    shape_set : (t : Ty) → IsTrue (is_plain t) → ShapeKind enumerations Shape-F.SetOf (Ty-F.SetOf t)
    shape_dictionary : (key has : Ty) → IsTrue (is_plain key) → ShapeKind enumerations Shape-F.DictOf (Ty-F.DictOf key has)
    shape_channel : (t : Ty) → ShapeKind enumerations Shape-F.Chan (Ty-F.Chan way.Both t)
    shape_dist_bool : ShapeKind enumerations Shape-F.DistBool (Ty-F.Dist ty.Bool)
    shape_dist_int : ShapeKind enumerations Shape-F.DistInt (Ty-F.Dist ty.Int)
    shape_dist_real : ShapeKind enumerations Shape-F.DistReal (Ty-F.Dist ty.Real)
    shape_timer : ShapeKind enumerations Shape-F.Timer Ty-F.Timer
    shape_instance : ShapeKind enumerations Shape-F.Inst Ty-F.Inst

  -- the shapes are those of the parts of a tuple, one by one
  pub data ShapesOf (enumerations : ℕ) : List Shape → List (List ℕ × Ty) → Type 0 where
    no_shape : ShapesOf enumerations [] []
    one_shape : (shape : Shape) (shapes : List Shape) (part : List ℕ × Ty) (parts : List (List ℕ × Ty)) → ShapeKind enumerations (out-Shape shape) (out-Ty part.1) → ShapesOf enumerations shapes parts
        → ShapesOf enumerations (shape ∷ shapes) (part ∷ parts)
