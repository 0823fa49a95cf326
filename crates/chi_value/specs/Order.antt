-- The order of values.
use Rattle.std.specs.Prelude.{ℕ}
use Rattle.std.specs.Cmp.Lexicographic.{slice_cmp}
use Rattle.std.specs.declared.cmp.Ordering.{Ordering}
use Rattle.std.specs.declared.cmp.Ordering.TheVariants.{Equal}
use Rattle.std.specs.Ordering.{nat_cmp, int_cmp, bool_cmp, ordering_then}
use Rattle.chi_value.specs.declared.value.Value.{Value, Value-F, fold-Value, out-Value}

-- values that are not alike stand in the order of their kinds
abbrev pub rank : {A : Type 0} → Value-F A → ℕ
rank (Value-F.Bool truth) = 0
rank (Value-F.Int number) = 1
rank (Value-F.Real units) = 2
rank (Value-F.Text bytes) = 3
rank (Value-F.Choice kind position) = 4
rank (Value-F.TupleOf parts) = 5
rank (Value-F.ListOf items) = 6
rank (Value-F.SetOf items) = 7
rank (Value-F.DictOf items) = 8
rank (Value-F.Chan number) = 9
rank (Value-F.Dist dist) = 10
rank (Value-F.Timer due) = 11
rank (Value-F.Inst instance) = 12

-- how one part, which is given by its comparison, stands to another
abbrev pub against : (Value → Ordering) → Value → Ordering
against comparison other = comparison other

-- the order within a kind: of a container or a tuple by the first difference of the parts, what ends first before what goes on
abbrev pub within_kind : Value-F (Value → Ordering) → Value-F Value → Ordering
within_kind (Value-F.Bool x) (Value-F.Bool y) = bool_cmp x y
within_kind (Value-F.Int x) (Value-F.Int y) = int_cmp x y
within_kind (Value-F.Real x) (Value-F.Real y) = int_cmp x y
within_kind (Value-F.Text x) (Value-F.Text y) = slice_cmp nat_cmp x y
within_kind (Value-F.Choice k x) (Value-F.Choice l y) = ordering_then (nat_cmp k l) (nat_cmp x y)
within_kind (Value-F.TupleOf xs) (Value-F.TupleOf ys) = slice_cmp against xs ys
within_kind (Value-F.ListOf xs) (Value-F.ListOf ys) = slice_cmp against xs ys
within_kind (Value-F.SetOf xs) (Value-F.SetOf ys) = slice_cmp against xs ys
within_kind (Value-F.DictOf xs) (Value-F.DictOf ys) = slice_cmp against xs ys
within_kind _ _ = Equal

abbrev pub order_step : Value-F (Value → Ordering) → Value-F Value → Ordering
order_step a b = ordering_then (nat_cmp (rank a) (rank b)) (within_kind a b)

-- the order of two values
abbrev pub order : Value → Value → Ordering
order = fold-Value (Value → Ordering) (λ layer other. order_step layer (out-Value other))
