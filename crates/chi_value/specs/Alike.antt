-- When values are alike, and can be compared.
use Rattle.std.specs.Prelude.{ℕ, Bool, true, false, nat_eq, List, [], ◌∷◌, map, ◌&&◌, IsTrue}
use Rattle.std.specs.List.{list_all}
use Rattle.chi_num.specs.declared.dist.Dist.{Dist}
use Rattle.chi_num.specs.declared.dist.Dist.TheVariants as dist
use Rattle.chi_value.specs.declared.value.Value.{Value, Value-F, fold-Value, para-Value, out-Value}
use Rattle.chi_value.specs.Plain.{is_plain}

-- what is drawn: 0 for bools, 1 for ints, 2 for reals
abbrev pub drawn_kind : Dist → ℕ
drawn_kind (dist.ConstBool x) = 0
drawn_kind (dist.ConstInt x) = 1
drawn_kind (dist.ConstReal x) = 2
drawn_kind (dist.UniformInt low high stream) = 1
drawn_kind (dist.UniformReal low high stream) = 2
drawn_kind (dist.Bernoulli chance stream) = 0
drawn_kind (dist.Binomial count chance stream) = 1
drawn_kind (dist.Exponential mean stream) = 2

-- equally many parts, each of which, given by what it is alike to, is alike to the other part at its place
abbrev pub parts_alike : List (Value → Bool) → List Value → Bool
parts_alike [] [] = true
parts_alike (part ∷ parts) (other ∷ others) = part other && parts_alike parts others
parts_alike _ _ = false

-- an element, given by what it is alike to, is alike to all others
abbrev pub is_alike_to : List Value → (Value → Bool) → Bool
is_alike_to others element = list_all element others

-- each element is alike to each other
abbrev pub elements_alike : List (Value → Bool) → List Value → Bool
elements_alike elements others = list_all (is_alike_to others) elements

abbrev pub alike_step : Value-F (Value → Bool) → Value-F Value → Bool
alike_step (Value-F.Bool x) (Value-F.Bool y) = true
alike_step (Value-F.Int x) (Value-F.Int y) = true
alike_step (Value-F.Real x) (Value-F.Real y) = true
alike_step (Value-F.Text x) (Value-F.Text y) = true
alike_step (Value-F.Choice k x) (Value-F.Choice l y) = nat_eq k l
alike_step (Value-F.TupleOf xs) (Value-F.TupleOf ys) = parts_alike xs ys
alike_step (Value-F.ListOf xs) (Value-F.ListOf ys) = elements_alike xs ys
alike_step (Value-F.SetOf xs) (Value-F.SetOf ys) = elements_alike xs ys
alike_step (Value-F.DictOf xs) (Value-F.DictOf ys) = elements_alike xs ys
alike_step (Value-F.Chan x) (Value-F.Chan y) = true
alike_step (Value-F.Dist x) (Value-F.Dist y) = nat_eq (drawn_kind x) (drawn_kind y)
alike_step (Value-F.Timer x) (Value-F.Timer y) = true
alike_step (Value-F.Inst x) (Value-F.Inst y) = true
alike_step _ _ = false

-- two values are of one kind: enumeration values of one enumeration, distributions of one kind of value, tuples
-- alike part by part, and each element of one container alike to each of the other
abbrev pub alike : Value → Value → Bool
alike = fold-Value (Value → Bool) (λ layer other. alike_step layer (out-Value other))

-- every two of them are alike
abbrev pub all_alike : List Value → Bool
all_alike xs = list_all (λ x. list_all (alike x) xs) xs

-- an element or part as it is, and whether it is uniform
abbrev pub part_itself : Value × Bool → Value
part_itself part = part.0

abbrev pub part_holds : Value × Bool → Bool
part_holds part = part.1

abbrev pub uniform_elements : List (Value × Bool) → Bool
uniform_elements items = list_all part_holds items && all_alike (map part_itself items)

abbrev pub uniform_step : Value-F (Value × Bool) → Bool
uniform_step (Value-F.TupleOf parts) = list_all part_holds parts
uniform_step (Value-F.ListOf items) = uniform_elements items
uniform_step (Value-F.SetOf items) = uniform_elements items
uniform_step (Value-F.DictOf items) = uniform_elements items
uniform_step _ = true

-- every two elements of each container in it are alike
abbrev pub uniform : Value → Bool
uniform = para-Value Bool uniform_step

-- two values can be compared: both are plain and uniform, and they are alike
abbrev pub Alike : Value → Value → Type 0
Alike a b = IsTrue (is_plain a) × IsTrue (is_plain b) × IsTrue (uniform a) × IsTrue (uniform b) × IsTrue (alike a b)
