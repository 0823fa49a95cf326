-- Arithmetic on ints and reals. A real is its units of a billionth.
use Rattle.std.specs.Prelude.{ℤ, pos, negsuc, neg_ℤ, nat_abs, ◌*ℤ◌, List, [], ◌∷◌, if◌then◌else◌}
use Rattle.std.specs.Int.{int_min, int_max, int_signum}
use Rattle.std.specs.Ordering.{int_eq}
use Rattle.chi_num.specs.Power.{power}
use Rattle.chi_num.specs.Results.{fits, rounded, floor_of, ceiling_of, remainder_of}
use Rattle.chi_num.specs.Units.{units_per_one}
use Rattle.chi_value.specs.declared.value.Value.{Value, Value-F, out-Value}
use Rattle.chi_value.specs.declared.value.Value.TheVariants as value
use Rattle.chi_core.specs.declared.fault.FaultKind.TheVariants.{IntRange, RealRange, DivideByZero, BadPower}
use Rattle.chi_core.specs.Answer.{Gives, Fails, Does, amiss}

-- an int, a real and a timer of this exact value, where 64 bits hold it

abbrev pub whole : ℤ → Does Value
whole z view = if fits z then Gives (value.Int z) view else Fails IntRange

abbrev pub real : ℤ → Does Value
real units view = if fits units then Gives (value.Real units) view else Fails RealRange

abbrev pub timer : ℤ → Does Value
timer due view = if fits due then Gives (value.Timer due) view else Fails RealRange

-- on one number

abbrev pub on_int : (ℤ → Does Value) → Value-F Value → Does Value
on_int int_does (Value-F.Int x) = int_does x
on_int int_does _ = amiss

abbrev pub on_real : (ℤ → Does Value) → Value-F Value → Does Value
on_real real_does (Value-F.Real x) = real_does x
on_real real_does _ = amiss

abbrev pub on_number : (ℤ → Does Value) → (ℤ → Does Value) → Value-F Value → Does Value
on_number int_does real_does (Value-F.Int x) = int_does x
on_number int_does real_does (Value-F.Real x) = real_does x
on_number int_does real_does _ = amiss

-- an int as a real
abbrev pub widened : Value → Does Value
widened a = on_int (λ x. real (x *ℤ units_per_one)) (out-Value a)

abbrev pub negated : Value → Does Value
negated a = on_number (λ x. whole (neg_ℤ x)) (λ x. real (neg_ℤ x)) (out-Value a)

abbrev pub absolute : Value → Does Value
absolute a = on_number (λ x. whole (pos (nat_abs x))) (λ x. real (pos (nat_abs x))) (out-Value a)

-- -1, 0 or 1, an int
abbrev pub sign_of : Value → Does Value
sign_of a = on_number (λ x. whole (int_signum x)) (λ x. whole (int_signum x)) (out-Value a)

-- the whole number below a real, above it and nearest to it, a tie away from zero

abbrev pub floored : Value → Does Value
floored a = on_real (λ x. whole (floor_of x units_per_one)) (out-Value a)

abbrev pub ceiled : Value → Does Value
ceiled a = on_real (λ x. whole (ceiling_of x units_per_one)) (out-Value a)

abbrev pub nearest_to : Value → Does Value
nearest_to a = on_real (λ x. whole (rounded x units_per_one)) (out-Value a)

-- on two numbers

abbrev pub on_ints : (ℤ → ℤ → Does Value) → Value-F Value → Value-F Value → Does Value
on_ints does (Value-F.Int x) (Value-F.Int y) = does x y
on_ints does _ _ = amiss

abbrev pub on_reals : (ℤ → ℤ → Does Value) → Value-F Value → Value-F Value → Does Value
on_reals does (Value-F.Real x) (Value-F.Real y) = does x y
on_reals does _ _ = amiss

-- what is made of a number and a divisor that isn't 0
abbrev pub over : ℤ → Does Value → Does Value
over divisor does view = if int_eq divisor (pos 0) then Fails DivideByZero else does view

-- the quotient of two reals, rounded to the nearest unit
abbrev pub quotient : Value → Value → Does Value
quotient a b = on_reals (λ x y. over y (real (rounded (x *ℤ units_per_one) y))) (out-Value a) (out-Value b)

-- the quotient of two ints, rounded down, and what is left, which has the divisor's sign

abbrev pub divided : Value → Value → Does Value
divided a b = on_ints (λ x y. over y (whole (floor_of x y))) (out-Value a) (out-Value b)

abbrev pub remainder : Value → Value → Does Value
remainder a b = on_ints (λ x y. over y (whole (remainder_of x y))) (out-Value a) (out-Value b)

abbrev pub raised : ℤ → ℤ → Does Value
raised x (pos n) = whole (power x n)
raised x (negsuc n) = λ view. Fails BadPower

abbrev pub powered : Value → Value → Does Value
powered a b = on_ints raised (out-Value a) (out-Value b)

-- The least and the greatest of two or more numbers, all of them ints or all of them reals.

abbrev pub best_int : (ℤ → ℤ → ℤ) → ℤ → List Value → Does Value
best_int better x [] = λ view. Gives (value.Int x) view
best_int better x (b ∷ rest) = on_int (λ y. best_int better (better x y) rest) (out-Value b)

abbrev pub best_real : (ℤ → ℤ → ℤ) → ℤ → List Value → Does Value
best_real better x [] = λ view. Gives (value.Real x) view
best_real better x (b ∷ rest) = on_real (λ y. best_real better (better x y) rest) (out-Value b)

abbrev pub best_of : (ℤ → ℤ → ℤ) → Value → Value → List Value → Does Value
best_of better a b rest =
    on_number (λ x. best_int better x (b ∷ rest)) (λ x. best_real better x (b ∷ rest)) (out-Value a)

abbrev pub least_of : Value → Value → List Value → Does Value
least_of = best_of int_min

abbrev pub greatest_of : Value → Value → List Value → Does Value
greatest_of = best_of int_max
