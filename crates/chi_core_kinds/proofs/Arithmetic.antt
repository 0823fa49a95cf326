-- Arithmetic on ints and reals.
use Rattle.std.proofs.Common.{ℕ, zero, suc, ℤ, pos, negsuc, List, ◌∷◌}
use Rattle.std.specs.Prelude.{neg_ℤ, nat_abs, ◌*ℤ◌, replicate}
use Rattle.std.specs.Int.{int_signum}
use Rattle.std.specs.Ordering.{int_eq}
use Rattle.chi_num.specs.Power.{power}
use Rattle.chi_num.specs.Results.{fits, rounded, floor_of, ceiling_of, remainder_of}
use Rattle.chi_num.specs.Units.{units_per_one}
use Rattle.chi_types.specs.declared.ty.Ty.{Ty-F}
use Rattle.chi_value.specs.declared.value.Value.{Value, Value-F, out-Value}
use Rattle.chi_value.specs.declared.value.Value.TheVariants as value
use Rattle.chi_core.specs.declared.fault.FaultKind.TheVariants.{IntRange, RealRange, DivideByZero}
use Rattle.chi_core.specs.Answer.{Does, gives, fails}
use Rattle.chi_core.specs.Arithmetic.{whole, real, timer, on_int, on_real, on_number, on_ints, on_reals, over, raised, best_int, best_real, best_of, widened, negated, absolute, sign_of, floored, ceiled, nearest_to, quotient, divided, remainder, powered}
use Rattle.chi_core.specs.Kinds.{Kind}
use Rattle.chi_core.specs.Of.{World, Of, of_int, of_real, IsOf, AreOf, none_of, one_of}
use Rattle.chi_core_kinds.specs.Laws.{WellOf}
use Rattle.chi_core_kinds.proofs.Composing.{well_gives, well_if}
use Rattle.chi_core_kinds.proofs.Shapes.{an_int, a_real, a_timer}

-- numbers that 64 bits hold

pub well_whole : (w : World) (z : ℤ) → WellOf w Ty-F.Int (whole z)
well_whole w z =
    well_if w (λ v x. IsOf v Ty-F.Int x) (fits z) (gives (value.Int z)) (fails IntRange) (λ e. well_gives w (λ v x. IsOf v Ty-F.Int x) (value.Int z) (an_int w z)) (λ e view f. tt)

pub well_real : (w : World) (units : ℤ) → WellOf w Ty-F.Real (real units)
well_real w units =
    well_if w (λ v x. IsOf v Ty-F.Real x) (fits units) (gives (value.Real units)) (fails RealRange)
    (λ e. well_gives w (λ v x. IsOf v Ty-F.Real x) (value.Real units) (a_real w units)) (λ e view f. tt)

pub well_timer : (w : World) (due : ℤ) → WellOf w Ty-F.Timer (timer due)
well_timer w due =
    well_if w (λ v x. IsOf v Ty-F.Timer x) (fits due) (gives (value.Timer due)) (fails RealRange)
    (λ e. well_gives w (λ v x. IsOf v Ty-F.Timer x) (value.Timer due) (a_timer w due)) (λ e view f. tt)

-- on numbers of a kind

module _ (w : World) (T : Kind) (does other : ℤ → Does Value) (well : (n : ℤ) → WellOf w T (does n)) where
  pub well_on_int : (x : Value-F Value) → Of w x Ty-F.Int → WellOf w T (on_int does x)
  well_on_int _ (of_int n) = well n

  pub well_on_real : (x : Value-F Value) → Of w x Ty-F.Real → WellOf w T (on_real does x)
  well_on_real _ (of_real n) = well n

  pub well_number_int : (x : Value-F Value) → Of w x Ty-F.Int → WellOf w T (on_number does other x)
  well_number_int _ (of_int n) = well n

  pub well_number_real : (x : Value-F Value) → Of w x Ty-F.Real → WellOf w T (on_number other does x)
  well_number_real _ (of_real n) = well n

module _ (w : World) (T : Kind) (does : ℤ → ℤ → Does Value) (well : (n m : ℤ) → WellOf w T (does n m)) where
  pub well_on_ints : (x y : Value-F Value) → Of w x Ty-F.Int → Of w y Ty-F.Int → WellOf w T (on_ints does x y)
  well_on_ints _ _ (of_int n) (of_int m) = well n m

  pub well_on_reals : (x y : Value-F Value) → Of w x Ty-F.Real → Of w y Ty-F.Real → WellOf w T (on_reals does x y)
  well_on_reals _ _ (of_real n) (of_real m) = well n m

-- by a divisor that isn't 0
pub well_over : (w : World) (T : Kind) (divisor : ℤ) (does : Does Value) → WellOf w T does → WellOf w T (over divisor does)
well_over w T divisor does h = well_if w (λ v x. IsOf v T x) (int_eq divisor (pos 0)) (fails DivideByZero) does (λ e view f. tt) (λ e. h)

well_raised : (w : World) (x y : ℤ) → WellOf w Ty-F.Int (raised x y)
well_raised w x (pos n) = well_whole w (power x n)
well_raised w x (negsuc n) = λ view f. tt

-- the operators

module _ (w : World) (a : Value) (is : IsOf w Ty-F.Int a) where
  pub well_widened : WellOf w Ty-F.Real (widened a)
  well_widened = well_on_int w Ty-F.Real (λ x. real (x *ℤ units_per_one)) whole (λ x. well_real w (x *ℤ units_per_one)) (out-Value a) is

  pub well_negated_int : WellOf w Ty-F.Int (negated a)
  well_negated_int = well_number_int w Ty-F.Int (λ x. whole (neg_ℤ x)) (λ x. real (neg_ℤ x)) (λ x. well_whole w (neg_ℤ x)) (out-Value a) is

  pub well_absolute_int : WellOf w Ty-F.Int (absolute a)
  well_absolute_int = well_number_int w Ty-F.Int (λ x. whole (pos (nat_abs x))) (λ x. real (pos (nat_abs x))) (λ x. well_whole w (pos (nat_abs x))) (out-Value a) is

  pub well_sign_int : WellOf w Ty-F.Int (sign_of a)
  well_sign_int = well_number_int w Ty-F.Int (λ x. whole (int_signum x)) (λ x. whole (int_signum x)) (λ x. well_whole w (int_signum x)) (out-Value a) is

module _ (w : World) (a : Value) (is : IsOf w Ty-F.Real a) where
  pub well_negated_real : WellOf w Ty-F.Real (negated a)
  well_negated_real = well_number_real w Ty-F.Real (λ x. real (neg_ℤ x)) (λ x. whole (neg_ℤ x)) (λ x. well_real w (neg_ℤ x)) (out-Value a) is

  pub well_absolute_real : WellOf w Ty-F.Real (absolute a)
  well_absolute_real = well_number_real w Ty-F.Real (λ x. real (pos (nat_abs x))) (λ x. whole (pos (nat_abs x))) (λ x. well_real w (pos (nat_abs x))) (out-Value a) is

  pub well_sign_real : WellOf w Ty-F.Int (sign_of a)
  well_sign_real = well_number_real w Ty-F.Int (λ x. whole (int_signum x)) (λ x. whole (int_signum x)) (λ x. well_whole w (int_signum x)) (out-Value a) is

  pub well_floored : WellOf w Ty-F.Int (floored a)
  well_floored = well_on_real w Ty-F.Int (λ x. whole (floor_of x units_per_one)) whole (λ x. well_whole w (floor_of x units_per_one)) (out-Value a) is

  pub well_ceiled : WellOf w Ty-F.Int (ceiled a)
  well_ceiled = well_on_real w Ty-F.Int (λ x. whole (ceiling_of x units_per_one)) whole (λ x. well_whole w (ceiling_of x units_per_one)) (out-Value a) is

  pub well_nearest : WellOf w Ty-F.Int (nearest_to a)
  well_nearest = well_on_real w Ty-F.Int (λ x. whole (rounded x units_per_one)) whole (λ x. well_whole w (rounded x units_per_one)) (out-Value a) is

module _ (w : World) (a b : Value) where
  pub well_quotient : IsOf w Ty-F.Real a → IsOf w Ty-F.Real b → WellOf w Ty-F.Real (quotient a b)
  well_quotient h l =
      well_on_reals w Ty-F.Real (λ x y. over y (real (rounded (x *ℤ units_per_one) y)))
      (λ x y. well_over w Ty-F.Real y (real (rounded (x *ℤ units_per_one) y)) (well_real w (rounded (x *ℤ units_per_one) y))) (out-Value a) (out-Value b) h l

  pub well_divided : IsOf w Ty-F.Int a → IsOf w Ty-F.Int b → WellOf w Ty-F.Int (divided a b)
  well_divided h l =
      well_on_ints w Ty-F.Int (λ x y. over y (whole (floor_of x y))) (λ x y. well_over w Ty-F.Int y (whole (floor_of x y)) (well_whole w (floor_of x y))) (out-Value a) (out-Value b) h l

  pub well_remainder : IsOf w Ty-F.Int a → IsOf w Ty-F.Int b → WellOf w Ty-F.Int (remainder a b)
  well_remainder h l =
      well_on_ints w Ty-F.Int (λ x y. over y (whole (remainder_of x y))) (λ x y. well_over w Ty-F.Int y (whole (remainder_of x y)) (well_whole w (remainder_of x y))) (out-Value a) (out-Value b) h l

  pub well_powered : IsOf w Ty-F.Int a → IsOf w Ty-F.Int b → WellOf w Ty-F.Int (powered a b)
  well_powered h l = well_on_ints w Ty-F.Int raised (well_raised w) (out-Value a) (out-Value b) h l

-- the least and the greatest of several

module _ (w : World) (better : ℤ → ℤ → ℤ) where
  well_best_int : (more : ℕ) (rest : List Value) → AreOf w rest (replicate more Ty-F.Int) → (x : ℤ) → WellOf w Ty-F.Int (best_int better x rest)
  well_best_int zero _ none_of x = well_gives w (λ v y. IsOf v Ty-F.Int y) (value.Int x) (an_int w x)
  well_best_int (suc more) _ (one_of b rest _ _ is are) x =
      well_on_int w Ty-F.Int (λ y. best_int better (better x y) rest) whole (λ y. well_best_int more rest are (better x y)) (out-Value b) is

  well_best_real : (more : ℕ) (rest : List Value) → AreOf w rest (replicate more Ty-F.Real) → (x : ℤ) → WellOf w Ty-F.Real (best_real better x rest)
  well_best_real zero _ none_of x = well_gives w (λ v y. IsOf v Ty-F.Real y) (value.Real x) (a_real w x)
  well_best_real (suc more) _ (one_of b rest _ _ is are) x =
      well_on_real w Ty-F.Real (λ y. best_real better (better x y) rest) real (λ y. well_best_real more rest are (better x y)) (out-Value b) is

  pub well_best_of_ints : (a b : Value) (more : ℕ) (rest : List Value) → IsOf w Ty-F.Int a → IsOf w Ty-F.Int b → AreOf w rest (replicate more Ty-F.Int)
      → WellOf w Ty-F.Int (best_of better a b rest)
  well_best_of_ints a b more rest h l are =
      well_number_int w Ty-F.Int (λ x. best_int better x (b ∷ rest)) (λ x. best_real better x (b ∷ rest))
      (λ x. well_on_int w Ty-F.Int (λ y. best_int better (better x y) rest) whole (λ y. well_best_int more rest are (better x y)) (out-Value b) l) (out-Value a) h

  pub well_best_of_reals : (a b : Value) (more : ℕ) (rest : List Value) → IsOf w Ty-F.Real a → IsOf w Ty-F.Real b → AreOf w rest (replicate more Ty-F.Real)
      → WellOf w Ty-F.Real (best_of better a b rest)
  well_best_of_reals a b more rest h l are =
      well_number_real w Ty-F.Real (λ x. best_real better x (b ∷ rest)) (λ x. best_int better x (b ∷ rest))
      (λ x. well_on_real w Ty-F.Real (λ y. best_real better (better x y) rest) real (λ y. well_best_real more rest are (better x y)) (out-Value b) l) (out-Value a) h
