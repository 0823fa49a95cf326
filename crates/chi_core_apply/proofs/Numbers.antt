-- Numbers: results that 64 bits hold or don't, and operands of their kinds.
use Rattle.std.proofs.Common.{◌≡◌, ◌≢◌, ℤ, pos, Bool, true, false, Some, None, Result, Ok, Err, refl, sym, ap, ◌∙◌, ◌-ℤ◌, ◌*ℤ◌, w64, FitsSigned, to_z, of_z}
use mir.Val.{SFits}
use Rattle.std.proofs.lemmas.Int.{to_z-of_z}
use Rattle.std.specs.Prelude.{if◌then◌else◌}
use Rattle.std.specs.Ordering.{int_eq}
use Rattle.chi_num.specs.declared.fault.NumFault.{NumFault}
use Rattle.chi_num.specs.declared.fault.NumFault.TheVariants.{Range}
use Rattle.chi_num.specs.Range as range
use Rattle.chi_num.specs.Product.{IsProduct}
use Rattle.chi_num.specs.Quotient.{IsQuotient}
use Rattle.chi_num.specs.Units.{units_per_one}
use Rattle.chi_num.proofs.Unique.{IsFloor-only, IsCeiling-only, IsNearest-only}
use Rattle.chi_num.specs.Division.{IsRemainder}
use Rattle.chi_num.specs.Rounding.{IsFloor, IsCeiling, IsNearest}
use Rattle.chi_num.specs.Results.{fits, fitted, rounded, floor_of, ceiling_of, remainder_of}
use Rattle.chi_num.proofs.OfResults.{given, nearest_given, floor_given, fits_told, floor_is, ceiling_is, nearest_is_rounded}
use Rattle.chi_value.specs.declared.value.Value.{Value, Value-F, out-Value}
use Rattle.chi_value.specs.declared.value.Value.TheVariants as value
use Rattle.chi_core.specs.declared.fault.FaultKind.TheVariants.{IntRange, RealRange, DivideByZero}
use Rattle.chi_core.specs.declared.view.View.{View}
use Rattle.chi_core.specs.Answer.{Gives, Fails, Amiss, Does}
use Rattle.chi_core.specs.Reading.{int_of, int_in, real_of, real_in}
use Rattle.chi_core.specs.Arithmetic.{whole, real, timer, on_int, on_real, on_ints, on_reals, over, nearest_to}

fitted_ok : (z x : ℤ) → Ok x ≡ fitted z → (fits z ≡ true) × (x ≡ z)
fitted_ok z x e = by_fit (fits z) refl e
  where
    by_fit : (b : Bool) → fits z ≡ b → Ok x ≡ (if b then Ok z else Err Range) → (fits z ≡ true) × (x ≡ z)
    by_fit true f e = (f, cc)
    by_fit false f e = absurd (cc)

fitted_err : (z : ℤ) (fault : NumFault) → Err fault ≡ fitted z → fits z ≡ false
fitted_err z fault e = by_fit (fits z) refl e
  where
    by_fit : (b : Bool) → fits z ≡ b → Err fault ≡ (if b then Ok z else Err Range) → fits z ≡ false
    by_fit true f e = absurd (cc)
    by_fit false f e = f

module _ (answer : Result ℤ NumFault) (z : ℤ) (view : View) where
  pub whole_ok : (x : ℤ) → answer ≡ Ok x → answer ≡ fitted z → whole z view ≡ Gives (value.Int x) view
  whole_ok x e f = let g = fitted_ok z x (sym e ∙ f) in rw (g.0, g.1) refl

  pub whole_err : (fault : NumFault) → answer ≡ Err fault → answer ≡ fitted z → whole z view ≡ Fails IntRange
  whole_err fault e f = rw (fitted_err z fault (sym e ∙ f)) refl

  pub real_ok : (x : ℤ) → answer ≡ Ok x → answer ≡ fitted z → real z view ≡ Gives (value.Real x) view
  real_ok x e f = let g = fitted_ok z x (sym e ∙ f) in rw (g.0, g.1) refl

  pub real_err : (fault : NumFault) → answer ≡ Err fault → answer ≡ fitted z → real z view ≡ Fails RealRange
  real_err fault e f = rw (fitted_err z fault (sym e ∙ f)) refl

  pub timer_ok : (x : ℤ) → answer ≡ Ok x → answer ≡ fitted z → timer z view ≡ Gives (value.Timer x) view
  timer_ok x e f = let g = fitted_ok z x (sym e ∙ f) in rw (g.0, g.1) refl

  pub timer_err : (fault : NumFault) → answer ≡ Err fault → answer ≡ fitted z → timer z view ≡ Fails RealRange
  timer_err fault e f = rw (fitted_err z fault (sym e ∙ f)) refl

pub over_zero : (does : Does Value) (y : ℤ) (view : View) → y ≡ pos 0 → over y does view ≡ Fails DivideByZero
over_zero does y view e = ap (λ y. over y does view) e

pub over_other : (does : Does Value) (y : ℤ) (view : View) → int_eq y (pos 0) ≡ false → over y does view ≡ does view
over_other does y view e = rw e refl

-- one number

module _ (does : ℤ → Does Value) (view : View) where
  int_first_in : (a : Value-F Value) → on_int does a view ≢ Amiss → int_in a ≢ None
  int_first_in (Value-F.Int x) h = λ e. absurd (cc)
  int_first_in _ h = absurd (h refl)

  int_is_in : (a : Value-F Value) (x : ℤ) → int_in a ≡ Some x → on_int does a view ≡ does x view
  int_is_in (Value-F.Int y) x e = let same : y ≡ x = cc in ap (λ x. does x view) same
  int_is_in _ x e = absurd (cc)

  real_first_in : (a : Value-F Value) → on_real does a view ≢ Amiss → real_in a ≢ None
  real_first_in (Value-F.Real x) h = λ e. absurd (cc)
  real_first_in _ h = absurd (h refl)

  real_is_in : (a : Value-F Value) (x : ℤ) → real_in a ≡ Some x → on_real does a view ≡ does x view
  real_is_in (Value-F.Real y) x e = let same : y ≡ x = cc in ap (λ x. does x view) same
  real_is_in _ x e = absurd (cc)

  pub int_first : (a : Value) → on_int does (out-Value a) view ≢ Amiss → int_of a ≢ None
  int_first a = int_first_in (out-Value a)

  pub int_there : (a : Value) (x : ℤ) → on_int does (out-Value a) view ≢ Amiss → int_of a ≡ Some x → does x view ≢ Amiss
  int_there a x h e b = h (int_is_in (out-Value a) x e ∙ b)

  pub int_is : (a : Value) (x : ℤ) → int_of a ≡ Some x → on_int does (out-Value a) view ≡ does x view
  int_is a = int_is_in (out-Value a)

  pub real_first : (a : Value) → on_real does (out-Value a) view ≢ Amiss → real_of a ≢ None
  real_first a = real_first_in (out-Value a)

  pub real_is : (a : Value) (x : ℤ) → real_of a ≡ Some x → on_real does (out-Value a) view ≡ does x view
  real_is a = real_is_in (out-Value a)

-- two numbers

module _ (does : ℤ → ℤ → Does Value) (view : View) where
  ints_first_in : (a b : Value-F Value) → on_ints does a b view ≢ Amiss → int_in a ≢ None
  ints_first_in (Value-F.Int x) b h = λ e. absurd (cc)
  ints_first_in _ b h = absurd (h refl)

  ints_second_in : (a b : Value-F Value) → on_ints does a b view ≢ Amiss → int_in b ≢ None
  ints_second_in (Value-F.Int x) (Value-F.Int y) h = λ e. absurd (cc)
  ints_second_in (Value-F.Int x) _ h = absurd (h refl)
  ints_second_in _ b h = absurd (h refl)

  ints_are_in : (a b : Value-F Value) (x y : ℤ) → int_in a ≡ Some x → int_in b ≡ Some y → on_ints does a b view ≡ does x y view
  ints_are_in (Value-F.Int v) (Value-F.Int w) x y e f = let same : v ≡ x = cc in let alike : w ≡ y = cc in (λ i. does (same i) (alike i) view)
  ints_are_in (Value-F.Int v) _ x y e f = absurd (cc)
  ints_are_in _ b x y e f = absurd (cc)

  reals_first_in : (a b : Value-F Value) → on_reals does a b view ≢ Amiss → real_in a ≢ None
  reals_first_in (Value-F.Real x) b h = λ e. absurd (cc)
  reals_first_in _ b h = absurd (h refl)

  reals_second_in : (a b : Value-F Value) → on_reals does a b view ≢ Amiss → real_in b ≢ None
  reals_second_in (Value-F.Real x) (Value-F.Real y) h = λ e. absurd (cc)
  reals_second_in (Value-F.Real x) _ h = absurd (h refl)
  reals_second_in _ b h = absurd (h refl)

  reals_are_in : (a b : Value-F Value) (x y : ℤ) → real_in a ≡ Some x → real_in b ≡ Some y → on_reals does a b view ≡ does x y view
  reals_are_in (Value-F.Real v) (Value-F.Real w) x y e f = let same : v ≡ x = cc in let alike : w ≡ y = cc in (λ i. does (same i) (alike i) view)
  reals_are_in (Value-F.Real v) _ x y e f = absurd (cc)
  reals_are_in _ b x y e f = absurd (cc)

  pub ints_first : (a b : Value) → on_ints does (out-Value a) (out-Value b) view ≢ Amiss → int_of a ≢ None
  ints_first a b = ints_first_in (out-Value a) (out-Value b)

  pub ints_second : (a b : Value) → on_ints does (out-Value a) (out-Value b) view ≢ Amiss → int_of b ≢ None
  ints_second a b = ints_second_in (out-Value a) (out-Value b)

  pub ints_are : (a b : Value) (x y : ℤ) → int_of a ≡ Some x → int_of b ≡ Some y → on_ints does (out-Value a) (out-Value b) view ≡ does x y view
  ints_are a b = ints_are_in (out-Value a) (out-Value b)

  pub reals_first : (a b : Value) → on_reals does (out-Value a) (out-Value b) view ≢ Amiss → real_of a ≢ None
  reals_first a b = reals_first_in (out-Value a) (out-Value b)

  pub reals_second : (a b : Value) → on_reals does (out-Value a) (out-Value b) view ≢ Amiss → real_of b ≢ None
  reals_second a b = reals_second_in (out-Value a) (out-Value b)

  pub reals_are : (a b : Value) (x y : ℤ) → real_of a ≡ Some x → real_of b ≡ Some y → on_reals does (out-Value a) (out-Value b) view ≡ does x y view
  reals_are a b = reals_are_in (out-Value a) (out-Value b)

pub ruleset fitting = (to_z-of_z, whole_ok, whole_err, real_ok, real_err, timer_ok, timer_err, given, nearest_given, floor_given, over_zero, over_other)

pub ruleset kinds = (to_z-of_z, int_first, int_there, int_is, real_first, real_is, ints_first, ints_second, ints_are, reals_first, reals_second, reals_are)

-- roundings, as what they are

pub fits_in : (r : ℤ) → FitsSigned w64 r → fits r ≡ true
fits_in r f = (fits_told r).1 f

units_other : units_per_one ≢ pos 0
units_other e = absurd (cc)

pub floor_units : (n r : ℤ) → IsFloor n units_per_one r → floor_of n units_per_one ≡ r
floor_units n r is = IsFloor-only n units_per_one (floor_of n units_per_one) r (floor_is n units_per_one units_other) is

pub ceiling_units : (n r : ℤ) → IsCeiling n units_per_one r → ceiling_of n units_per_one ≡ r
ceiling_units n r is = IsCeiling-only n units_per_one (ceiling_of n units_per_one) r (ceiling_is n units_per_one units_other) is

pub nearest_units : (n r : ℤ) → IsNearest n units_per_one r → rounded n units_per_one ≡ r
nearest_units n r is = IsNearest-only n units_per_one (rounded n units_per_one) r units_other (nearest_is_rounded n units_per_one units_other) is

pub product_given : (answer : Result ℤ NumFault) (a b : ℤ) → range.Gives answer (IsProduct a b) → answer ≡ fitted (rounded (a *ℤ b) units_per_one)
product_given answer a b g = nearest_given answer (a *ℤ b) units_per_one units_other g

pub quotient_given : (answer : Result ℤ NumFault) (a b : ℤ) → b ≢ pos 0 → range.Gives answer (IsQuotient a b) → answer ≡ fitted (rounded (a *ℤ units_per_one) b)
quotient_given answer a b h g = nearest_given answer (a *ℤ units_per_one) b h g

pub remainder_is_rest : (a b r : ℤ) → b ≢ pos 0 → IsRemainder a b r → remainder_of a b ≡ r
remainder_is_rest a b r h is =
    ap (λ q. a -ℤ (b *ℤ q)) (IsFloor-only a b (floor_of a b) is.quotient (floor_is a b h) is.floor) ∙ sym is.rest

pub ruleset rounding = (to_z-of_z, fits_in, floor_units, ceiling_units, nearest_units, remainder_is_rest)

pub ruleset exact = (to_z-of_z, given, product_given, quotient_given, floor_given)

-- exact results of operands as they are passed

pub given_one : (answer : Result ℤ NumFault) (f : ℤ → ℤ) (x : ℤ) → SFits w64 x → range.Gives answer (λ r. r ≡ f (to_z w64 (of_z w64 x))) → answer ≡ fitted (f x)
given_one answer f x p g = given answer (f (to_z w64 (of_z w64 x))) g ∙ (λ i. fitted (f (to_z-of_z w64 x p i)))

pub given_two : (answer : Result ℤ NumFault) (f : ℤ → ℤ → ℤ) (x y : ℤ) → SFits w64 x → SFits w64 y
    → range.Gives answer (λ r. r ≡ f (to_z w64 (of_z w64 x)) (to_z w64 (of_z w64 y))) → answer ≡ fitted (f x y)
given_two answer f x y p q g = given answer (f (to_z w64 (of_z w64 x)) (to_z w64 (of_z w64 y))) g ∙ (λ i. fitted (f (to_z-of_z w64 x p i) (to_z-of_z w64 y q i)))

pub round_row : (a : Value) (x r : ℤ) (view : View) → real_of a ≡ Some x → IsNearest x units_per_one r → FitsSigned w64 r → nearest_to a view ≡ Gives (value.Int r) view
round_row a x r view e is f =
    real_is (λ x. whole (rounded x units_per_one)) view a x e ∙ ap (λ z. whole z view) (nearest_units x r is) ∙ fitting_row (fits r) (fits_in r f)
  where
    fitting_row : (b : Bool) → b ≡ true → (if b then Gives (value.Int r) view else Fails IntRange) ≡ Gives (value.Int r) view
    fitting_row true e = refl
    fitting_row false e = absurd (cc)
