-- Private to proofs. What is read from the digits of a number.
use Rattle.std.proofs.Common.{◌≡◌, ℕ, ℤ, List, Some, None, Ok, Err, refl, ap}
use Rattle.chi_num.specs.declared.read.fault.ReadFault.{ReadFault}
use Rattle.chi_num.specs.TextNumbers.{Meant, means, no_form, out_of_range, answer_of, int_meant, real_meant}
use Rattle.chi_types.specs.declared.ty.Ty.TheVariants as ty
use Rattle.chi_value.specs.declared.value.Value.TheVariants as value
use Rattle.chi_core.specs.declared.expression.CExpr.TheVariants as expression
use Rattle.chi_check_expr_rules.specs.Conversions.{made}
use Rattle.chi_check_expr_rules.specs.Literals.{int_number, real_number, int_literal, real_literal}

int_of_answer : (m : Meant) (n : ℤ) → Ok n ≡ answer_of m → int_number m ≡ Some (made (expression.Lit (value.Int n)) ty.Int)
int_of_answer (means z) n h =
    let e : z ≡ n = cc in
    ap (λ z. Some (made (expression.Lit (value.Int z)) ty.Int)) e
int_of_answer no_form n h = absurd (cc)
int_of_answer out_of_range n h = absurd (cc)

int_of_none : (m : Meant) (f : ReadFault) → Err f ≡ answer_of m → int_number m ≡ None
int_of_none (means z) f h = absurd (cc)
int_of_none no_form f h = refl
int_of_none out_of_range f h = refl

real_of_answer : (m : Meant) (n : ℤ) → Ok n ≡ answer_of m → real_number m ≡ Some (made (expression.Lit (value.Real n)) ty.Real)
real_of_answer (means z) n h =
    let e : z ≡ n = cc in
    ap (λ z. Some (made (expression.Lit (value.Real z)) ty.Real)) e
real_of_answer no_form n h = absurd (cc)
real_of_answer out_of_range n h = absurd (cc)

real_of_none : (m : Meant) (f : ReadFault) → Err f ≡ answer_of m → real_number m ≡ None
real_of_none (means z) f h = absurd (cc)
real_of_none no_form f h = refl
real_of_none out_of_range f h = refl

pub int_read : (digits : List ℕ) (n : ℤ) → Ok n ≡ answer_of (int_meant digits) → int_literal digits ≡ Some (made (expression.Lit (value.Int n)) ty.Int)
int_read digits n h = int_of_answer (int_meant digits) n h

pub int_unread : (digits : List ℕ) (f : ReadFault) → Err f ≡ answer_of (int_meant digits) → int_literal digits ≡ None
int_unread digits f h = int_of_none (int_meant digits) f h

pub real_read : (digits : List ℕ) (n : ℤ) → Ok n ≡ answer_of (real_meant digits) → real_literal digits ≡ Some (made (expression.Lit (value.Real n)) ty.Real)
real_read digits n h = real_of_answer (real_meant digits) n h

pub real_unread : (digits : List ℕ) (f : ReadFault) → Err f ≡ answer_of (real_meant digits) → real_literal digits ≡ None
real_unread digits f h = real_of_none (real_meant digits) f h
