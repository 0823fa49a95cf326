-- Literals of one token.
use Rattle.std.specs.Prelude.{ℕ, Bool, List, Option, Some, None}
use Rattle.chi_num.specs.TextNumbers.{Meant, means, int_meant, real_meant}
use Rattle.chi_types.specs.declared.ty.Ty.TheVariants as ty
use Rattle.chi_value.specs.declared.value.Value.TheVariants as value
use Rattle.chi_core.specs.declared.expression.CExpr.TheVariants as expression
use Rattle.chi_check_types.specs.declared.meant.Made.{Made}
use Rattle.chi_check_expr_rules.specs.Conversions.{made}

abbrev pub int_number : Meant → Option Made
int_number (means n) = Some (made (expression.Lit (value.Int n)) ty.Int)
int_number _ = None

abbrev pub real_number : Meant → Option Made
real_number (means units) = Some (made (expression.Lit (value.Real units)) ty.Real)
real_number _ = None

-- the number, where it is in range
abbrev pub int_literal : List ℕ → Option Made
int_literal digits = int_number (int_meant digits)

-- the number rounded to the nearest unit, where that is in range
abbrev pub real_literal : List ℕ → Option Made
real_literal digits = real_number (real_meant digits)

abbrev pub text_literal : List ℕ → Made
text_literal bytes = made (expression.Lit (value.Text bytes)) ty.Text

abbrev pub bool_literal : Bool → Made
bool_literal truth = made (expression.Lit (value.Bool truth)) ty.Bool
