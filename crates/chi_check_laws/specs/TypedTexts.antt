-- Text literals that a value can have.
use Rattle.std.specs.Prelude.{◌^◌, nat_lt, Bool, true, ◌&&◌, length}
use Rattle.std.specs.List.{list_all}
use Rattle.chi_value.specs.declared.value.Value.{Value, Value-F, out-Value}
use Rattle.chi_value.specs.Plain.{itself}
use Rattle.chi_core.specs.declared.expression.CExpr.{CExpr, CExpr-F, fold-CExpr}

abbrev pub is_short : Value-F Value → Bool
is_short (Value-F.Text bytes) = nat_lt (length bytes) (2 ^ 32)
is_short _ = true

abbrev pub texts_step : CExpr-F Bool → Bool
texts_step (CExpr-F.Lit v) = is_short (out-Value v)
texts_step (CExpr-F.Var slot) = true
texts_step (CExpr-F.Const number) = true
texts_step (CExpr-F.Op name parts) = list_all itself parts
texts_step (CExpr-F.And a b) = a && b
texts_step (CExpr-F.Or a b) = a && b
texts_step (CExpr-F.Build kind parts) = list_all itself parts
texts_step (CExpr-F.Part whole number) = whole
texts_step (CExpr-F.Call number parts) = list_all itself parts
texts_step (CExpr-F.InsertBy list x number) = list && x
texts_step (CExpr-F.Default shape) = true
texts_step (CExpr-F.Repeat count each) = count && each

-- each text literal of an expression is shorter than 2^32 bytes
abbrev pub texts_are_short : CExpr → Bool
texts_are_short = fold-CExpr Bool texts_step
