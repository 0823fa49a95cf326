-- The greatest expression in a statement. Private to proofs.
use Rattle.std.specs.Prelude.{ℕ, ◌+◌, ◌*◌, max, List}
use denote.Param.Weighed.{most}
use Rattle.chi_core.specs.declared.expression.CExpr.{size-CExpr}
use Rattle.chi_core.specs.declared.statement.CStat.{CStat, CStat-F, fold-CStat}
use Rattle.chi_core.specs.declared.statement.CAlt.{CAlt-F}
use Rattle.chi_core.specs.declared.statement.Branch.{Branch, Branch-F, fold-Branch}
use Rattle.chi_core.specs.declared.target.CTarget.{CTarget}
use Rattle.chi_core.specs.declared.target.CStep.{CStep}
use Rattle.chi_core.specs.declared.target.CStep.TheVariants as step
use Rattle.chi_core.specs.declared.program.FuncDef.{FuncDef}
use Rattle.chi_core.specs.Terms.{Item, Do, Loop, Walk}
use Rattle.chi_plain_eval.specs.declared.here.Here.{Here}
use Rattle.chi_plain_eval.specs.Calls.{more_in}

abbrev pub itself : ℕ → ℕ
itself n = n

abbrev pub step_span : CStep → ℕ
step_span (step.Index e) = size-CExpr e
step_span (step.Part number) = 0

abbrev pub target_span : CTarget → ℕ
target_span target = most step_span target.steps

abbrev pub span_step : CStat-F ℕ ℕ ℕ → ℕ
span_step (CStat-F.Declare line slot e) = size-CExpr e
span_step (CStat-F.Assign line targets values) = max (most target_span targets) (most size-CExpr values)
span_step (CStat-F.If line branches otherwise) = max (most itself branches) (most itself otherwise)
span_step (CStat-F.While line test block) = max (size-CExpr test) (most itself block)
span_step (CStat-F.For line slots e block) = max (size-CExpr e) (most itself block)
span_step (CStat-F.Return line e) = size-CExpr e
span_step _ = 0

abbrev pub branch_span_step : Branch-F ℕ ℕ ℕ → ℕ
branch_span_step b = max (size-CExpr b.test) (most itself b.block)

abbrev pub alt_span_step : CAlt-F ℕ ℕ ℕ → ℕ
alt_span_step layer = 0

unfoldable pub span : CStat → ℕ
span = fold-CStat ℕ ℕ ℕ alt_span_step span_step branch_span_step

unfoldable pub branch_span : Branch → ℕ
branch_span = fold-Branch ℕ ℕ ℕ alt_span_step span_step branch_span_step

abbrev pub item_span : Item → ℕ
item_span (Do s) = span s
item_span (Loop line test block) = max (size-CExpr test) (most span block)
item_span (Walk line slots elements block) = most span block

-- the greatest in a function's body
abbrev pub body_span : FuncDef → ℕ
body_span f = most span f.body

-- more than anything in the functions
unfoldable pub reach : List FuncDef → ℕ
reach functions = (6 * most body_span functions) + 20

-- more than anything in the calls that there may yet be
abbrev pub reach_in : Here → ℕ
reach_in here = more_in here.room.calls * reach here.surroundings.now.functions.now
