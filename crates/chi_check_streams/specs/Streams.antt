-- The streams of distributions. The calls that make one are numbered from 0 over the whole program: constants in order,
-- then functions, then processes and models, then experiments; within each in the order of the core, a call after those in its own operands.
-- There are sixty-four streams, and call number j draws from stream j modulo 64.
use Rattle.std.specs.Prelude.{ℕ, suc, ◌+◌, ◌%◌, pos, Bool, true, false, List, [], ◌∷◌, ◌++◌, map, Option, Some, None, if◌then◌else◌}
use Rattle.chi_dist.specs.Draws.{stream_count}
use Rattle.chi_core.specs.declared.communication.CComm.{CComm}
use Rattle.chi_core.specs.declared.communication.CComm.TheVariants as comm
use Rattle.chi_core.specs.declared.element.CElem.{CElem, CElem-F, fold-CElem}
use Rattle.chi_core.specs.declared.element.CElem.TheVariants as element
use Rattle.chi_core.specs.declared.experiment.XBranch.{XBranch, XBranch-F, fold-XBranch}
use Rattle.chi_core.specs.declared.experiment.XperDef.{XperDef}
use Rattle.chi_core.specs.declared.experiment.XStat.{XStat, XStat-F, fold-XStat}
use Rattle.chi_core.specs.declared.experiment.XStat.TheVariants as trial
use Rattle.chi_core.specs.declared.expression.CExpr.{CExpr, CExpr-F, fold-CExpr}
use Rattle.chi_core.specs.declared.expression.CExpr.TheVariants as expression
use Rattle.chi_core.specs.declared.op_name.OpName.{OpName}
use Rattle.chi_core.specs.declared.program.ConstDef.{ConstDef}
use Rattle.chi_core.specs.declared.program.Core.{Core}
use Rattle.chi_core.specs.declared.program.FuncDef.{FuncDef}
use Rattle.chi_core.specs.declared.program.ProcDef.{ProcDef}
use Rattle.chi_core.specs.declared.statement.Branch.{Branch, Branch-F, fold-Branch, roll-Branch}
use Rattle.chi_core.specs.declared.statement.CAlt.{CAlt, CAlt-F, fold-CAlt}
use Rattle.chi_core.specs.declared.statement.CAlt.TheVariants as alternative
use Rattle.chi_core.specs.declared.statement.CStat.{CStat, CStat-F, fold-CStat}
use Rattle.chi_core.specs.declared.statement.CStat.TheVariants as statement
use Rattle.chi_core.specs.declared.target.CStep.{CStep}
use Rattle.chi_core.specs.declared.target.CStep.TheVariants as step
use Rattle.chi_core.specs.declared.target.CTarget.{CTarget}
use Rattle.chi_core.specs.OperatorKinds.{has_stream}
use Rattle.chi_core.specs.SoundExpressions.{stream_operand}

-- a part with its streams, and how many calls there are up to its end
pub record Counted (A : Type 0) : Type 0 where
  pub next : ℕ
  pub part : A

abbrev pub Counting : Type 0 → Type 0
Counting A = ℕ → Counted A

abbrev pub as_it_is : {A : Type 0} → A → Counting A
as_it_is a count = record { next = count; part = a }

abbrev pub made_of : {A B : Type 0} → (A → B) → Counted A → Counted B
made_of f a = record { next = a.next; part = f a.part }

-- one after another
abbrev pub then_second : {A B C : Type 0} → (A → B → C) → Counted A → Counting B → Counted C
then_second f a b = let second = b a.next in record { next = second.next; part = f a.part second.part }

abbrev pub each : {A : Type 0} → List (Counting A) → Counting (List A)
each [] count = as_it_is [] count
each (f ∷ fs) count = then_second (λ a more. a ∷ more) (f count) (each fs)

abbrev pub if_any : {A : Type 0} → Option (Counting A) → Counting (Option A)
if_any None count = as_it_is None count
if_any (Some f) count = made_of Some (f count)

-- ---- expressions

-- a call that makes a distribution has its stream as its last operand
abbrev pub operation : OpName → Counted (List CExpr) → Counted CExpr
operation name es =
    if has_stream name then record { next = es.next + 1; part = expression.Op name (es.part ++ stream_operand (es.next % stream_count) ∷ []) }
    else made_of (expression.Op name) es

abbrev pub expression_step : CExpr-F (Counting CExpr) → Counting CExpr
expression_step (CExpr-F.Lit v) count = as_it_is (expression.Lit v) count
expression_step (CExpr-F.Var slot) count = as_it_is (expression.Var slot) count
expression_step (CExpr-F.Const number) count = as_it_is (expression.Const number) count
expression_step (CExpr-F.Op name es) count = operation name (each es count)
expression_step (CExpr-F.And a b) count = then_second expression.And (a count) b
expression_step (CExpr-F.Or a b) count = then_second expression.Or (a count) b
expression_step (CExpr-F.Build kind es) count = made_of (expression.Build kind) (each es count)
expression_step (CExpr-F.Part e number) count = made_of (λ whole. expression.Part whole number) (e count)
expression_step (CExpr-F.Call number es) count = made_of (expression.Call number) (each es count)
expression_step (CExpr-F.InsertBy xs x number) count = then_second (λ list new. expression.InsertBy list new number) (xs count) x
expression_step (CExpr-F.Default shape) count = as_it_is (expression.Default shape) count
expression_step (CExpr-F.Repeat size inner) count = then_second expression.Repeat (size count) inner

unfoldable pub of_expression : CExpr → Counting CExpr
of_expression = fold-CExpr (Counting CExpr) expression_step

abbrev pub of_expressions : List CExpr → Counting (List CExpr)
of_expressions es = each (map of_expression es)

-- ---- targets, communications and elements

abbrev pub of_step : CStep → Counting CStep
of_step (step.Index e) count = made_of step.Index (of_expression e count)
of_step (step.Part number) count = as_it_is (step.Part number) count

abbrev pub of_target : CTarget → Counting CTarget
of_target t count = made_of (λ steps. record { slot = t.slot; steps = steps }) (each (map of_step t.steps) count)

abbrev pub some : {A : Type 0} → (A → Counting A) → Option A → Counting (Option A)
some f None count = as_it_is None count
some f (Some a) count = made_of Some (f a count)

abbrev pub of_communication : CComm → Counting CComm
of_communication (comm.Send t e) count = then_second comm.Send (of_target t count) (some of_expression e)
of_communication (comm.Receive t slot) count = made_of (λ t. comm.Receive t slot) (of_target t count)
of_communication (comm.Delay e) count = made_of comm.Delay (of_expression e count)
of_communication (comm.Timer e) count = made_of comm.Timer (of_expression e count)

abbrev pub element_step : CElem-F (Counting CElem) → Counting CElem
element_step (CElem-F.Make t process arguments) count = then_second (λ t es. element.Make t process es) (some of_target t count) (of_expressions arguments)
element_step (CElem-F.Unwind slots container elements) count = then_second (element.Unwind slots) (of_expression container count) (each elements)

unfoldable pub of_element : CElem → Counting CElem
of_element = fold-CElem (Counting CElem) element_step

-- ---- statements

abbrev pub statement_step : CStat-F (Counting CAlt) (Counting CStat) (Counting Branch) → Counting CStat
statement_step (CStat-F.Declare line slot e) count = made_of (statement.Declare line slot) (of_expression e count)
statement_step (CStat-F.Assign line targets es) count = then_second (statement.Assign line) (each (map of_target targets) count) (of_expressions es)
statement_step (CStat-F.If line branches otherwise) count = then_second (statement.If line) (each branches count) (each otherwise)
statement_step (CStat-F.While line test block) count = then_second (statement.While line) (of_expression test count) (each block)
statement_step (CStat-F.For line slots container block) count = then_second (statement.For line slots) (of_expression container count) (each block)
statement_step (CStat-F.Break line) count = as_it_is (statement.Break line) count
statement_step (CStat-F.Continue line) count = as_it_is (statement.Continue line) count
statement_step (CStat-F.Pass line) count = as_it_is (statement.Pass line) count
statement_step (CStat-F.Return line e) count = made_of (statement.Return line) (of_expression e count)
statement_step (CStat-F.Exit line e) count = made_of (statement.Exit line) (some of_expression e count)
statement_step (CStat-F.Write line pieces es) count = made_of (statement.Write line pieces) (of_expressions es count)
statement_step (CStat-F.Select line alternatives) count = made_of (statement.Select line) (each alternatives count)
statement_step (CStat-F.Run line elements) count = made_of (statement.Run line) (each (map of_element elements) count)
statement_step (CStat-F.Start line elements) count = made_of (statement.Start line) (each (map of_element elements) count)
statement_step (CStat-F.Finish line es) count = made_of (statement.Finish line) (of_expressions es count)

abbrev pub branch_step : Branch-F (Counting CAlt) (Counting CStat) (Counting Branch) → Counting Branch
branch_step b count = then_second (λ test block. record { test = test; block = block }) (of_expression b.test count) (each b.block)

abbrev pub guarded : Option CExpr → Counted CComm → Counting (List CStat) → Counted CAlt
guarded guard c block = then_second (alternative.Guarded guard) c block

abbrev pub alternative_step : CAlt-F (Counting CAlt) (Counting CStat) (Counting Branch) → Counting CAlt
alternative_step (CAlt-F.Guarded guard c block) count =
    let g = some of_expression guard count in
    guarded g.part (of_communication c g.next) (each block)
alternative_step (CAlt-F.Unwind slots container alternatives) count =
    then_second (alternative.Unwind slots) (of_expression container count) (each alternatives)

unfoldable pub of_statement : CStat → Counting CStat
of_statement = fold-CStat (Counting CAlt) (Counting CStat) (Counting Branch) alternative_step statement_step branch_step

unfoldable pub of_branch : Branch → Counting Branch
of_branch = fold-Branch (Counting CAlt) (Counting CStat) (Counting Branch) alternative_step statement_step branch_step

unfoldable pub of_alternative : CAlt → Counting CAlt
of_alternative = fold-CAlt (Counting CAlt) (Counting CStat) (Counting Branch) alternative_step statement_step branch_step

-- ---- statements of experiments

abbrev pub model_ran : ℕ → ℕ → Bool → CTarget → List CExpr → XStat
model_ran line model widen target arguments = trial.RunModel line target model arguments widen

abbrev pub xstat_step : XStat-F (Counting XStat) (Counting XBranch) → Counting XStat
xstat_step (XStat-F.Line s) count = made_of trial.Line (of_statement s count)
xstat_step (XStat-F.If line branches otherwise) count = then_second (trial.If line) (each branches count) (each otherwise)
xstat_step (XStat-F.While line test block) count = then_second (trial.While line) (of_expression test count) (each block)
xstat_step (XStat-F.For line slots container block) count = then_second (trial.For line slots) (of_expression container count) (each block)
xstat_step (XStat-F.RunModel line target model arguments widen) count = then_second (model_ran line model widen) (of_target target count) (of_expressions arguments)

abbrev pub xbranch_step : XBranch-F (Counting XStat) (Counting XBranch) → Counting XBranch
xbranch_step b count = then_second (λ test block. record { test = test; block = block }) (of_expression b.test count) (each b.block)

unfoldable pub of_xstat : XStat → Counting XStat
of_xstat = fold-XStat (Counting XStat) (Counting XBranch) xstat_step xbranch_step

unfoldable pub of_xbranch : XBranch → Counting XBranch
of_xbranch = fold-XBranch (Counting XStat) (Counting XBranch) xstat_step xbranch_step

-- ---- programs

abbrev pub of_constant : ConstDef → Counting ConstDef
of_constant c count = made_of (λ value. record { line = c.line; ty = c.ty; value = value }) (of_expression c.value count)

abbrev pub of_function : FuncDef → Counting FuncDef
of_function f count = made_of (λ body. record { name = f.name; arity = f.arity; result = f.result; slots = f.slots; body = body }) (each (map of_statement f.body) count)

abbrev pub of_process : ProcDef → Counting ProcDef
of_process p count = made_of (λ body. record { name = p.name; params = p.params; exit = p.exit; slots = p.slots; body = body }) (each (map of_statement p.body) count)

abbrev pub of_experiment : XperDef → Counting XperDef
of_experiment x count = made_of (λ body. record { name = x.name; slots = x.slots; body = body }) (each (map of_xstat x.body) count)

-- the program with a stream for each call that makes a distribution
unfoldable pub with_streams : Core → Core
with_streams core =
    let consts = each (map of_constant core.consts) 0 in
    let funcs = each (map of_function core.funcs) consts.next in
    let procs = each (map of_process core.procs) funcs.next in
    let xpers = each (map of_experiment core.xpers) procs.next in
    record { consts = consts.part; funcs = funcs.part; procs = procs.part; model = core.model; names = core.names; xpers = xpers.part }
