-- A core without its lines: each line that it keeps is 0. Two cores are equal but for their lines where they are the same
-- without them.
use Rattle.std.specs.Prelude.{List, map, option_map}
use Rattle.chi_core.specs.declared.experiment.XBranch.{XBranch, XBranch-F, fold-XBranch}
use Rattle.chi_core.specs.declared.experiment.XperDef.{XperDef}
use Rattle.chi_core.specs.declared.experiment.XStat.{XStat, XStat-F, fold-XStat}
use Rattle.chi_core.specs.declared.experiment.XStat.TheVariants as trial
use Rattle.chi_core.specs.declared.program.ConstDef.{ConstDef}
use Rattle.chi_core.specs.declared.program.Core.{Core}
use Rattle.chi_core.specs.declared.program.FuncDef.{FuncDef}
use Rattle.chi_core.specs.declared.program.ProcDef.{ProcDef}
use Rattle.chi_core.specs.declared.statement.Branch.{Branch, Branch-F, fold-Branch}
use Rattle.chi_core.specs.declared.statement.CAlt.{CAlt, CAlt-F, fold-CAlt}
use Rattle.chi_core.specs.declared.statement.CAlt.TheVariants as alternative
use Rattle.chi_core.specs.declared.statement.CStat.{CStat, CStat-F, fold-CStat}
use Rattle.chi_core.specs.declared.statement.CStat.TheVariants as statement
use Rattle.chi_check_types.specs.Typed.{Typed}
use Rattle.chi_check.specs.Below.chi_check_stat_lines.specs.Stated.{Stated}
use Rattle.chi_check_places.specs.UnplacedTyped.{unplaced_faults}

-- at each node the parts are without their lines already

abbrev pub statement_without : CStat-F CAlt CStat Branch → CStat
statement_without (CStat-F.Declare line slot e) = statement.Declare 0 slot e
statement_without (CStat-F.Assign line targets es) = statement.Assign 0 targets es
statement_without (CStat-F.If line branches otherwise) = statement.If 0 branches otherwise
statement_without (CStat-F.While line test block) = statement.While 0 test block
statement_without (CStat-F.For line slots container block) = statement.For 0 slots container block
statement_without (CStat-F.Break line) = statement.Break 0
statement_without (CStat-F.Continue line) = statement.Continue 0
statement_without (CStat-F.Pass line) = statement.Pass 0
statement_without (CStat-F.Return line e) = statement.Return 0 e
statement_without (CStat-F.Exit line e) = statement.Exit 0 e
statement_without (CStat-F.Write line pieces es) = statement.Write 0 pieces es
statement_without (CStat-F.Select line alternatives) = statement.Select 0 alternatives
statement_without (CStat-F.Run line elements) = statement.Run 0 elements
statement_without (CStat-F.Start line elements) = statement.Start 0 elements
statement_without (CStat-F.Finish line es) = statement.Finish 0 es

abbrev pub branch_without : Branch-F CAlt CStat Branch → Branch
branch_without b = record { test = b.test; block = b.block }

abbrev pub alternative_without : CAlt-F CAlt CStat Branch → CAlt
alternative_without (CAlt-F.Guarded guard c block) = alternative.Guarded guard c block
alternative_without (CAlt-F.Unwind slots container alternatives) = alternative.Unwind slots container alternatives

abbrev pub lineless_statement : CStat → CStat
lineless_statement = fold-CStat CAlt CStat Branch alternative_without statement_without branch_without

abbrev pub lineless_branch : Branch → Branch
lineless_branch = fold-Branch CAlt CStat Branch alternative_without statement_without branch_without

abbrev pub lineless_alternative : CAlt → CAlt
lineless_alternative = fold-CAlt CAlt CStat Branch alternative_without statement_without branch_without

-- statements of experiments

abbrev pub xstat_without : XStat-F XStat XBranch → XStat
xstat_without (XStat-F.Line s) = trial.Line (lineless_statement s)
xstat_without (XStat-F.If line branches otherwise) = trial.If 0 branches otherwise
xstat_without (XStat-F.While line test block) = trial.While 0 test block
xstat_without (XStat-F.For line slots container block) = trial.For 0 slots container block
xstat_without (XStat-F.RunModel line target model arguments widen) = trial.RunModel 0 target model arguments widen

abbrev pub xbranch_without : XBranch-F XStat XBranch → XBranch
xbranch_without b = record { test = b.test; block = b.block }

abbrev pub lineless_xstat : XStat → XStat
lineless_xstat = fold-XStat XStat XBranch xstat_without xbranch_without

abbrev pub lineless_xbranch : XBranch → XBranch
lineless_xbranch = fold-XBranch XStat XBranch xstat_without xbranch_without

-- programs

abbrev pub lineless_constant : ConstDef → ConstDef
lineless_constant c = record { line = 0; ty = c.ty; value = c.value }

abbrev pub lineless_function : FuncDef → FuncDef
lineless_function f = record { name = f.name; arity = f.arity; result = f.result; slots = f.slots; body = map lineless_statement f.body }

abbrev pub lineless_process : ProcDef → ProcDef
lineless_process p = record { name = p.name; params = p.params; exit = p.exit; slots = p.slots; body = map lineless_statement p.body }

abbrev pub lineless_experiment : XperDef → XperDef
lineless_experiment x = record { name = x.name; slots = x.slots; body = map lineless_xstat x.body }

abbrev pub lineless : Core → Core
lineless core = record {
  consts = map lineless_constant core.consts;
  funcs = map lineless_function core.funcs;
  procs = map lineless_process core.procs;
  model = core.model;
  names = core.names;
  xpers = map lineless_experiment core.xpers;
}

-- what statements come to, without places and lines
abbrev pub lineless_stated : {S : Type 0} → Stated S (List CStat) → Stated S (List CStat)
lineless_stated t = record { next = t.next; faults = unplaced_faults t.faults; made = option_map (map lineless_statement) t.made }

-- and those of experiments
abbrev pub lineless_tried : {S : Type 0} → Stated S (List XStat) → Stated S (List XStat)
lineless_tried t = record { next = t.next; faults = unplaced_faults t.faults; made = option_map (map lineless_xstat) t.made }

-- what a program comes to, without places and lines
abbrev pub lineless_typed : Typed Core → Typed Core
lineless_typed t = record { faults = unplaced_faults t.faults; made = option_map lineless t.made }
