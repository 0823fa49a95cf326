use Rattle.std.proofs.Common.{ℕ}
use Rattle.chi_exec_law.specs.Runs.{Leads}
use Rattle.chi_exec_law.proofs.Measure.{IsOver, bound, count}
use Rattle.chi_machine_laws.specs.Labels.{jumps}
use Rattle.chi_machine_runs.specs.declared.settling.Way.{Way}
use Rattle.chi_machine_runs.proofs.settling.follow.Given as goal

-- how many steps the whole way takes
abbrev pub most : Way → ℕ
most way = bound (jumps way.code.now.instrs) way.from way.ends

abbrev pub invariant-loop-goal : goal.invariant-loop-goal
invariant-loop-goal l = record {
  over : IsOver (jumps l.fn.way.code.now.instrs) (most l.fn.way) l.at;
  leads : Leads (jumps l.fn.way.code.now.instrs) l.fn.way.from l.at;
}

abbrev pub decreases-loop-goal : goal.decreases-loop-goal
decreases-loop-goal l = count (jumps l.fn.way.code.now.instrs) (most l.fn.way) l.at
