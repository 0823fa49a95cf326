use Rattle.chi_exec_law.specs.Runs.{Halts, Leads}
use Rattle.chi_machine_laws.specs.Deeds.{moves}
use Rattle.chi_machine_runs.specs.Views.{there, within_of}
use Rattle.chi_machine_runs.proofs.running.run_deeds.Given as goal

abbrev pub invariant-deeds : goal.invariant-deeds
invariant-deeds l = record {
  leads : Leads (moves (within_of l.w)) (there l.w.code.now l.fn.m l.fn.opened l.fn.brought) (there l.w.code.now l.m l.opened l.brought);
  halts : Halts (moves (within_of l.w)) (there l.w.code.now l.m l.opened l.brought);
}
