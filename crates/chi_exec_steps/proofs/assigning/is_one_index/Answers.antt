use Rattle.std.proofs.Common.{sym, arith}
use Rattle.chi_exec_steps.proofs.Aims.{one_step}
use Rattle.chi_exec_steps.proofs.assigning.is_one_index.Goals as goal

pub returns-in-Some : goal.returns-in-Some
returns-in-Some c = λ h. one_step c.args.steps.now c.in-Some.step.now (omega arith) (sym c.in-Some.ensures.value) (c.is_index.ensures h)
