use Rattle.std.proofs.Common.{◌∙◌}
use Rattle.chi_machine.proofs.Turned.{ending_is}
use Rattle.chi_machine.proofs.course.Course.ending.Goals as goal

pub returns : goal.returns
returns c = c.ending.ensures ∙ ending_is c.agenda_law.ensures.ending c.args.self.now.world c.requires
