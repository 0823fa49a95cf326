use Rattle.std.proofs.Common.{◌∙◌}
use Rattle.chi_machine.proofs.Turned.{picked_is}
use Rattle.chi_machine.proofs.course.Course.pick.Goals as goal

pub returns : goal.returns
returns g c = λ pick answers. c.pick.ensures pick answers ∙ picked_is c.agenda_law.ensures.picked c.args.self.now.world c.requires.kept pick c.args.self.now.turn
