use Rattle.std.proofs.Common.{◌∙◌}
use Rattle.chi_machine_agenda.proofs.Watching.{left-roomy}
use Rattle.chi_machine_agenda.proofs.joining.pass.Goals as goal

pub free-requires : goal.free-requires
free-requires c = left-roomy c.args.left.now.items c.args.ready.now c.args.pid c.requires.room (λ e. c.if-had-eq0.false (c.left_of-had.ensures ∙ e))
