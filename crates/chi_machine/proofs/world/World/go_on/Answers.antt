use Rattle.std.proofs.Common.{refl}
use Rattle.chi_machine.proofs.Meetings.{join_may, join_took}
use Rattle.chi_machine.proofs.world.World.go_on.Goals as goal

pub go_on-requires-clause-may : goal.go_on-requires-clause-may
go_on-requires-clause-may c = join_may c.args.code.now c.args.self.now c.requires.kept c.args.left c.args.p c.requires.may

pub returns : goal.returns
returns c = join_took c.args.code.now c.args.self.now c.requires.kept c.args.left c.args.p c.requires.may _ c.in_ok-go_on.ensures.kept refl c.in_ok-go_on.ensures.goes
