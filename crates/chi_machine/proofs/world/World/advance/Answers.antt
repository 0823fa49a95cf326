use Rattle.std.proofs.Common.{refl}
use Rattle.chi_machine.proofs.Timed.{idle_too, advance_took}
use Rattle.chi_machine.proofs.world.World.advance.Goals as goal

pub advance-requires : goal.advance-requires
advance-requires c = idle_too c.agenda_law.ensures.actors c.args.self.now c.requires.kept c.requires.idle

pub returns : goal.returns
returns c = λ code kept may. advance_took c.agenda_law.ensures.due code c.args.self.now _ c.args.left kept may refl refl c.advance.ensures
