use Rattle.std.proofs.Common.{refl, subst}
use Rattle.chi_machine.specs.Beginnings.{HasBegun}
use Rattle.chi_machine.proofs.Called.{begins_somehow, begins_course}
use Rattle.chi_machine.proofs.machine.Machine.begin.Goals as goal

pub begin-requires : goal.begin-requires
begin-requires c = begins_somehow c.start_law.ensures.begins c.start_law.ensures.exact c.kinded_law.ensures.begins c.args.code.now c.args.arguments.items c.args.seed c.args.until c.args.bound c.requires

pub returns-in-Ready : goal.returns-in-Ready
returns-in-Ready c =
    let h = subst (HasBegun c.args.code.now c.args.arguments.items c.args.seed c.args.until) c.in-Ready.is c.in_ok-world.ensures in (
      h.0,
      refl,
      refl,
      begins_course c.start_law.ensures.begins c.start_law.ensures.exact c.kinded_law.ensures.begins c.args.code.now c.args.arguments.items c.args.seed c.args.until c.args.bound c.requires c.in-Ready.world h.0 h.1,
    )
