use Rattle.std.proofs.Common.{ap, sym, subst}
use Rattle.chi_machine.specs.declared.taken.Taken.TheVariants.{Over}
use Rattle.chi_machine.specs.Runs.{StopsAs}
use Rattle.chi_machine.proofs.world.World.stopped.Goals as goal

pub returns-in_ok-fault-in-Fault : goal.returns-in_ok-fault-in-Fault
returns-in_ok-fault-in-Fault c =
    subst (λ why. StopsAs c.args.code.now c.args.self.now.crowd c.args.p why (Over c.in_ok-fault-in-Fault.field-0)) (sym c.in-Fault.is) (λ r. ap Over (c.in_ok-fault-in-Fault.ensures r))
