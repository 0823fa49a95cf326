use Rattle.std.proofs.Common.{rules}
use Rattle.chi_machine.proofs.Added.{none_added, none_first}
use Rattle.chi_machine.proofs.world.World.start.Goals as goal

pub returns-then-is_none-clause-added : goal.returns-then-is_none-clause-added
returns-then-is_none-clause-added c =
    none_added c.args.self.now.crowd c.args.code.now c.args.self.now.brought.made.items (c.is_none.ensures (search rules))

pub returns-then-is_none-clause-first : goal.returns-then-is_none-clause-first
returns-then-is_none-clause-first c = none_first c.args.self.now.crowd
