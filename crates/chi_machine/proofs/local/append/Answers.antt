use Rattle.std.proofs.Common.{rules}
use Rattle.chi_machine.proofs.Added.{nothing_more}
use Rattle.chi_machine.proofs.local.append.Goals as goal

pub returns-then-is_blank-clause-text : goal.returns-then-is_blank-clause-text
returns-then-is_blank-clause-text c = nothing_more c.args.out.now.items c.args.text.now.items (c.is_blank.ensures (search rules))
