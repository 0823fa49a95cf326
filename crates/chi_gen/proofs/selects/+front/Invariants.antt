use Rattle.std.proofs.Common.{take, ◌+◌, ◌*◌}
use denote.Param.Weighed.{most}
use Rattle.chi_core.specs.declared.statement.CAlt.{size-CAlt}
use Rattle.chi_gen_parts.specs.Added.{walks_in}
use Rattle.chi_gen.specs.Passes.{AddsFronts}
use Rattle.chi_gen.proofs.selects.+front.Given as goal

abbrev pub invariant-fronts-loop-i : goal.invariant-fronts-loop-i
invariant-fronts-loop-i l = AddsFronts l.fn.here.slots.now (walks_in l.fn.here.near) l.fn.names (take l.i l.xs) l.fn.first l.next l.fn.code.items l.code.items

abbrev pub decreases-front : goal.decreases-front
decreases-front l = 3 * size-CAlt l.x.now

abbrev pub decreases-fronts : goal.decreases-fronts
decreases-fronts l = 3 * most size-CAlt l.xs.now + 1
