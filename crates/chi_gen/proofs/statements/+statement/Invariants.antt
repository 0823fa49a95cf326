use Rattle.std.proofs.Common.{take, max, ◌+◌, ◌*◌}
use denote.Param.Weighed.{most}
use Rattle.chi_core.specs.declared.statement.CAlt.{size-CAlt}
use Rattle.chi_core.specs.declared.statement.CStat.{size-CStat}
use Rattle.chi_core.specs.declared.statement.Branch.{size-Branch}
use Rattle.chi_gen_parts.specs.Added.{AddsBlock}
use Rattle.chi_gen.specs.Passes.{AddsTests, AddsBodies}
use Rattle.chi_gen.proofs.statements.+statement.Given as goal

abbrev pub invariant-block-loop-i : goal.invariant-block-loop-i
invariant-block-loop-i l = AddsBlock l.fn.here.process l.fn.here.slots.now l.fn.here.near (take l.i l.xs) l.fn.code.items l.code.items

abbrev pub invariant-branches-loop-i : goal.invariant-branches-loop-i
invariant-branches-loop-i l = AddsTests l.fn.here.process l.fn.here.slots.now l.fn.here.near l.fn.end (take l.i l.xs) l.fn.code.items l.code.items

abbrev pub invariant-bodies-loop-i : goal.invariant-bodies-loop-i
invariant-bodies-loop-i l = AddsBodies l.fn.here.process l.fn.here.slots.now l.fn.here.near l.fn.end (take l.i l.xs) l.fn.code.items l.code.items

abbrev pub decreases-statement : goal.decreases-statement
decreases-statement l = 3 * size-CStat l.x.now

abbrev pub decreases-block : goal.decreases-block
decreases-block l = 3 * most size-CStat l.xs.now + 1

abbrev pub decreases-choose : goal.decreases-choose
decreases-choose l = 3 * max (most size-Branch l.first.now.items.now) (most size-CStat l.last.now.items.now) + 2

abbrev pub decreases-branches : goal.decreases-branches
decreases-branches l = 3 * most size-Branch l.xs.now + 1

abbrev pub decreases-branch : goal.decreases-branch
decreases-branch l = 3 * size-Branch l.x.now

abbrev pub decreases-repeat : goal.decreases-repeat
decreases-repeat l = 3 * most size-CStat l.inner.now.items.now + 2

abbrev pub decreases-walk : goal.decreases-walk
decreases-walk l = 3 * most size-CStat l.inner.now.items.now + 2

abbrev pub decreases-select : goal.decreases-select
decreases-select l = 3 * most size-CAlt l.inner.now.items.now + 2

abbrev pub decreases-bodies : goal.decreases-bodies
decreases-bodies l = 3 * most size-CAlt l.xs.now + 1

abbrev pub decreases-body : goal.decreases-body
decreases-body l = 3 * size-CAlt l.x.now
