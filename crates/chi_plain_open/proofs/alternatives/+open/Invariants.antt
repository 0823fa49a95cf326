use Rattle.std.proofs.Common.{◌≡◌, ◌+◌, ◌*◌, ◌++◌, drop, map}
use denote.Param.Weighed.{most}
use Rattle.chi_core.specs.declared.statement.CAlt.{size-CAlt}
use Rattle.chi_core.specs.Answer.{through}
use Rattle.chi_core.specs.Opening.{each_opens, opens, unwound}
use Rattle.chi_plain_eval.specs.Surroundings.{value_in}
use Rattle.chi_plain_open.specs.Drafts.{opening_of}
use Rattle.chi_plain_open.proofs.alternatives.+open.Given as goal

abbrev pub decreases-open : goal.decreases-open
decreases-open l = 6 * size-CAlt l.alternative.now

abbrev pub decreases-open_each : goal.decreases-open_each
decreases-open_each l = (6 * most size-CAlt l.alternatives.now) + 1

abbrev pub decreases-unwind_one : goal.decreases-unwind_one
decreases-unwind_one l = (6 * most size-CAlt l.parts.now.alternatives.now) + 2

abbrev pub decreases-unwind_each : goal.decreases-unwind_each
decreases-unwind_each l = (6 * most size-CAlt l.parts.now.alternatives.now) + 3

abbrev pub decreases-unwind_over : goal.decreases-unwind_over
decreases-unwind_over l = (6 * most size-CAlt l.parts.now.alternatives.now) + 4

abbrev pub decreases-unwind : goal.decreases-unwind
decreases-unwind l = (6 * most size-CAlt l.parts.now.alternatives.now) + 5

abbrev pub invariant-open_each-loop-alternative : goal.invariant-open_each-loop-alternative
invariant-open_each-loop-alternative l =
    let all = opens (value_in l.around.scene.now) l.around.scene.now.clock in
    (each_opens (value_in l.around.scene.now) l.around.scene.now.clock l.around.names.now (map all l.alternatives) (opening_of l.fn.opening) l.fn.view
    ≡ each_opens (value_in l.around.scene.now) l.around.scene.now.clock l.around.names.now (map all (drop l.alternative-index l.alternatives)) (opening_of l.opening) l.view)
    × (l.opening.origin ≡ l.fn.opening.origin)

abbrev pub invariant-unwind_each-loop-element : goal.invariant-unwind_each-loop-element
invariant-unwind_each-loop-element l =
    let each = unwound (value_in l.around.scene.now) l.around.scene.now.clock l.around.names.now l.parts.slots.now (map (opens (value_in l.around.scene.now) l.around.scene.now.clock) l.parts.alternatives.now) in
    (through each l.fn.elements.items (opening_of l.fn.opening) l.fn.view ≡ through each l.element-iterator.rest.items (opening_of l.opening) l.view)
    × (l.opening.origin ≡ l.fn.opening.origin) × (l.inner.items ≡ l.around.names.now ++ l.parts.slots.now)
