use Rattle.std.proofs.Common.{◌≡◌, ◌+◌, ◌*◌, drop, map}
use denote.Param.Weighed.{most}
use Rattle.chi_core.specs.declared.element.CElem.{size-CElem}
use Rattle.chi_core.specs.Answer.{through}
use Rattle.chi_core.specs.Starting.{starts, unwound}
use Rattle.chi_plain_eval.specs.Surroundings.{value_in}
use Rattle.chi_plain_open.specs.Drafts.{started_of, starts_each}
use Rattle.chi_plain_open.proofs.elements.+start.Given as goal

abbrev pub decreases-start : goal.decreases-start
decreases-start l = 6 * size-CElem l.element.now

abbrev pub decreases-start_each : goal.decreases-start_each
decreases-start_each l = (6 * most size-CElem l.elements.now) + 1

abbrev pub decreases-unwind_one : goal.decreases-unwind_one
decreases-unwind_one l = (6 * most size-CElem l.parts.now.elements.now) + 2

abbrev pub decreases-unwind_each : goal.decreases-unwind_each
decreases-unwind_each l = (6 * most size-CElem l.parts.now.elements.now) + 3

abbrev pub decreases-unwind_over : goal.decreases-unwind_over
decreases-unwind_over l = (6 * most size-CElem l.parts.now.elements.now) + 4

abbrev pub decreases-unwind : goal.decreases-unwind
decreases-unwind l = (6 * most size-CElem l.parts.now.elements.now) + 5

abbrev pub invariant-start_each-loop-element : goal.invariant-start_each-loop-element
invariant-start_each-loop-element l =
    let all = starts (value_in l.here.scene.now) l.here.procs.now in
    (starts_each (map all l.elements) (started_of l.fn.starting) l.fn.view ≡ starts_each (map all (drop l.element-index l.elements)) (started_of l.starting) l.view)
    × (l.starting.origin ≡ l.fn.starting.origin)

abbrev pub invariant-unwind_each-loop-element : goal.invariant-unwind_each-loop-element
invariant-unwind_each-loop-element l =
    let each = unwound (value_in l.here.scene.now) l.here.procs.now l.parts.slots.now (map (starts (value_in l.here.scene.now) l.here.procs.now) l.parts.elements.now) in
    (through each l.fn.inner.items (started_of l.fn.starting) l.fn.view ≡ through each l.element-iterator.rest.items (started_of l.starting) l.view)
    × (l.starting.origin ≡ l.fn.starting.origin)
