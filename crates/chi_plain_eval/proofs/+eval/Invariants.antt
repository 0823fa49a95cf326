use Rattle.std.proofs.Common.{max, ◌≡◌, ◌≢◌, ◌≤◌, ◌-◌, ◌+◌, ◌*◌, drop, map}
use denote.Param.Weighed.{most}
use Rattle.chi_core.specs.declared.expression.CExpr.{size-CExpr}
use Rattle.chi_core.specs.Answer.{in_turn, gathered, gathered_times, giving, times, Amiss}
use Rattle.chi_core.specs.Evaluation.{place_before}
use Rattle.chi_core.specs.Functions.{exec}
use Rattle.chi_core.specs.Terms.{Do, chosen}
use Rattle.chi_plain_eval.specs.Calls.{before_by, meaning, run_by}
use Rattle.chi_plain_eval.specs.Spans.{reach_in, span, branch_span, item_span, step_span, target_span}
use Rattle.chi_ops.specs.Paths.{steps_of}
use Rattle.chi_core.specs.Spots.{spot_of, step_at}
use Rattle.chi_core_frame.specs.Spots.{spot_in}
use Rattle.chi_plain_eval.specs.Surroundings.{scene_in}
use Rattle.chi_plain_eval.proofs.+eval.Given as goal

abbrev pub decreases-expressions::eval : goal.decreases-expressions::eval
decreases-expressions::eval l = reach_in l.here.now + (5 * size-CExpr l.e.now) + 1

abbrev pub decreases-expressions::eval_within : goal.decreases-expressions::eval_within
decreases-expressions::eval_within l = reach_in l.here.now + (5 * size-CExpr l.e.now)

abbrev pub decreases-expressions::eval_all : goal.decreases-expressions::eval_all
decreases-expressions::eval_all l = reach_in l.here.now + (5 * most size-CExpr l.parts.now) + 2

abbrev pub invariant-expressions::eval_all-loop-part : goal.invariant-expressions::eval_all-loop-part
invariant-expressions::eval_all-loop-part l =
    let m = meaning l.here l.variables in
    (gathered l.values.items (map m (drop l.part-index l.parts)) l.view ≢ Amiss)
    × (in_turn (map m l.parts) l.fn.view ≡ gathered l.values.items (map m (drop l.part-index l.parts)) l.view)

abbrev pub decreases-bodies::call : goal.decreases-bodies::call
decreases-bodies::call l = reach_in l.here.now

abbrev pub decreases-bodies::run_body : goal.decreases-bodies::run_body
decreases-bodies::run_body l = reach_in l.here.now + (5 * most span l.body.now) + 10

abbrev pub decreases-items::act : goal.decreases-items::act
decreases-items::act l = reach_in l.here.now + (5 * most item_span l.term.now) + 9

abbrev pub decreases-items::act_on : goal.decreases-items::act_on
decreases-items::act_on l = reach_in l.here.now + (5 * span l.statement.now) + 8

abbrev pub decreases-items::test_loop : goal.decreases-items::test_loop
decreases-items::test_loop l = reach_in l.here.now + (5 * size-CExpr l.parts.now.test.now) + 2

abbrev pub invariant-bodies::run_body-loop-turn : goal.invariant-bodies::run_body-loop-turn
invariant-bodies::run_body-loop-turn l =
    let run = run_by l.here in
    (most item_span l.term ≤ most span l.body)
    × (exec l.fn.view.left run (scene_in l.here.surroundings.now) l.fn.variables (map Do l.body) l.fn.view ≡ exec (l.fn.view.left - l.turn) run (scene_in l.here.surroundings.now) l.variables l.term l.view)

abbrev pub decreases-items::choose : goal.decreases-items::choose
decreases-items::choose l = reach_in l.here.now + (5 * most branch_span l.branches.now) + 2

abbrev pub invariant-items::choose-loop-branch : goal.invariant-items::choose-loop-branch
invariant-items::choose-loop-branch l =
    let m = meaning l.here l.variables in
    (l.term ≡ l.fn.term)
    × (chosen m l.variables (drop l.branch-index l.branches) l.otherwise (drop 1 l.term) l.view ≢ Amiss)
    × (chosen m l.variables l.branches l.otherwise (drop 1 l.fn.term) l.fn.view ≡ chosen m l.variables (drop l.branch-index l.branches) l.otherwise (drop 1 l.term) l.view)

abbrev pub decreases-items::assign : goal.decreases-items::assign
decreases-items::assign l = reach_in l.here.now + (5 * max (most target_span l.targets.now) (most size-CExpr l.values.now)) + 7

abbrev pub decreases-places::spots_of : goal.decreases-places::spots_of
decreases-places::spots_of l = reach_in l.here.now + (5 * most target_span l.targets.now) + 4

abbrev pub decreases-places::path_of : goal.decreases-places::path_of
decreases-places::path_of l = reach_in l.here.now + (5 * most step_span l.steps.now) + 3

abbrev pub decreases-places::step_on : goal.decreases-places::step_on
decreases-places::step_on l = reach_in l.here.now + (5 * step_span l.step.now) + 2

abbrev pub invariant-places::path_of-loop-step : goal.invariant-places::path_of-loop-step
invariant-places::path_of-loop-step l =
    let does = step_at (meaning l.here l.variables) in
    (gathered (steps_of l.path.items) (map does (drop l.step-index l.steps)) l.view ≢ Amiss)
    × (in_turn (map does l.steps) l.fn.view ≡ gathered (steps_of l.path.items) (map does (drop l.step-index l.steps)) l.view)

abbrev pub invariant-places::spots_of-loop-target : goal.invariant-places::spots_of-loop-target
invariant-places::spots_of-loop-target l =
    let does = spot_of (meaning l.here l.variables) in
    (gathered (map spot_in l.spots.items) (map does (drop l.target-index l.targets)) l.view ≢ Amiss)
    × (in_turn (map does l.targets) l.fn.view ≡ gathered (map spot_in l.spots.items) (map does (drop l.target-index l.targets)) l.view)

abbrev pub decreases-literals::repeat : goal.decreases-literals::repeat
decreases-literals::repeat l = reach_in l.here.now + (5 * size-CExpr l.each.now) + 2

abbrev pub invariant-literals::repeat-loop-turn : goal.invariant-literals::repeat-loop-turn
invariant-literals::repeat-loop-turn l =
    let m = meaning l.here l.variables l.each in
    (gathered_times l.values.items (l.count - l.turn) m l.view ≢ Amiss)
    × (times l.count m l.fn.view ≡ gathered_times l.values.items (l.count - l.turn) m l.view)

abbrev pub decreases-operators::operands_of : goal.decreases-operators::operands_of
decreases-operators::operands_of l = reach_in l.here.now + (5 * most size-CExpr l.parts.now) + 3

abbrev pub decreases-operators::operate : goal.decreases-operators::operate
decreases-operators::operate l = reach_in l.here.now + (5 * most size-CExpr l.parts.now) + 4

abbrev pub decreases-inserting::insert_by : goal.decreases-inserting::insert_by
decreases-inserting::insert_by l = reach_in l.here.now + (5 * max (size-CExpr l.parts.now.list.now) (size-CExpr l.parts.now.element.now)) + 4

abbrev pub decreases-inserting::insert_off : goal.decreases-inserting::insert_off
decreases-inserting::insert_off l = reach_in l.here.now + (5 * max (size-CExpr l.parts.now.list.now) (size-CExpr l.parts.now.element.now)) + 4

abbrev pub decreases-inserting::insertion_in : goal.decreases-inserting::insertion_in
decreases-inserting::insertion_in l = reach_in l.here.now + (5 * max (size-CExpr l.parts.now.list.now) (size-CExpr l.parts.now.element.now)) + 3

abbrev pub decreases-operators::second_where : goal.decreases-operators::second_where
decreases-operators::second_where l = reach_in l.here.now + (5 * max (size-CExpr l.a.now) (size-CExpr l.b.now)) + 2

abbrev pub decreases-operators::part : goal.decreases-operators::part
decreases-operators::part l = reach_in l.here.now + (5 * size-CExpr l.a.now) + 2

abbrev pub decreases-literals::build : goal.decreases-literals::build
decreases-literals::build l = reach_in l.here.now + (5 * most size-CExpr l.parts.now) + 3

abbrev pub decreases-literals::repeat_each : goal.decreases-literals::repeat_each
decreases-literals::repeat_each l = reach_in l.here.now + (5 * max (size-CExpr l.count.now) (size-CExpr l.each.now)) + 3

abbrev pub decreases-bodies::call_with : goal.decreases-bodies::call_with
decreases-bodies::call_with l = reach_in l.here.now + (5 * most size-CExpr l.parts.now) + 3

abbrev pub decreases-items::declare : goal.decreases-items::declare
decreases-items::declare l = reach_in l.here.now + (5 * size-CExpr l.e.now) + 4

abbrev pub decreases-items::assign_several : goal.decreases-items::assign_several
decreases-items::assign_several l = reach_in l.here.now + (5 * max (most target_span l.targets.now) (most size-CExpr l.values.now)) + 6

abbrev pub decreases-items::assign_all : goal.decreases-items::assign_all
decreases-items::assign_all l = reach_in l.here.now + (5 * max (most target_span l.targets.now) (most size-CExpr l.values.now)) + 5

abbrev pub decreases-setting::set_to : goal.decreases-setting::set_to
decreases-setting::set_to l = reach_in l.here.now + (5 * size-CExpr l.e.now) + 3

abbrev pub decreases-setting::set_each : goal.decreases-setting::set_each
decreases-setting::set_each l = reach_in l.here.now + (5 * size-CExpr l.e.now) + 3

abbrev pub decreases-expressions::eval_off : goal.decreases-expressions::eval_off
decreases-expressions::eval_off l = reach_in l.here.now + (5 * size-CExpr l.e.now) + 2

abbrev pub decreases-operators::operate_off : goal.decreases-operators::operate_off
decreases-operators::operate_off l = reach_in l.here.now + (5 * most size-CExpr l.parts.now) + 4

abbrev pub decreases-items::begin_walk : goal.decreases-items::begin_walk
decreases-items::begin_walk l = reach_in l.here.now + (5 * size-CExpr l.parts.now.over.now) + 2

abbrev pub decreases-inserting::place_before : goal.decreases-inserting::place_before
decreases-inserting::place_before l = reach_in l.here.now + 1

abbrev pub invariant-inserting::place_before-loop-place : goal.invariant-inserting::place_before-loop-place
invariant-inserting::place_before-loop-place l =
    let test = before_by (run_by l.here) l.number l.x in
    (place_before test (drop l.place l.items) l.view ≢ Amiss)
    × (place_before test l.items l.fn.view ≡ giving (λ n. l.place + n) (place_before test (drop l.place l.items) l.view))
