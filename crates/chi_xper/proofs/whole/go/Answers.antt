use Rattle.std.proofs.Common.{◌∙◌, ◌++◌, [], append-nil, sym, ap, arith, rules}
use Rattle.chi_xper.specs.Deeds.{call_in}
use Rattle.chi_xper.specs.Experiments.{exit_value, seed_of}
use Rattle.chi_xper.specs.Tasks.{item_of}
use Rattle.chi_xper.proofs.Going.{gone_start, ends_done, ends_spent, ends_last, first_there, leads_on, ends_stopped, call_allowed, taken_there, leads_taken, ends_run, ends_after_run, still_allowed}
use Rattle.chi_xper.proofs.whole.go.Goals as goal
use Rattle.chi_xper.proofs.whole.go.Goals.{in-Goes, in-Writes+in-Ok-extend_from_slice, in-Calls+in-Took}

pub loop-turn-init : goal.loop-turn-init
loop-turn-init g c =
    gone_start c.args.core.now c.args.scene.now (g.R.Runner.outcome c.args.runner.now) (g.R.Runner.allows c.args.runner.now) c.args.out.now.items c.args.course.view.left c.args.course.count c.args.course.variables c.args.course.term c.args.course.view c.requires.none_yet

pub returns-in-None : goal.returns-in-None
returns-in-None g c =
    ends_done c.args.core.now c.args.scene.now (g.R.Runner.outcome c.args.runner.now) c.requires.scene_is c.requires.functions c.loop-turn.course.count c.loop-turn.course.variables c.loop-turn.course.term c.loop-turn.course.view
    _ c.args.out.now.items c.loop-turn.out.items c.args.course.view.left c.loop-turn.turn c.loop-turn.invariant.leads c.in-None.ensures

pub returns-then-course-eq0 : goal.returns-then-course-eq0
returns-then-course-eq0 g c =
    ends_spent c.args.core.now c.args.scene.now (g.R.Runner.outcome c.args.runner.now) c.requires.scene_is c.requires.functions c.loop-turn.course.count c.loop-turn.course.variables c.loop-turn.course.term c.loop-turn.course.view
    _ c.args.out.now.items c.loop-turn.out.items c.args.course.view.left c.loop-turn.turn c.loop-turn.invariant.leads _ c.in-Some.ensures c.if-course-eq0.true

pub do_first-done-requires : goal.do_first-done-requires
do_first-done-requires g c =
    first_there c.args.core.now c.args.scene.now (g.R.Runner.outcome c.args.runner.now) c.requires.scene_is c.requires.functions c.loop-turn.course.count c.loop-turn.course.variables c.loop-turn.course.term c.loop-turn.course.view
    _ c.args.out.now.items c.loop-turn.out.items c.args.course.view.left c.loop-turn.turn c.loop-turn.invariant.leads (g.R.Runner.allows c.args.runner.now) c.requires.fine
    (item_of c.in-Some.task.now) c.in-Some.ensures c.loop-turn-test.true (omega arith)

pub returns-in-Err : goal.returns-in-Err
returns-in-Err g c =
    ends_stopped c.args.core.now c.args.scene.now (g.R.Runner.outcome c.args.runner.now) c.requires.scene_is c.requires.functions c.loop-turn.course.count c.loop-turn.course.variables c.loop-turn.course.term c.loop-turn.course.view
    _ c.args.out.now.items c.loop-turn.out.items c.args.course.view.left c.loop-turn.turn c.loop-turn.invariant.leads (g.R.Runner.allows c.args.runner.now) c.requires.fine
    (item_of c.in-Some.task.now) c.in-Some.ensures c.loop-turn-test.true (omega arith)
    c.in-Err.stop c.stopped.result c.line_of-line.result c.line_of-line.ensures c.stopped.ensures c.in-Err.ensures.stops

pub run_model-requires-clause-allowed : goal.run_model-requires-clause-allowed
run_model-requires-clause-allowed g c =
    (c.loop-turn.invariant.same_allowed c.in-Calls.call.model c.in-Calls.call.arguments.items).1
    (call_allowed c.args.core.now c.args.scene.now (g.R.Runner.outcome c.args.runner.now) c.requires.scene_is c.requires.functions c.loop-turn.course.count c.loop-turn.course.variables c.loop-turn.course.term c.loop-turn.course.view
    _ c.args.out.now.items c.loop-turn.out.items c.args.course.view.left c.loop-turn.turn c.loop-turn.invariant.leads (g.R.Runner.allows c.args.runner.now) c.requires.fine
    (item_of c.in-Some.task.now) c.in-Some.ensures c.loop-turn-test.true (omega arith)
    (call_in c.in-Calls.call) c.do_first-done.new.course.variables c.do_first-done.new.course.term c.do_first-done.new.course.view (rw c.in-Calls.is at c.in-Ok.ensures.done))

pub run_model-requires-clause-well : goal.run_model-requires-clause-well
run_model-requires-clause-well g c = λ v e.
    taken_there c.args.core.now c.args.scene.now (g.R.Runner.outcome c.args.runner.now) c.requires.scene_is c.requires.functions c.loop-turn.course.count c.loop-turn.course.variables c.loop-turn.course.term c.loop-turn.course.view
    _ c.args.out.now.items c.loop-turn.out.items c.args.course.view.left c.loop-turn.turn c.loop-turn.invariant.leads (g.R.Runner.allows c.args.runner.now) c.requires.fine
    (item_of c.in-Some.task.now) c.in-Some.ensures c.loop-turn-test.true (omega arith)
    (call_in c.in-Calls.call) c.do_first-done.new.course.variables c.do_first-done.new.course.term c.do_first-done.new.course.view (rw c.in-Calls.is at c.in-Ok.ensures.done) v
    ((λ k. exit_value (sym c.loop-turn.invariant.same_outcome k c.in-Calls.call.model c.in-Calls.call.arguments.items (seed_of c.args.scene.now.seed (sym c.in-Ok.ensures.count k))).verdict) ∙ e)

pub returns-in-Over : goal.returns-in-Over
returns-in-Over g c =
    let ran = rw (c.loop-turn.invariant.same_outcome, c.in-Ok.ensures.count) at c.in-Over.ensures.ran in
    let ends = ends_run c.args.core.now c.args.scene.now (g.R.Runner.outcome c.args.runner.now) c.requires.scene_is c.requires.functions c.loop-turn.course.count c.loop-turn.course.variables c.loop-turn.course.term c.loop-turn.course.view
    _ c.args.out.now.items c.loop-turn.out.items c.args.course.view.left c.loop-turn.turn c.loop-turn.invariant.leads (g.R.Runner.allows c.args.runner.now) c.requires.fine
    (item_of c.in-Some.task.now) c.in-Some.ensures c.loop-turn-test.true (omega arith)
    (call_in c.in-Calls.call) c.do_first-done.new.course.variables c.do_first-done.new.course.term c.do_first-done.new.course.view (rw c.in-Calls.is at c.in-Ok.ensures.done)
    c.in-Over.verdict c.in-Over.clock c.run_model.new.out.items ran.0 ran.1 ran.2 ran.3 in
    search (rules, ends)

pub returns-in-Stopped : goal.returns-in-Stopped
returns-in-Stopped g c =
    ends_after_run c.args.core.now c.args.scene.now (g.R.Runner.outcome c.args.runner.now) c.requires.scene_is c.requires.functions c.loop-turn.course.count c.loop-turn.course.variables c.loop-turn.course.term c.loop-turn.course.view
    _ c.args.out.now.items c.loop-turn.out.items c.args.course.view.left c.loop-turn.turn c.loop-turn.invariant.leads (g.R.Runner.allows c.args.runner.now) c.requires.fine
    (item_of c.in-Some.task.now) c.in-Some.ensures c.loop-turn-test.true (omega arith)
    (call_in c.in-Calls.call) c.do_first-done.new.course.variables c.do_first-done.new.course.term c.do_first-done.new.course.view (rw c.in-Calls.is at c.in-Ok.ensures.done)
    c.in-Stopped.stop c.stopped-in-Stopped.result c.line_of-line.result c.run_model.new.out.items c.line_of-line.ensures c.stopped-in-Stopped.ensures
    (rw (c.loop-turn.invariant.same_outcome, c.in-Ok.ensures.count) at c.in-Stopped.ensures.ran)

pub loop-turn-preserved : goal.loop-turn-preserved
loop-turn-preserved g c =
    let counted = c.loop-turn.invariant.counted in
    elim c.match-deed.branch [
      | in-Goes w ↦ rw (w.runner-is, w.out-is, w.course-is, c.in-Ok.ensures.count) (record {
        counted = omega (arith, counted);
        same_outcome = c.loop-turn.invariant.same_outcome;
        same_allowed = c.loop-turn.invariant.same_allowed;
        leads = leads_on c.args.core.now c.args.scene.now (g.R.Runner.outcome c.args.runner.now) c.requires.scene_is c.requires.functions c.loop-turn.course.count c.loop-turn.course.variables c.loop-turn.course.term c.loop-turn.course.view
            _ c.args.out.now.items c.loop-turn.out.items c.args.course.view.left c.loop-turn.turn c.loop-turn.invariant.leads (g.R.Runner.allows c.args.runner.now) c.requires.fine
            (item_of c.in-Some.task.now) c.in-Some.ensures c.loop-turn-test.true (omega arith)
            c.do_first-done.new.course.variables c.do_first-done.new.course.term c.do_first-done.new.course.view [] c.loop-turn.out.items (rw w.in-Goes.is at c.in-Ok.ensures.done) (sym (append-nil c.loop-turn.out.items));
      })
      | in-Writes+in-Ok-extend_from_slice w ↦ rw (w.runner-is, w.out-is, w.course-is, c.in-Ok.ensures.count) (record {
        counted = omega (arith, counted);
        same_outcome = c.loop-turn.invariant.same_outcome;
        same_allowed = c.loop-turn.invariant.same_allowed;
        leads = leads_on c.args.core.now c.args.scene.now (g.R.Runner.outcome c.args.runner.now) c.requires.scene_is c.requires.functions c.loop-turn.course.count c.loop-turn.course.variables c.loop-turn.course.term c.loop-turn.course.view
            _ c.args.out.now.items c.loop-turn.out.items c.args.course.view.left c.loop-turn.turn c.loop-turn.invariant.leads (g.R.Runner.allows c.args.runner.now) c.requires.fine
            (item_of c.in-Some.task.now) c.in-Some.ensures c.loop-turn-test.true (omega arith)
            c.do_first-done.new.course.variables c.do_first-done.new.course.term c.do_first-done.new.course.view w.in-Writes.text.items w.extend_from_slice.new.self.items (rw w.in-Writes.is at c.in-Ok.ensures.done)
            (w.in-Ok-extend_from_slice.ensures.items ∙ ap (λ l. c.loop-turn.out.items ++ l) w.as_slice.ensures.value);
      })
      | in-Calls+in-Took w ↦
          let ran = rw (c.loop-turn.invariant.same_outcome, c.in-Ok.ensures.count) at w.in-Took.ensures.ran in
          rw (w.runner-is, w.out-is, w.course-is, w.in-Took.ensures.term) (record {
            counted = omega (arith, counted);
            same_outcome = w.in-Took.ensures.same_outcome ∙ c.loop-turn.invariant.same_outcome;
            same_allowed = still_allowed _ _ _ w.in-Took.ensures.same_allowed c.loop-turn.invariant.same_allowed;
            leads = leads_taken c.args.core.now c.args.scene.now (g.R.Runner.outcome c.args.runner.now) c.requires.scene_is c.requires.functions c.loop-turn.course.count c.loop-turn.course.variables c.loop-turn.course.term c.loop-turn.course.view
                _ c.args.out.now.items c.loop-turn.out.items c.args.course.view.left c.loop-turn.turn c.loop-turn.invariant.leads (g.R.Runner.allows c.args.runner.now) c.requires.fine
                (item_of c.in-Some.task.now) c.in-Some.ensures c.loop-turn-test.true (omega arith)
                (call_in w.in-Calls.call) c.do_first-done.new.course.variables c.do_first-done.new.course.term c.do_first-done.new.course.view (rw w.in-Calls.is at c.in-Ok.ensures.done)
                w.run_model.new.course.variables w.run_model.new.course.view w.run_model.new.out.items ran.0 ran.1;
          })
    ]

pub returns-then-is_empty : goal.returns-then-is_empty
returns-then-is_empty g c =
    ends_done c.args.core.now c.args.scene.now (g.R.Runner.outcome c.args.runner.now) c.requires.scene_is c.requires.functions c.loop-turn.course.count c.loop-turn.course.variables c.loop-turn.course.term c.loop-turn.course.view
    _ c.args.out.now.items c.loop-turn.out.items c.args.course.view.left c.loop-turn.turn c.loop-turn.invariant.leads (c.is_empty.ensures.0 c.if-is_empty.true)

pub returns : goal.returns
returns g c =
    ends_last c.args.core.now c.args.scene.now (g.R.Runner.outcome c.args.runner.now) c.requires.scene_is c.requires.functions c.loop-turn.course.count c.loop-turn.course.variables c.loop-turn.course.term c.loop-turn.course.view
    _ c.args.out.now.items c.loop-turn.out.items c.args.course.view.left c.loop-turn.turn c.loop-turn.invariant.leads c.is_empty.result c.is_empty.ensures c.if-is_empty.false (omega (arith, c.loop-turn-test.false))
