use Rattle.std.proofs.Common.{drop, ◌≡◌, ◌-◌, ◌*◌, refl, ◌∙◌, ap, arith, length}
use Rattle.std.proofs.lemmas.Grind.{common_steps}
use denote.Param.Weighed.{most}
use Rattle.chi_core.specs.Answer.{Gives}
use Rattle.chi_core.specs.Terms.{Do, On, act_stat}
use Rattle.chi_core.specs.declared.statement.CStat.{out-CStat}
use Rattle.chi_core.specs.declared.expression.CExpr.{size-CExpr}
use Rattle.chi_core.specs.Functions.{exec}
use Rattle.std.specs.Prelude.{map}
use Rattle.chi_core.specs.Variables.{variables_of}
use Rattle.chi_plain_eval.specs.Terms.{came_to, act_first}
use Rattle.chi_plain_eval.specs.Calls.{more_in, run_by, meaning}
use Rattle.chi_plain_eval.specs.Spans.{item_span, branch_span, target_span, reach}
use Rattle.chi_plain_eval.specs.Surroundings.{scene_in}
use Rattle.chi_plain_eval.proofs.Acting.{declare_is, assign_is, if_is, while_is, for_is, return_first}
use Rattle.chi_plain_eval.proofs.Spans.{is_assign, is_declare, is_if, is_while, is_for, is_return, body_falls, act_sized, most_do, test_within}
use Rattle.chi_plain_eval.proofs.Choosing.{choose_first}
use Rattle.chi_plain_eval.proofs.Passing.{did_by, gives_by, gives_same, stops_by}
use Rattle.chi_plain_eval.proofs.Repeating.{repeat_count, repeat_many}
use Rattle.chi_plain_eval.proofs.Standing.{const_there, lit_is, var_is, const_is, op_is, and_is, or_is, build_is, part_is, call_is, insert_is, default_is, repeat_is}
use Rattle.chi_plain_eval.proofs.Turns.{body_is, turns_start, turn_goes, turn_gives}
use Rattle.chi_plain_eval.proofs.+eval.Goals as goal

pub items::act_on-declare-requires : goal.items::act_on-declare-requires
items::act_on-declare-requires t c = (
  omega (arith, is_declare _ _ _ _ c.in-Declare.is),
  λ n. c.requires (declare_is (meaning c.args.here.now c.args.variables.now) c.args.variables.now c.args.statement.now (drop 1 c.args.term.now) c.args.view.now _ c.in-Declare.slot c.in-Declare.e c.in-Declare.is ∙ n),
)

pub items::act_on-test_loop-requires : goal.items::act_on-test_loop-requires
items::act_on-test_loop-requires t c = (
  omega (arith, is_while _ _ _ _ c.in-While.is),
  λ n. c.requires (while_is (meaning c.args.here.now c.args.variables.now) c.args.variables.now c.args.statement.now (drop 1 c.args.term.now) c.args.view.now c.in-While.line c.in-While.test c.in-While.block _ c.in-While.is c.as_slice-turn.ensures.same ∙ n),
)

pub items::act_on-begin_walk-requires : goal.items::act_on-begin_walk-requires
items::act_on-begin_walk-requires t c = (
  omega (arith, is_for _ _ _ _ _ c.in-For.is),
  λ n. c.requires (for_is (meaning c.args.here.now c.args.variables.now) c.args.variables.now c.args.statement.now (drop 1 c.args.term.now) c.args.view.now c.in-For.line c.in-For.slots _ c.in-For.e c.in-For.block _ c.in-For.is c.as_slice-names.ensures.same c.as_slice-turn-in-For.ensures.same ∙ n),
)

pub items::act_on-eval-requires : goal.items::act_on-eval-requires
items::act_on-eval-requires t c = (omega (arith, is_return _ _ _ c.in-Return.is), return_first _ _ _ _ _ _ _ c.in-Return.is c.requires)

pub items::act_on-choose-requires : goal.items::act_on-choose-requires
items::act_on-choose-requires t c = (
  omega (arith, is_if _ _ _ _ c.in-If.is, ap (most branch_span) c.as_slice-tests.ensures.same),
  λ n. c.requires (if_is (meaning c.args.here.now c.args.variables.now) c.args.variables.now c.args.statement.now (drop 1 c.args.term.now) c.args.view.now _ c.in-If.branches _ c.in-If.otherwise _ c.in-If.is c.as_slice-tests.ensures.same c.as_slice-last.ensures.same ∙ n),
)

pub items::act_on-assign-requires : goal.items::act_on-assign-requires
items::act_on-assign-requires t c = (
  omega (arith, is_assign _ _ _ _ c.in-Assign.is, ap (most target_span) c.as_slice-places.ensures.same, ap (most size-CExpr) c.as_slice-expressions.ensures.same),
  λ n. c.requires (assign_is (meaning c.args.here.now c.args.variables.now) c.args.variables.now c.args.statement.now (drop 1 c.args.term.now) c.args.view.now _ c.in-Assign.targets _ c.in-Assign.values _ c.in-Assign.is c.as_slice-places.ensures.same c.as_slice-expressions.ensures.same ∙ n),
)

pub bodies::call-run_body-requires : goal.bodies::call-run_body-requires
bodies::call-run_body-requires t c = (
  omega (
    arith,
    ap (λ calls. more_in calls * reach c.args.here.now.surroundings.now.functions.now) c.in-Within.is,
    ap (λ calls. more_in calls * reach c.args.here.now.surroundings.now.functions.now) c.within-inner.ensures,
    body_falls c.args.here.now.surroundings.now.functions.now c.args.number c.len.result c.in-Within.more c.function-f.result.now c.as_slice-body.result.now (omega arith)
        c.function-f.ensures c.as_slice-body.ensures.same,
  ),
  λ a. let n : c.len.result ≡ length c.args.arguments.items = grind (arith, common_steps) in
      c.requires (body_is c.args.here.now.room.calls c.args.here.now.surroundings.now c.args.number c.args.arguments.items c.args.view.now c.in-Within.more (c.in-Within.more - 1) c.len.result c.function-f.result.now
      c.in_ok-variables-in-Within.variables c.as_slice-body.result.now c.in-Within.is (omega arith) c.within-inner.result.calls c.within-inner.ensures refl n c.function-f.ensures
      (c.in_ok-variables-in-Within.ensures ∙ ap (λ k. variables_of k c.args.arguments.items) (ap length c.as_slice.ensures.same)) c.as_slice-body.ensures.same ∙ a),
)

pub bodies::run_body-loop-turn-init : goal.bodies::run_body-loop-turn-init
bodies::run_body-loop-turn-init t c = (
  omega (arith, ap (most item_span) c.in_ok-term.ensures, most_do c.args.body.now),
  turns_start _ _ _ _ _ _ _ c.in_ok-term.ensures,
)

pub bodies::run_body-returns-in-Some-clause-value : goal.bodies::run_body-returns-in-Some-clause-value
bodies::run_body-returns-in-Some-clause-value t c =
    turn_gives (run_by c.args.here.now) (scene_in c.args.here.now.surroundings.now) c.loop-turn.variables c.loop-turn.term c.loop-turn.view _ c.args.view.now.left c.loop-turn.turn c.is_empty.result
    _ c.in-Some.value c.act.new.variables c.act.new.term c.act.new.view c.is_empty.ensures c.if-is_empty.false (omega arith) (omega arith) c.loop-turn.invariant.1 c.in_ok-value.ensures.value c.in-Some.is

pub bodies::run_body-loop-turn-preserved : goal.bodies::run_body-loop-turn-preserved
bodies::run_body-loop-turn-preserved t c =
    let does : act_first (meaning c.args.here.now c.loop-turn.variables) c.loop-turn.variables c.loop-turn.term (record c.loop-turn.view { left = c.loop-turn.view.left - 1 })
    ≡ Gives (On c.act.new.variables c.act.new.term) c.act.new.view
    = c.in_ok-value.ensures.value ∙ ap (λ r. Gives (came_to r c.act.new.variables c.act.new.term) c.act.new.view) c.in-None.is
    in (
      omega (
        arith,
        act_sized (meaning c.args.here.now c.loop-turn.variables) c.loop-turn.variables c.act.new.variables c.loop-turn.term c.act.new.term
            (record c.loop-turn.view { left = c.loop-turn.view.left - 1 }) c.act.new.view does,
        c.loop-turn.invariant.0,
      ),
      turn_goes (run_by c.args.here.now) (scene_in c.args.here.now.surroundings.now) c.loop-turn.variables c.loop-turn.term c.loop-turn.view
          (exec c.args.view.now.left (run_by c.args.here.now) (scene_in c.args.here.now.surroundings.now) c.args.variables.now (map Do c.args.body.now) c.args.view.now)
          c.args.view.now.left c.loop-turn.turn c.is_empty.result c.in_ok-value.field-0 c.act.new.variables c.act.new.term c.act.new.view
          c.is_empty.ensures c.if-is_empty.false (omega arith) (omega arith) c.loop-turn.invariant.1 c.in_ok-value.ensures.value c.in-None.is,
    )

pub items::choose-eval-requires : goal.items::choose-eval-requires
items::choose-eval-requires t c = (
  omega (arith, test_within c.args.branches.now c.loop-branch.branch-index c.branch-item.result c.loop-branch-test.true c.branch-item.is),
  choose_first (meaning c.args.here.now c.args.variables.now) c.args.variables.now c.args.branches.now c.args.otherwise.now (drop 1 c.loop-branch.term) c.loop-branch.view
      c.loop-branch.branch-index c.branch-item.result c.loop-branch-test.true c.branch-item.is c.loop-branch.invariant.1,
)

pub expressions::eval_within-returns-in-Lit-clause-value : goal.expressions::eval_within-returns-in-Lit-clause-value
expressions::eval_within-returns-in-Lit-clause-value t c = gives_same c.copy_of.result c.args.view.now ((meaning c.args.here.now c.args.variables.now) c.args.e.now c.args.view.now) c.in-Lit.value (lit_is (run_by c.args.here.now) (scene_in c.args.here.now.surroundings.now) c.args.variables.now c.args.view.now c.args.e.now c.in-Lit.value c.in-Lit.is) c.copy_of.ensures.value

pub expressions::eval_within-returns-in-Var-clause-value : goal.expressions::eval_within-returns-in-Var-clause-value
expressions::eval_within-returns-in-Var-clause-value t c = gives_same c.copy_of-in-Var.result c.args.view.now ((meaning c.args.here.now c.args.variables.now) c.args.e.now c.args.view.now) c.get.result.now (var_is (run_by c.args.here.now) (scene_in c.args.here.now.surroundings.now) c.args.variables.now c.args.view.now c.args.e.now c.in-Var.slot c.get.result.now c.in-Var.is c.get.ensures) c.copy_of-in-Var.ensures.value

pub expressions::eval_within-returns-in-Const-clause-value : goal.expressions::eval_within-returns-in-Const-clause-value
expressions::eval_within-returns-in-Const-clause-value t c = gives_same c.copy_of-in-Const.result c.args.view.now ((meaning c.args.here.now c.args.variables.now) c.args.e.now c.args.view.now) c.constant.result.now (const_is (run_by c.args.here.now) (scene_in c.args.here.now.surroundings.now) c.args.variables.now c.args.view.now c.args.e.now c.in-Const.number c.constant.result.now c.in-Const.is c.constant.ensures) c.copy_of-in-Const.ensures.value

pub expressions::eval_within-returns-in-Op-clause-value : goal.expressions::eval_within-returns-in-Op-clause-value
expressions::eval_within-returns-in-Op-clause-value t c = gives_by c.operate.result c.operate.new.view ((meaning c.args.here.now c.args.variables.now) c.args.e.now c.args.view.now) _ (op_is (run_by c.args.here.now) (scene_in c.args.here.now.surroundings.now) c.args.variables.now c.args.view.now c.args.e.now c.in-Op.name c.in-Op.parts c.as_slice.result.now c.in-Op.is c.as_slice.ensures.same) c.operate.ensures.value

pub expressions::eval_within-returns-in-Op-clause-stops : goal.expressions::eval_within-returns-in-Op-clause-stops
expressions::eval_within-returns-in-Op-clause-stops t c = stops_by c.operate.result ((meaning c.args.here.now c.args.variables.now) c.args.e.now c.args.view.now) _ (op_is (run_by c.args.here.now) (scene_in c.args.here.now.surroundings.now) c.args.variables.now c.args.view.now c.args.e.now c.in-Op.name c.in-Op.parts c.as_slice.result.now c.in-Op.is c.as_slice.ensures.same) c.operate.ensures.stops

pub expressions::eval_within-returns-in-And-clause-value : goal.expressions::eval_within-returns-in-And-clause-value
expressions::eval_within-returns-in-And-clause-value t c = gives_by c.second_where.result c.second_where.new.view ((meaning c.args.here.now c.args.variables.now) c.args.e.now c.args.view.now) _ (and_is (run_by c.args.here.now) (scene_in c.args.here.now.surroundings.now) c.args.variables.now c.args.view.now c.args.e.now c.in-And.a c.in-And.b c.get-in-And.result.now c.get-in-And-2.result.now c.in-And.is c.get-in-And.ensures.same c.get-in-And-2.ensures.same) c.second_where.ensures.value

pub expressions::eval_within-returns-in-And-clause-stops : goal.expressions::eval_within-returns-in-And-clause-stops
expressions::eval_within-returns-in-And-clause-stops t c = stops_by c.second_where.result ((meaning c.args.here.now c.args.variables.now) c.args.e.now c.args.view.now) _ (and_is (run_by c.args.here.now) (scene_in c.args.here.now.surroundings.now) c.args.variables.now c.args.view.now c.args.e.now c.in-And.a c.in-And.b c.get-in-And.result.now c.get-in-And-2.result.now c.in-And.is c.get-in-And.ensures.same c.get-in-And-2.ensures.same) c.second_where.ensures.stops

pub expressions::eval_within-returns-in-Or-clause-value : goal.expressions::eval_within-returns-in-Or-clause-value
expressions::eval_within-returns-in-Or-clause-value t c = gives_by c.second_where-in-Or.result c.second_where-in-Or.new.view ((meaning c.args.here.now c.args.variables.now) c.args.e.now c.args.view.now) _ (or_is (run_by c.args.here.now) (scene_in c.args.here.now.surroundings.now) c.args.variables.now c.args.view.now c.args.e.now c.in-Or.a c.in-Or.b c.get-in-Or.result.now c.get-in-Or-2.result.now c.in-Or.is c.get-in-Or.ensures.same c.get-in-Or-2.ensures.same) c.second_where-in-Or.ensures.value

pub expressions::eval_within-returns-in-Or-clause-stops : goal.expressions::eval_within-returns-in-Or-clause-stops
expressions::eval_within-returns-in-Or-clause-stops t c = stops_by c.second_where-in-Or.result ((meaning c.args.here.now c.args.variables.now) c.args.e.now c.args.view.now) _ (or_is (run_by c.args.here.now) (scene_in c.args.here.now.surroundings.now) c.args.variables.now c.args.view.now c.args.e.now c.in-Or.a c.in-Or.b c.get-in-Or.result.now c.get-in-Or-2.result.now c.in-Or.is c.get-in-Or.ensures.same c.get-in-Or-2.ensures.same) c.second_where-in-Or.ensures.stops

pub expressions::eval_within-returns-in-Build-clause-value : goal.expressions::eval_within-returns-in-Build-clause-value
expressions::eval_within-returns-in-Build-clause-value t c = gives_by c.build.result c.build.new.view ((meaning c.args.here.now c.args.variables.now) c.args.e.now c.args.view.now) _ (build_is (run_by c.args.here.now) (scene_in c.args.here.now.surroundings.now) c.args.variables.now c.args.view.now c.args.e.now c.in-Build.kind c.in-Build.parts c.as_slice-in-Build.result.now c.in-Build.is c.as_slice-in-Build.ensures.same) c.build.ensures.value

pub expressions::eval_within-returns-in-Build-clause-stops : goal.expressions::eval_within-returns-in-Build-clause-stops
expressions::eval_within-returns-in-Build-clause-stops t c = stops_by c.build.result ((meaning c.args.here.now c.args.variables.now) c.args.e.now c.args.view.now) _ (build_is (run_by c.args.here.now) (scene_in c.args.here.now.surroundings.now) c.args.variables.now c.args.view.now c.args.e.now c.in-Build.kind c.in-Build.parts c.as_slice-in-Build.result.now c.in-Build.is c.as_slice-in-Build.ensures.same) c.build.ensures.stops

pub expressions::eval_within-returns-in-Part-clause-value : goal.expressions::eval_within-returns-in-Part-clause-value
expressions::eval_within-returns-in-Part-clause-value t c = gives_by c.part.result c.part.new.view ((meaning c.args.here.now c.args.variables.now) c.args.e.now c.args.view.now) _ (part_is (run_by c.args.here.now) (scene_in c.args.here.now.surroundings.now) c.args.variables.now c.args.view.now c.args.e.now c.in-Part.a c.get-in-Part.result.now c.in-Part.number c.in-Part.is c.get-in-Part.ensures.same) c.part.ensures.value

pub expressions::eval_within-returns-in-Part-clause-stops : goal.expressions::eval_within-returns-in-Part-clause-stops
expressions::eval_within-returns-in-Part-clause-stops t c = stops_by c.part.result ((meaning c.args.here.now c.args.variables.now) c.args.e.now c.args.view.now) _ (part_is (run_by c.args.here.now) (scene_in c.args.here.now.surroundings.now) c.args.variables.now c.args.view.now c.args.e.now c.in-Part.a c.get-in-Part.result.now c.in-Part.number c.in-Part.is c.get-in-Part.ensures.same) c.part.ensures.stops

pub expressions::eval_within-returns-in-Call-clause-value : goal.expressions::eval_within-returns-in-Call-clause-value
expressions::eval_within-returns-in-Call-clause-value t c = gives_by c.call_with.result c.call_with.new.view ((meaning c.args.here.now c.args.variables.now) c.args.e.now c.args.view.now) _ (call_is (run_by c.args.here.now) (scene_in c.args.here.now.surroundings.now) c.args.variables.now c.args.view.now c.args.e.now c.in-Call.number c.in-Call.parts c.as_slice-in-Call.result.now c.in-Call.is c.as_slice-in-Call.ensures.same) c.call_with.ensures.value

pub expressions::eval_within-returns-in-Call-clause-stops : goal.expressions::eval_within-returns-in-Call-clause-stops
expressions::eval_within-returns-in-Call-clause-stops t c = stops_by c.call_with.result ((meaning c.args.here.now c.args.variables.now) c.args.e.now c.args.view.now) _ (call_is (run_by c.args.here.now) (scene_in c.args.here.now.surroundings.now) c.args.variables.now c.args.view.now c.args.e.now c.in-Call.number c.in-Call.parts c.as_slice-in-Call.result.now c.in-Call.is c.as_slice-in-Call.ensures.same) c.call_with.ensures.stops

pub expressions::eval_within-returns-in-InsertBy-clause-value : goal.expressions::eval_within-returns-in-InsertBy-clause-value
expressions::eval_within-returns-in-InsertBy-clause-value t c = gives_by c.insert_by.result c.insert_by.new.view ((meaning c.args.here.now c.args.variables.now) c.args.e.now c.args.view.now) _ (insert_is (run_by c.args.here.now) (scene_in c.args.here.now.surroundings.now) c.args.variables.now c.args.view.now c.args.e.now c.in-InsertBy.a c.in-InsertBy.b c.get-in-InsertBy.result.now c.get-in-InsertBy-2.result.now c.in-InsertBy.number c.in-InsertBy.is c.get-in-InsertBy.ensures.same c.get-in-InsertBy-2.ensures.same) c.insert_by.ensures.value

pub expressions::eval_within-returns-in-InsertBy-clause-stops : goal.expressions::eval_within-returns-in-InsertBy-clause-stops
expressions::eval_within-returns-in-InsertBy-clause-stops t c = stops_by c.insert_by.result ((meaning c.args.here.now c.args.variables.now) c.args.e.now c.args.view.now) _ (insert_is (run_by c.args.here.now) (scene_in c.args.here.now.surroundings.now) c.args.variables.now c.args.view.now c.args.e.now c.in-InsertBy.a c.in-InsertBy.b c.get-in-InsertBy.result.now c.get-in-InsertBy-2.result.now c.in-InsertBy.number c.in-InsertBy.is c.get-in-InsertBy.ensures.same c.get-in-InsertBy-2.ensures.same) c.insert_by.ensures.stops

pub expressions::eval_within-returns-in-Default-clause-value : goal.expressions::eval_within-returns-in-Default-clause-value
expressions::eval_within-returns-in-Default-clause-value t c = gives_by c.fresh_of.result c.fresh_of.new.view ((meaning c.args.here.now c.args.variables.now) c.args.e.now c.args.view.now) _ (default_is (run_by c.args.here.now) (scene_in c.args.here.now.surroundings.now) c.args.variables.now c.args.view.now c.args.e.now c.in-Default.shape c.in-Default.is) c.fresh_of.ensures.value

pub expressions::eval_within-returns-in-Default-clause-stops : goal.expressions::eval_within-returns-in-Default-clause-stops
expressions::eval_within-returns-in-Default-clause-stops t c = stops_by c.fresh_of.result ((meaning c.args.here.now c.args.variables.now) c.args.e.now c.args.view.now) _ (default_is (run_by c.args.here.now) (scene_in c.args.here.now.surroundings.now) c.args.variables.now c.args.view.now c.args.e.now c.in-Default.shape c.in-Default.is) c.fresh_of.ensures.stops

pub expressions::eval_within-returns-in-Repeat-clause-value : goal.expressions::eval_within-returns-in-Repeat-clause-value
expressions::eval_within-returns-in-Repeat-clause-value t c = gives_by c.repeat_each.result c.repeat_each.new.view ((meaning c.args.here.now c.args.variables.now) c.args.e.now c.args.view.now) _ (repeat_is (run_by c.args.here.now) (scene_in c.args.here.now.surroundings.now) c.args.variables.now c.args.view.now c.args.e.now c.in-Repeat.count c.in-Repeat.each c.get-in-Repeat.result.now c.get-in-Repeat-2.result.now c.in-Repeat.is c.get-in-Repeat.ensures.same c.get-in-Repeat-2.ensures.same) c.repeat_each.ensures.value

pub expressions::eval_within-returns-in-Repeat-clause-stops : goal.expressions::eval_within-returns-in-Repeat-clause-stops
expressions::eval_within-returns-in-Repeat-clause-stops t c = stops_by c.repeat_each.result ((meaning c.args.here.now c.args.variables.now) c.args.e.now c.args.view.now) _ (repeat_is (run_by c.args.here.now) (scene_in c.args.here.now.surroundings.now) c.args.variables.now c.args.view.now c.args.e.now c.in-Repeat.count c.in-Repeat.each c.get-in-Repeat.result.now c.get-in-Repeat-2.result.now c.in-Repeat.is c.get-in-Repeat.ensures.same c.get-in-Repeat-2.ensures.same) c.repeat_each.ensures.stops

pub expressions::eval_within-constant-requires : goal.expressions::eval_within-constant-requires
expressions::eval_within-constant-requires t c = const_there (run_by c.args.here.now) (scene_in c.args.here.now.surroundings.now) c.args.variables.now c.args.view.now c.args.e.now c.in-Const.number c.in-Const.is c.requires

pub literals::repeat_each-returns-in-None-clause-stops : goal.literals::repeat_each-returns-in-None-clause-stops
literals::repeat_each-returns-in-None-clause-stops t c =
    repeat_many (meaning c.args.here.now c.args.variables.now) c.args.count.now c.args.each.now c.args.view.now c.in_ok-n.n c.eval.new.view c.in_ok-n.ensures.value
    (repeat_count (meaning c.args.here.now c.args.variables.now) c.args.count.now c.args.each.now c.args.view.now c.in_ok-n.n c.eval.new.view c.in_ok-n.ensures.value c.requires) c.in-None.ensures.many

pub bodies::call-returns-clause-value : goal.bodies::call-returns-clause-value
bodies::call-returns-clause-value t c =
    let n : c.len.result ≡ length c.args.arguments.items = grind (arith, common_steps) in
    let is = body_is c.args.here.now.room.calls c.args.here.now.surroundings.now c.args.number c.args.arguments.items c.args.view.now c.in-Within.more (c.in-Within.more - 1) c.len.result c.function-f.result.now
    c.in_ok-variables-in-Within.variables c.as_slice-body.result.now c.in-Within.is (omega arith) c.within-inner.result.calls c.within-inner.ensures refl n c.function-f.ensures
    (c.in_ok-variables-in-Within.ensures ∙ ap (λ k. variables_of k c.args.arguments.items) (ap length c.as_slice.ensures.same)) c.as_slice-body.ensures.same in
    gives_by c.run_body.result c.run_body.new.view (run_by c.args.here.now c.args.number c.args.arguments.items c.args.view.now) _ is c.run_body.ensures.value

pub bodies::call-returns-clause-stops : goal.bodies::call-returns-clause-stops
bodies::call-returns-clause-stops t c =
    let n : c.len.result ≡ length c.args.arguments.items = grind (arith, common_steps) in
    let is = body_is c.args.here.now.room.calls c.args.here.now.surroundings.now c.args.number c.args.arguments.items c.args.view.now c.in-Within.more (c.in-Within.more - 1) c.len.result c.function-f.result.now
    c.in_ok-variables-in-Within.variables c.as_slice-body.result.now c.in-Within.is (omega arith) c.within-inner.result.calls c.within-inner.ensures refl n c.function-f.ensures
    (c.in_ok-variables-in-Within.ensures ∙ ap (λ k. variables_of k c.args.arguments.items) (ap length c.as_slice.ensures.same)) c.as_slice-body.ensures.same in
    stops_by c.run_body.result (run_by c.args.here.now c.args.number c.args.arguments.items c.args.view.now) _ is c.run_body.ensures.stops

pub items::act_on-returns-in-Declare-clause-value : goal.items::act_on-returns-in-Declare-clause-value
items::act_on-returns-in-Declare-clause-value t c = did_by c.declare.result c.declare.new.variables c.declare.new.term c.declare.new.view (act_stat (meaning c.args.here.now c.args.variables.now) c.args.variables.now (out-CStat c.args.statement.now) (drop 1 c.args.term.now) c.args.view.now) _ (declare_is (meaning c.args.here.now c.args.variables.now) c.args.variables.now c.args.statement.now (drop 1 c.args.term.now) c.args.view.now _ c.in-Declare.slot c.in-Declare.e c.in-Declare.is) c.declare.ensures.value

pub items::act_on-returns-in-Declare-clause-stops : goal.items::act_on-returns-in-Declare-clause-stops
items::act_on-returns-in-Declare-clause-stops t c = stops_by c.declare.result (act_stat (meaning c.args.here.now c.args.variables.now) c.args.variables.now (out-CStat c.args.statement.now) (drop 1 c.args.term.now) c.args.view.now) _ (declare_is (meaning c.args.here.now c.args.variables.now) c.args.variables.now c.args.statement.now (drop 1 c.args.term.now) c.args.view.now _ c.in-Declare.slot c.in-Declare.e c.in-Declare.is) c.declare.ensures.stops

pub items::act_on-returns-in-Assign-clause-value : goal.items::act_on-returns-in-Assign-clause-value
items::act_on-returns-in-Assign-clause-value t c = did_by c.assign.result c.assign.new.variables c.assign.new.term c.assign.new.view (act_stat (meaning c.args.here.now c.args.variables.now) c.args.variables.now (out-CStat c.args.statement.now) (drop 1 c.args.term.now) c.args.view.now) _ (assign_is (meaning c.args.here.now c.args.variables.now) c.args.variables.now c.args.statement.now (drop 1 c.args.term.now) c.args.view.now _ c.in-Assign.targets _ c.in-Assign.values _ c.in-Assign.is c.as_slice-places.ensures.same c.as_slice-expressions.ensures.same) c.assign.ensures.value

pub items::act_on-returns-in-Assign-clause-stops : goal.items::act_on-returns-in-Assign-clause-stops
items::act_on-returns-in-Assign-clause-stops t c = stops_by c.assign.result (act_stat (meaning c.args.here.now c.args.variables.now) c.args.variables.now (out-CStat c.args.statement.now) (drop 1 c.args.term.now) c.args.view.now) _ (assign_is (meaning c.args.here.now c.args.variables.now) c.args.variables.now c.args.statement.now (drop 1 c.args.term.now) c.args.view.now _ c.in-Assign.targets _ c.in-Assign.values _ c.in-Assign.is c.as_slice-places.ensures.same c.as_slice-expressions.ensures.same) c.assign.ensures.stops

pub items::act_on-returns-in-If-clause-value : goal.items::act_on-returns-in-If-clause-value
items::act_on-returns-in-If-clause-value t c = did_by c.choose.result c.args.variables.now c.choose.new.term c.choose.new.view (act_stat (meaning c.args.here.now c.args.variables.now) c.args.variables.now (out-CStat c.args.statement.now) (drop 1 c.args.term.now) c.args.view.now) _ (if_is (meaning c.args.here.now c.args.variables.now) c.args.variables.now c.args.statement.now (drop 1 c.args.term.now) c.args.view.now _ c.in-If.branches _ c.in-If.otherwise _ c.in-If.is c.as_slice-tests.ensures.same c.as_slice-last.ensures.same) c.choose.ensures.value

pub items::act_on-returns-in-If-clause-stops : goal.items::act_on-returns-in-If-clause-stops
items::act_on-returns-in-If-clause-stops t c = stops_by c.choose.result (act_stat (meaning c.args.here.now c.args.variables.now) c.args.variables.now (out-CStat c.args.statement.now) (drop 1 c.args.term.now) c.args.view.now) _ (if_is (meaning c.args.here.now c.args.variables.now) c.args.variables.now c.args.statement.now (drop 1 c.args.term.now) c.args.view.now _ c.in-If.branches _ c.in-If.otherwise _ c.in-If.is c.as_slice-tests.ensures.same c.as_slice-last.ensures.same) c.choose.ensures.stops

pub items::act_on-returns-in-While-clause-value : goal.items::act_on-returns-in-While-clause-value
items::act_on-returns-in-While-clause-value t c = did_by c.test_loop.result c.args.variables.now c.test_loop.new.term c.test_loop.new.view (act_stat (meaning c.args.here.now c.args.variables.now) c.args.variables.now (out-CStat c.args.statement.now) (drop 1 c.args.term.now) c.args.view.now) _ (while_is (meaning c.args.here.now c.args.variables.now) c.args.variables.now c.args.statement.now (drop 1 c.args.term.now) c.args.view.now c.in-While.line c.in-While.test c.in-While.block _ c.in-While.is c.as_slice-turn.ensures.same) c.test_loop.ensures.value

pub items::act_on-returns-in-While-clause-stops : goal.items::act_on-returns-in-While-clause-stops
items::act_on-returns-in-While-clause-stops t c = stops_by c.test_loop.result (act_stat (meaning c.args.here.now c.args.variables.now) c.args.variables.now (out-CStat c.args.statement.now) (drop 1 c.args.term.now) c.args.view.now) _ (while_is (meaning c.args.here.now c.args.variables.now) c.args.variables.now c.args.statement.now (drop 1 c.args.term.now) c.args.view.now c.in-While.line c.in-While.test c.in-While.block _ c.in-While.is c.as_slice-turn.ensures.same) c.test_loop.ensures.stops

pub items::act_on-returns-in-For-clause-value : goal.items::act_on-returns-in-For-clause-value
items::act_on-returns-in-For-clause-value t c = did_by c.begin_walk.result c.args.variables.now c.begin_walk.new.term c.begin_walk.new.view (act_stat (meaning c.args.here.now c.args.variables.now) c.args.variables.now (out-CStat c.args.statement.now) (drop 1 c.args.term.now) c.args.view.now) _ (for_is (meaning c.args.here.now c.args.variables.now) c.args.variables.now c.args.statement.now (drop 1 c.args.term.now) c.args.view.now c.in-For.line c.in-For.slots _ c.in-For.e c.in-For.block _ c.in-For.is c.as_slice-names.ensures.same c.as_slice-turn-in-For.ensures.same) c.begin_walk.ensures.value

pub items::act_on-returns-in-For-clause-stops : goal.items::act_on-returns-in-For-clause-stops
items::act_on-returns-in-For-clause-stops t c = stops_by c.begin_walk.result (act_stat (meaning c.args.here.now c.args.variables.now) c.args.variables.now (out-CStat c.args.statement.now) (drop 1 c.args.term.now) c.args.view.now) _ (for_is (meaning c.args.here.now c.args.variables.now) c.args.variables.now c.args.statement.now (drop 1 c.args.term.now) c.args.view.now c.in-For.line c.in-For.slots _ c.in-For.e c.in-For.block _ c.in-For.is c.as_slice-names.ensures.same c.as_slice-turn-in-For.ensures.same) c.begin_walk.ensures.stops

pub expressions::eval_off-returns-in-Op-clause-value : goal.expressions::eval_off-returns-in-Op-clause-value
expressions::eval_off-returns-in-Op-clause-value t c = gives_by c.operate_off.result c.operate_off.new.view ((meaning c.args.here.now c.args.variables.now) c.args.e.now c.args.view.now) _ (op_is (run_by c.args.here.now) (scene_in c.args.here.now.surroundings.now) c.args.variables.now c.args.view.now c.args.e.now c.in-Op.name c.in-Op.parts c.as_slice-operands.result.now c.in-Op.is c.as_slice-operands.ensures.same) c.operate_off.ensures.value

pub expressions::eval_off-returns-in-Op-clause-stops : goal.expressions::eval_off-returns-in-Op-clause-stops
expressions::eval_off-returns-in-Op-clause-stops t c = stops_by c.operate_off.result ((meaning c.args.here.now c.args.variables.now) c.args.e.now c.args.view.now) _ (op_is (run_by c.args.here.now) (scene_in c.args.here.now.surroundings.now) c.args.variables.now c.args.view.now c.args.e.now c.in-Op.name c.in-Op.parts c.as_slice-operands.result.now c.in-Op.is c.as_slice-operands.ensures.same) c.operate_off.ensures.stops

pub expressions::eval_off-returns-in-InsertBy-clause-value : goal.expressions::eval_off-returns-in-InsertBy-clause-value
expressions::eval_off-returns-in-InsertBy-clause-value t c = gives_by c.insert_off.result c.insert_off.new.view ((meaning c.args.here.now c.args.variables.now) c.args.e.now c.args.view.now) _ (insert_is (run_by c.args.here.now) (scene_in c.args.here.now.surroundings.now) c.args.variables.now c.args.view.now c.args.e.now c.in-InsertBy.a c.in-InsertBy.b c.get-list.result.now c.get-element.result.now c.in-InsertBy.number c.in-InsertBy.is c.get-list.ensures.same c.get-element.ensures.same) c.insert_off.ensures.value

pub expressions::eval_off-returns-in-InsertBy-clause-stops : goal.expressions::eval_off-returns-in-InsertBy-clause-stops
expressions::eval_off-returns-in-InsertBy-clause-stops t c = stops_by c.insert_off.result ((meaning c.args.here.now c.args.variables.now) c.args.e.now c.args.view.now) _ (insert_is (run_by c.args.here.now) (scene_in c.args.here.now.surroundings.now) c.args.variables.now c.args.view.now c.args.e.now c.in-InsertBy.a c.in-InsertBy.b c.get-list.result.now c.get-element.result.now c.in-InsertBy.number c.in-InsertBy.is c.get-list.ensures.same c.get-element.ensures.same) c.insert_off.ensures.stops
