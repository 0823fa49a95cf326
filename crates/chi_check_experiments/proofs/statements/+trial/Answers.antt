use Rattle.std.proofs.Common.{◌+◌, List, map, drop, refl, sym, ap, ◌∙◌, arith, true}
use Rattle.std.proofs.lemmas.Grind.{common_steps}
use Rattle.std.proofs.lemmas.Result.{IfOk-weaker, on_ok_weaker}
use Rattle.chi_tree.specs.declared.statement.Branch.{Branch}
use Rattle.chi_core.specs.declared.experiment.XStat.{XStat}
use Rattle.chi_check_types.specs.Faults.{first_of}
use Rattle.chi_check_stat_rules.specs.declared.home.Home.TheVariants.{Experiment}
use Rattle.chi_check_stat_lines.specs.declared.state.Binder.TheVariants as binder
use Rattle.chi_check_stat_lines.specs.declared.state.State.{State}
use Rattle.chi_check_stat_lines.specs.Stated.{Stated, in_turn, joined}
use Rattle.chi_check_stat_lines.specs.States.{block}
use Rattle.chi_check_stat_lines.specs.Values.{test_in}
use Rattle.chi_check_stat_lines.specs.Declarations.{walk_in}
use Rattle.chi_check_stat_lines.proofs.Turns.{step_next, step_made, step_noted, end_next, end_made, end_noted}
use Rattle.chi_check_experiments.specs.Experiments.{chosen, looped, walked, trying_in, branch_tried_in}
use Rattle.chi_check_experiments.proofs.TrialFolds.{step_is, one_lined}
use Rattle.chi_check_experiments.proofs.TrialSteps.{next_declare, made_declare, noted_declare, next_assign, made_assign, noted_assign, next_communicate, made_communicate, noted_communicate, next_pass, made_pass, noted_pass, next_break, made_break, noted_break, next_continue, made_continue, noted_continue, next_select, made_select, noted_select, next_if, made_if, noted_if, next_while, made_while, noted_while, next_for, made_for, noted_for, next_return, made_return, noted_return, next_exit, made_exit, noted_exit, next_run, made_run, noted_run, next_start, made_start, noted_start, next_finish, made_finish, noted_finish, next_write, made_write, noted_write, next_branch, made_branch, noted_branch}
use Rattle.chi_check_experiments.proofs.statements.+trial.Goals as goal

pub check_trials-loop-step-preserved : goal.check_trials-loop-step-preserved
check_trials-loop-step-preserved t c =
    let l = c.loop-step in
    let x = c.step-item.result in
    let r = c.in_ok-made.ensures in
    let e = step_is x c.args.loops l.state in
    record {
      next = step_next (map (trying_in c.args.loops)) c.args.steps.now _ l.step-index l.state _ x (trying_in c.args.loops x) (map (trying_in c.args.loops) (drop (l.step-index + 1) c.args.steps.now)) l.invariant.next c.loop-step-test.true c.step-item.is (refl) (r.next ∙ ap (λ (t : Stated State (List XStat)). t.next) (sym e));
      made = step_made (map (trying_in c.args.loops)) c.args.steps.now _ l.step-index l.state _ l.all _ x (trying_in c.args.loops x) (map (trying_in c.args.loops) (drop (l.step-index + 1) c.args.steps.now)) l.invariant.made c.loop-step-test.true c.step-item.is (refl) (r.next ∙ ap (λ (t : Stated State (List XStat)). t.next) (sym e)) (c.in_ok-all-2.ensures ∙ ap (joined l.all) (r.made ∙ ap (λ (t : Stated State (List XStat)). t.made) (sym e)));
      noted = step_noted (map (trying_in c.args.loops)) c.args.steps.now _ l.step-index l.state _ l.kept _ x (trying_in c.args.loops x) (map (trying_in c.args.loops) (drop (l.step-index + 1) c.args.steps.now)) l.invariant.noted c.loop-step-test.true c.step-item.is (refl) (r.next ∙ ap (λ (t : Stated State (List XStat)). t.next) (sym e)) (r.noted ∙ ap (λ (t : Stated State (List XStat)). first_of l.kept t.faults) (sym e));
    }

pub check_trials-returns-clause-next : goal.check_trials-returns-clause-next
check_trials-returns-clause-next t c =
    let l = c.loop-step in
    sym (l.invariant.next ∙ end_next (map (trying_in c.args.loops)) c.args.steps.now l.step-index l.state (omega arith) refl)

pub check_trials-returns-clause-made : goal.check_trials-returns-clause-made
check_trials-returns-clause-made t c =
    let l = c.loop-step in
    sym (l.invariant.made ∙ end_made (map (trying_in c.args.loops)) c.args.steps.now l.step-index l.state l.all (omega arith) refl)

pub check_trials-returns-clause-noted : goal.check_trials-returns-clause-noted
check_trials-returns-clause-noted t c =
    let l = c.loop-step in
    sym (l.invariant.noted ∙ end_noted (map (trying_in c.args.loops)) c.args.steps.now l.step-index l.state l.kept (omega arith) refl)

pub check_branches-loop-branch-preserved : goal.check_branches-loop-branch-preserved
check_branches-loop-branch-preserved t c =
    let l = c.loop-branch in
    let x = c.branch-item.result in
    let r = c.in_ok-made.ensures in
    record {
      next = step_next (map (branch_tried_in c.args.loops)) c.args.branches.now _ l.branch-index l.state _ x (branch_tried_in c.args.loops x) (map (branch_tried_in c.args.loops) (drop (l.branch-index + 1) c.args.branches.now)) l.invariant.next c.loop-branch-test.true c.branch-item.is (refl) r.next;
      made = step_made (map (branch_tried_in c.args.loops)) c.args.branches.now _ l.branch-index l.state _ l.all _ x (branch_tried_in c.args.loops x) (map (branch_tried_in c.args.loops) (drop (l.branch-index + 1) c.args.branches.now)) l.invariant.made c.loop-branch-test.true c.branch-item.is (refl) r.next (c.in_ok-all-2.ensures ∙ ap (joined l.all) r.made);
      noted = step_noted (map (branch_tried_in c.args.loops)) c.args.branches.now _ l.branch-index l.state _ l.kept _ x (branch_tried_in c.args.loops x) (map (branch_tried_in c.args.loops) (drop (l.branch-index + 1) c.args.branches.now)) l.invariant.noted c.loop-branch-test.true c.branch-item.is (refl) r.next r.noted;
    }

pub check_branches-returns-clause-next : goal.check_branches-returns-clause-next
check_branches-returns-clause-next t c =
    let l = c.loop-branch in
    sym (l.invariant.next ∙ end_next (map (branch_tried_in c.args.loops)) c.args.branches.now l.branch-index l.state (omega arith) refl)

pub check_branches-returns-clause-made : goal.check_branches-returns-clause-made
check_branches-returns-clause-made t c =
    let l = c.loop-branch in
    sym (l.invariant.made ∙ end_made (map (branch_tried_in c.args.loops)) c.args.branches.now l.branch-index l.state l.all (omega arith) refl)

pub check_branches-returns-clause-noted : goal.check_branches-returns-clause-noted
check_branches-returns-clause-noted t c =
    let l = c.loop-branch in
    sym (l.invariant.noted ∙ end_noted (map (branch_tried_in c.args.loops)) c.args.branches.now l.branch-index l.state l.kept (omega arith) refl)

pub check_trial-returns-in-Declare-clause-next : goal.check_trial-returns-in-Declare-clause-next
check_trial-returns-in-Declare-clause-next t c = grind (arith, common_steps, next_declare)

pub check_trial-returns-in-Declare-clause-made : goal.check_trial-returns-in-Declare-clause-made
check_trial-returns-in-Declare-clause-made t c = grind (arith, common_steps, made_declare)

pub check_trial-returns-in-Declare-clause-noted : goal.check_trial-returns-in-Declare-clause-noted
check_trial-returns-in-Declare-clause-noted t c = grind (arith, common_steps, noted_declare)

pub check_trial-returns-in-Assign-clause-next : goal.check_trial-returns-in-Assign-clause-next
check_trial-returns-in-Assign-clause-next t c = grind (arith, common_steps, next_assign)

pub check_trial-returns-in-Assign-clause-made : goal.check_trial-returns-in-Assign-clause-made
check_trial-returns-in-Assign-clause-made t c = grind (arith, common_steps, made_assign)

pub check_trial-returns-in-Assign-clause-noted : goal.check_trial-returns-in-Assign-clause-noted
check_trial-returns-in-Assign-clause-noted t c = grind (arith, common_steps, noted_assign)

pub check_trial-returns-in_ok-made-in-Communicate-clause-next : goal.check_trial-returns-in_ok-made-in-Communicate-clause-next
check_trial-returns-in_ok-made-in-Communicate-clause-next t c = grind (arith, common_steps, next_communicate)

pub check_trial-returns-in_ok-made-in-Communicate-clause-made : goal.check_trial-returns-in_ok-made-in-Communicate-clause-made
check_trial-returns-in_ok-made-in-Communicate-clause-made t c = grind (arith, common_steps, made_communicate, one_lined)

pub check_trial-returns-in_ok-made-in-Communicate-clause-noted : goal.check_trial-returns-in_ok-made-in-Communicate-clause-noted
check_trial-returns-in_ok-made-in-Communicate-clause-noted t c = grind (arith, common_steps, noted_communicate)

pub check_trial-returns-in_ok-made-in-Return-clause-next : goal.check_trial-returns-in_ok-made-in-Return-clause-next
check_trial-returns-in_ok-made-in-Return-clause-next t c = grind (arith, common_steps, next_return)

pub check_trial-returns-in_ok-made-in-Return-clause-made : goal.check_trial-returns-in_ok-made-in-Return-clause-made
check_trial-returns-in_ok-made-in-Return-clause-made t c = grind (arith, common_steps, made_return, one_lined)

pub check_trial-returns-in_ok-made-in-Return-clause-noted : goal.check_trial-returns-in_ok-made-in-Return-clause-noted
check_trial-returns-in_ok-made-in-Return-clause-noted t c = grind (arith, common_steps, noted_return)

pub check_trial-returns-in_ok-made-in-Exit-clause-next : goal.check_trial-returns-in_ok-made-in-Exit-clause-next
check_trial-returns-in_ok-made-in-Exit-clause-next t c = grind (arith, common_steps, next_exit)

pub check_trial-returns-in_ok-made-in-Exit-clause-made : goal.check_trial-returns-in_ok-made-in-Exit-clause-made
check_trial-returns-in_ok-made-in-Exit-clause-made t c = grind (arith, common_steps, made_exit, one_lined)

pub check_trial-returns-in_ok-made-in-Exit-clause-noted : goal.check_trial-returns-in_ok-made-in-Exit-clause-noted
check_trial-returns-in_ok-made-in-Exit-clause-noted t c = grind (arith, common_steps, noted_exit)

pub check_trial-returns-in_ok-made-in-Finish-clause-next : goal.check_trial-returns-in_ok-made-in-Finish-clause-next
check_trial-returns-in_ok-made-in-Finish-clause-next t c = grind (arith, common_steps, next_finish)

pub check_trial-returns-in_ok-made-in-Finish-clause-made : goal.check_trial-returns-in_ok-made-in-Finish-clause-made
check_trial-returns-in_ok-made-in-Finish-clause-made t c = grind (arith, common_steps, made_finish, one_lined)

pub check_trial-returns-in_ok-made-in-Finish-clause-noted : goal.check_trial-returns-in_ok-made-in-Finish-clause-noted
check_trial-returns-in_ok-made-in-Finish-clause-noted t c = grind (arith, common_steps, noted_finish)

pub check_trial-returns-in-Pass-clause-next : goal.check_trial-returns-in-Pass-clause-next
check_trial-returns-in-Pass-clause-next t c = grind (arith, common_steps, next_pass)

pub check_trial-returns-in-Pass-clause-made : goal.check_trial-returns-in-Pass-clause-made
check_trial-returns-in-Pass-clause-made t c = grind (arith, common_steps, made_pass)

pub check_trial-returns-in-Pass-clause-noted : goal.check_trial-returns-in-Pass-clause-noted
check_trial-returns-in-Pass-clause-noted t c = grind (arith, common_steps, noted_pass)

pub check_trial-returns-in-Break-clause-next : goal.check_trial-returns-in-Break-clause-next
check_trial-returns-in-Break-clause-next t c = grind (arith, common_steps, next_break)

pub check_trial-returns-in-Break-clause-made : goal.check_trial-returns-in-Break-clause-made
check_trial-returns-in-Break-clause-made t c = grind (arith, common_steps, made_break)

pub check_trial-returns-in-Break-clause-noted : goal.check_trial-returns-in-Break-clause-noted
check_trial-returns-in-Break-clause-noted t c = grind (arith, common_steps, noted_break)

pub check_trial-returns-in-Continue-clause-next : goal.check_trial-returns-in-Continue-clause-next
check_trial-returns-in-Continue-clause-next t c = grind (arith, common_steps, next_continue)

pub check_trial-returns-in-Continue-clause-made : goal.check_trial-returns-in-Continue-clause-made
check_trial-returns-in-Continue-clause-made t c = grind (arith, common_steps, made_continue)

pub check_trial-returns-in-Continue-clause-noted : goal.check_trial-returns-in-Continue-clause-noted
check_trial-returns-in-Continue-clause-noted t c = grind (arith, common_steps, noted_continue)

pub check_trial-returns-in-Write-clause-next : goal.check_trial-returns-in-Write-clause-next
check_trial-returns-in-Write-clause-next t c = grind (arith, common_steps, next_write)

pub check_trial-returns-in-Write-clause-made : goal.check_trial-returns-in-Write-clause-made
check_trial-returns-in-Write-clause-made t c = grind (arith, common_steps, made_write)

pub check_trial-returns-in-Write-clause-noted : goal.check_trial-returns-in-Write-clause-noted
check_trial-returns-in-Write-clause-noted t c = grind (arith, common_steps, noted_write)

pub check_trial-returns-in-Select-clause-next : goal.check_trial-returns-in-Select-clause-next
check_trial-returns-in-Select-clause-next t c = grind (arith, common_steps, next_select)

pub check_trial-returns-in-Select-clause-made : goal.check_trial-returns-in-Select-clause-made
check_trial-returns-in-Select-clause-made t c = grind (arith, common_steps, made_select)

pub check_trial-returns-in-Select-clause-noted : goal.check_trial-returns-in-Select-clause-noted
check_trial-returns-in-Select-clause-noted t c = grind (arith, common_steps, noted_select)

pub check_trial-returns-in-Run-clause-next : goal.check_trial-returns-in-Run-clause-next
check_trial-returns-in-Run-clause-next t c = grind (arith, common_steps, next_run)

pub check_trial-returns-in-Run-clause-made : goal.check_trial-returns-in-Run-clause-made
check_trial-returns-in-Run-clause-made t c = grind (arith, common_steps, made_run)

pub check_trial-returns-in-Run-clause-noted : goal.check_trial-returns-in-Run-clause-noted
check_trial-returns-in-Run-clause-noted t c = grind (arith, common_steps, noted_run)

pub check_trial-returns-in-Start-clause-next : goal.check_trial-returns-in-Start-clause-next
check_trial-returns-in-Start-clause-next t c = grind (arith, common_steps, next_start)

pub check_trial-returns-in-Start-clause-made : goal.check_trial-returns-in-Start-clause-made
check_trial-returns-in-Start-clause-made t c = grind (arith, common_steps, made_start)

pub check_trial-returns-in-Start-clause-noted : goal.check_trial-returns-in-Start-clause-noted
check_trial-returns-in-Start-clause-noted t c = grind (arith, common_steps, noted_start)

pub check_trial-returns-in_ok-made-in-If-clause-next : goal.check_trial-returns-in_ok-made-in-If-clause-next
check_trial-returns-in_ok-made-in-If-clause-next t c =
    let p = c.as_slice-parts.ensures.same in
    let o = c.as_slice-steps.ensures.same in
    let n = c.in_ok-made-in-If.ensures.next ∙ ap (λ (bs : List Branch). (in_turn (map (branch_tried_in c.args.loops) bs) c.args.state.now).next) p in
    on_ok_weaker c.check_otherwise.result (λ d. d ∙ (λ j. (block (map (trying_in c.args.loops) (o j)) (n j)).next) ∙ sym (next_if c.args.statement.now c.args.loops c.args.state.now _ _ _ c.in-If.is)) c.check_otherwise.ensures.next

pub check_trial-returns-in_ok-made-in-If-clause-made : goal.check_trial-returns-in_ok-made-in-If-clause-made
check_trial-returns-in_ok-made-in-If-clause-made t c =
    let p = c.as_slice-parts.ensures.same in
    let o = c.as_slice-steps.ensures.same in
    let n = c.in_ok-made-in-If.ensures.next ∙ ap (λ (bs : List Branch). (in_turn (map (branch_tried_in c.args.loops) bs) c.args.state.now).next) p in
    let m = c.in_ok-made-in-If.ensures.made ∙ ap (λ (bs : List Branch). (in_turn (map (branch_tried_in c.args.loops) bs) c.args.state.now).made) p in
    IfOk-weaker c.check_otherwise.result _ _ (λ r d. d ∙ (λ j. chosen c.in-If.place.line (m j) (block (map (trying_in c.args.loops) (o j)) (n j)).made) ∙ sym (made_if c.args.statement.now c.args.loops c.args.state.now _ _ _ c.in-If.is)) c.check_otherwise.ensures.made

pub check_trial-returns-in_ok-made-in-If-clause-noted : goal.check_trial-returns-in_ok-made-in-If-clause-noted
check_trial-returns-in_ok-made-in-If-clause-noted t c =
    let p = c.as_slice-parts.ensures.same in
    let o = c.as_slice-steps.ensures.same in
    let n = c.in_ok-made-in-If.ensures.next ∙ ap (λ (bs : List Branch). (in_turn (map (branch_tried_in c.args.loops) bs) c.args.state.now).next) p in
    let k = c.in_ok-made-in-If.ensures.noted ∙ ap (λ (bs : List Branch). first_of c.args.kept.now (in_turn (map (branch_tried_in c.args.loops) bs) c.args.state.now).faults) p in
    on_ok_weaker c.check_otherwise.result (λ d. d ∙ (λ j. first_of (k j) (block (map (trying_in c.args.loops) (o j)) (n j)).faults) ∙ sym (noted_if c.args.statement.now c.args.loops c.args.state.now c.args.kept.now _ _ _ c.in-If.is)) c.check_otherwise.ensures.noted

pub check_trial-returns-in-While-clause-next : goal.check_trial-returns-in-While-clause-next
check_trial-returns-in-While-clause-next t c = grind (arith, common_steps, next_while)

pub check_trial-returns-in-While-clause-made : goal.check_trial-returns-in-While-clause-made
check_trial-returns-in-While-clause-made t c =
    let b = c.as_slice-in-While.ensures.same in
    IfOk-weaker c.check_while.result _ _ (λ r d. d ∙ (λ j. looped c.in-While.place.line (test_in Experiment c.args.state.now.names c.in-While.condition).made (block (map (trying_in true) (b j)) c.args.state.now).made) ∙ sym (made_while c.args.statement.now c.args.loops c.args.state.now _ _ _ c.in-While.is)) c.check_while.ensures.made

pub check_trial-returns-in-While-clause-noted : goal.check_trial-returns-in-While-clause-noted
check_trial-returns-in-While-clause-noted t c = grind (arith, common_steps, noted_while)

pub check_trial-returns-in-For-clause-next : goal.check_trial-returns-in-For-clause-next
check_trial-returns-in-For-clause-next t c = grind (arith, common_steps, next_for)

pub check_trial-returns-in-For-clause-made : goal.check_trial-returns-in-For-clause-made
check_trial-returns-in-For-clause-made t c =
    let b = c.as_slice-in-For.ensures.same in
    IfOk-weaker c.check_for.result _ _ (λ r d. d ∙ (λ j. walked c.in-For.place.line (walk_in Experiment binder.Variable c.in-For.walk c.args.state.now).made (in_turn (map (trying_in true) (b j)) (walk_in Experiment binder.Variable c.in-For.walk c.args.state.now).next).made) ∙ sym (made_for c.args.statement.now c.args.loops c.args.state.now _ _ _ c.in-For.is)) c.check_for.ensures.made

pub check_trial-returns-in-For-clause-noted : goal.check_trial-returns-in-For-clause-noted
check_trial-returns-in-For-clause-noted t c = grind (arith, common_steps, noted_for)

pub check_branch-returns-in-Ok-clause-next : goal.check_branch-returns-in-Ok-clause-next
check_branch-returns-in-Ok-clause-next t c = grind (arith, common_steps, next_branch)

pub check_branch-returns-in-Ok-clause-made : goal.check_branch-returns-in-Ok-clause-made
check_branch-returns-in-Ok-clause-made t c = grind (arith, common_steps, made_branch)

pub check_branch-returns-in-Ok-clause-noted : goal.check_branch-returns-in-Ok-clause-noted
check_branch-returns-in-Ok-clause-noted t c = grind (arith, common_steps, noted_branch)
