use Rattle.std.proofs.Common.{◌≡◌, ◌+◌, List, ◌∷◌, [], map, drop, refl, sym, ap, ◌∙◌, arith, true}
use Rattle.chi_core.specs.declared.statement.CStat.{CStat}
use Rattle.chi_check_types.specs.Faults.{first_of}
use Rattle.chi_check_stat_lines.specs.declared.state.State.{State}
use Rattle.chi_check_stat_lines.specs.Values.{test_in, guard_in}
use Rattle.chi_check_stat_lines.specs.Declarations.{walk_in}
use Rattle.chi_check_stat_lines.specs.Lines.{communication_in}
use Rattle.chi_check_stat_lines.specs.Blocks.{chosen, looped, walked, guarded, offered}
use Rattle.chi_check_stat.specs.Statements.{stepping_in, branching_in, offering_in}
use Rattle.std.proofs.lemmas.Grind.{common_steps}
use Rattle.std.proofs.lemmas.Result.{IfOk-weaker, on_ok_weaker}
use Rattle.chi_tree.specs.declared.statement.Branch.{Branch}
use Rattle.chi_check_stat_lines.specs.declared.state.Binder.TheVariants as binder
use Rattle.chi_check_stat_lines.specs.States.{block}
use Rattle.chi_check_stat_lines.specs.Stated.{Stated, in_turn, joined}
use Rattle.chi_check_stat_lines.proofs.Turns.{step_next, step_made, step_noted, end_next, end_made, end_noted}
use Rattle.chi_check_stat.proofs.Folds.{step_is}
use Rattle.chi_check_stat.proofs.StatementSteps.{next_declare, made_declare, noted_declare, next_assign, made_assign, noted_assign, next_communicate, made_communicate, noted_communicate, next_pass, made_pass, noted_pass, next_break, made_break, noted_break, next_continue, made_continue, noted_continue, next_select, made_select, noted_select, next_if, made_if, noted_if, next_while, made_while, noted_while, next_for, made_for, noted_for, next_return, made_return, noted_return, next_exit, made_exit, noted_exit, next_run, made_run, noted_run, next_start, made_start, noted_start, next_finish, made_finish, noted_finish, next_write, made_write, noted_write}
use Rattle.chi_check_stat.proofs.AlternativeSteps.{next_guarded, made_guarded, noted_guarded, next_unwind, made_unwind, noted_unwind, next_branch, made_branch, noted_branch}
use Rattle.chi_check_stat.proofs.+statement.Goals as goal

pub statements::check_all-loop-step-preserved : goal.statements::check_all-loop-step-preserved
statements::check_all-loop-step-preserved t c =
    let l = c.loop-step in
    let x = c.step-item.result in
    let r = c.in_ok-made.ensures in
    let e = step_is c.args.home.now x c.args.loops l.state in
    record {
      next = step_next (map (stepping_in c.args.home.now c.args.loops)) c.args.steps.now _ l.step-index l.state _ x (stepping_in c.args.home.now c.args.loops x) (map (stepping_in c.args.home.now c.args.loops) (drop (l.step-index + 1) c.args.steps.now)) l.invariant.next c.loop-step-test.true c.step-item.is (refl) (r.next ∙ ap (λ (t : Stated State (List CStat)). t.next) (sym e));
      made = step_made (map (stepping_in c.args.home.now c.args.loops)) c.args.steps.now _ l.step-index l.state _ l.all _ x (stepping_in c.args.home.now c.args.loops x) (map (stepping_in c.args.home.now c.args.loops) (drop (l.step-index + 1) c.args.steps.now)) l.invariant.made c.loop-step-test.true c.step-item.is (refl) (r.next ∙ ap (λ (t : Stated State (List CStat)). t.next) (sym e)) (c.in_ok-all-2.ensures ∙ ap (joined l.all) (r.made ∙ ap (λ (t : Stated State (List CStat)). t.made) (sym e)));
      noted = step_noted (map (stepping_in c.args.home.now c.args.loops)) c.args.steps.now _ l.step-index l.state _ l.kept _ x (stepping_in c.args.home.now c.args.loops x) (map (stepping_in c.args.home.now c.args.loops) (drop (l.step-index + 1) c.args.steps.now)) l.invariant.noted c.loop-step-test.true c.step-item.is (refl) (r.next ∙ ap (λ (t : Stated State (List CStat)). t.next) (sym e)) (r.noted ∙ ap (λ (t : Stated State (List CStat)). first_of l.kept t.faults) (sym e));
    }

pub statements::check_all-returns-clause-next : goal.statements::check_all-returns-clause-next
statements::check_all-returns-clause-next t c =
    let l = c.loop-step in
    sym (l.invariant.next ∙ end_next (map (stepping_in c.args.home.now c.args.loops)) c.args.steps.now l.step-index l.state (omega arith) refl)

pub statements::check_all-returns-clause-made : goal.statements::check_all-returns-clause-made
statements::check_all-returns-clause-made t c =
    let l = c.loop-step in
    sym (l.invariant.made ∙ end_made (map (stepping_in c.args.home.now c.args.loops)) c.args.steps.now l.step-index l.state l.all (omega arith) refl)

pub statements::check_all-returns-clause-noted : goal.statements::check_all-returns-clause-noted
statements::check_all-returns-clause-noted t c =
    let l = c.loop-step in
    sym (l.invariant.noted ∙ end_noted (map (stepping_in c.args.home.now c.args.loops)) c.args.steps.now l.step-index l.state l.kept (omega arith) refl)

pub statements::check_branches-loop-branch-preserved : goal.statements::check_branches-loop-branch-preserved
statements::check_branches-loop-branch-preserved t c =
    let l = c.loop-branch in
    let x = c.branch-item.result in
    let r = c.in_ok-made.ensures in
    record {
      next = step_next (map (branching_in c.args.home.now c.args.loops)) c.args.branches.now _ l.branch-index l.state _ x (branching_in c.args.home.now c.args.loops x) (map (branching_in c.args.home.now c.args.loops) (drop (l.branch-index + 1) c.args.branches.now)) l.invariant.next c.loop-branch-test.true c.branch-item.is (refl) r.next;
      made = step_made (map (branching_in c.args.home.now c.args.loops)) c.args.branches.now _ l.branch-index l.state _ l.all _ x (branching_in c.args.home.now c.args.loops x) (map (branching_in c.args.home.now c.args.loops) (drop (l.branch-index + 1) c.args.branches.now)) l.invariant.made c.loop-branch-test.true c.branch-item.is (refl) r.next (c.in_ok-all-2.ensures ∙ ap (joined l.all) r.made);
      noted = step_noted (map (branching_in c.args.home.now c.args.loops)) c.args.branches.now _ l.branch-index l.state _ l.kept _ x (branching_in c.args.home.now c.args.loops x) (map (branching_in c.args.home.now c.args.loops) (drop (l.branch-index + 1) c.args.branches.now)) l.invariant.noted c.loop-branch-test.true c.branch-item.is (refl) r.next r.noted;
    }

pub statements::check_branches-returns-clause-next : goal.statements::check_branches-returns-clause-next
statements::check_branches-returns-clause-next t c =
    let l = c.loop-branch in
    sym (l.invariant.next ∙ end_next (map (branching_in c.args.home.now c.args.loops)) c.args.branches.now l.branch-index l.state (omega arith) refl)

pub statements::check_branches-returns-clause-made : goal.statements::check_branches-returns-clause-made
statements::check_branches-returns-clause-made t c =
    let l = c.loop-branch in
    sym (l.invariant.made ∙ end_made (map (branching_in c.args.home.now c.args.loops)) c.args.branches.now l.branch-index l.state l.all (omega arith) refl)

pub statements::check_branches-returns-clause-noted : goal.statements::check_branches-returns-clause-noted
statements::check_branches-returns-clause-noted t c =
    let l = c.loop-branch in
    sym (l.invariant.noted ∙ end_noted (map (branching_in c.args.home.now c.args.loops)) c.args.branches.now l.branch-index l.state l.kept (omega arith) refl)

pub alternatives::check_alternatives-loop-alternative-preserved : goal.alternatives::check_alternatives-loop-alternative-preserved
alternatives::check_alternatives-loop-alternative-preserved t c =
    let l = c.loop-alternative in
    let x = c.alternative-item.result in
    let r = c.in_ok-made.ensures in
    record {
      next = step_next (map (offering_in c.args.home.now c.args.loops)) c.args.alternatives.now _ l.alternative-index l.state _ x (offering_in c.args.home.now c.args.loops x) (map (offering_in c.args.home.now c.args.loops) (drop (l.alternative-index + 1) c.args.alternatives.now)) l.invariant.next c.loop-alternative-test.true c.alternative-item.is (refl) r.next;
      made = step_made (map (offering_in c.args.home.now c.args.loops)) c.args.alternatives.now _ l.alternative-index l.state _ l.all _ x (offering_in c.args.home.now c.args.loops x) (map (offering_in c.args.home.now c.args.loops) (drop (l.alternative-index + 1) c.args.alternatives.now)) l.invariant.made c.loop-alternative-test.true c.alternative-item.is (refl) r.next (c.in_ok-all-2.ensures ∙ ap (joined l.all) r.made);
      noted = step_noted (map (offering_in c.args.home.now c.args.loops)) c.args.alternatives.now _ l.alternative-index l.state _ l.kept _ x (offering_in c.args.home.now c.args.loops x) (map (offering_in c.args.home.now c.args.loops) (drop (l.alternative-index + 1) c.args.alternatives.now)) l.invariant.noted c.loop-alternative-test.true c.alternative-item.is (refl) r.next r.noted;
    }

pub alternatives::check_alternatives-returns-clause-next : goal.alternatives::check_alternatives-returns-clause-next
alternatives::check_alternatives-returns-clause-next t c =
    let l = c.loop-alternative in
    sym (l.invariant.next ∙ end_next (map (offering_in c.args.home.now c.args.loops)) c.args.alternatives.now l.alternative-index l.state (omega arith) refl)

pub alternatives::check_alternatives-returns-clause-made : goal.alternatives::check_alternatives-returns-clause-made
alternatives::check_alternatives-returns-clause-made t c =
    let l = c.loop-alternative in
    sym (l.invariant.made ∙ end_made (map (offering_in c.args.home.now c.args.loops)) c.args.alternatives.now l.alternative-index l.state l.all (omega arith) refl)

pub alternatives::check_alternatives-returns-clause-noted : goal.alternatives::check_alternatives-returns-clause-noted
alternatives::check_alternatives-returns-clause-noted t c =
    let l = c.loop-alternative in
    sym (l.invariant.noted ∙ end_noted (map (offering_in c.args.home.now c.args.loops)) c.args.alternatives.now l.alternative-index l.state l.kept (omega arith) refl)

pub statements::check_statement-returns-in-Declare-clause-next : goal.statements::check_statement-returns-in-Declare-clause-next
statements::check_statement-returns-in-Declare-clause-next t c = grind (arith, common_steps, next_declare)

pub statements::check_statement-returns-in-Declare-clause-made : goal.statements::check_statement-returns-in-Declare-clause-made
statements::check_statement-returns-in-Declare-clause-made t c = grind (arith, common_steps, made_declare)

pub statements::check_statement-returns-in-Declare-clause-noted : goal.statements::check_statement-returns-in-Declare-clause-noted
statements::check_statement-returns-in-Declare-clause-noted t c = grind (arith, common_steps, noted_declare)

pub statements::check_statement-returns-in-Assign-clause-next : goal.statements::check_statement-returns-in-Assign-clause-next
statements::check_statement-returns-in-Assign-clause-next t c = grind (arith, common_steps, next_assign)

pub statements::check_statement-returns-in-Assign-clause-made : goal.statements::check_statement-returns-in-Assign-clause-made
statements::check_statement-returns-in-Assign-clause-made t c = grind (arith, common_steps, made_assign)

pub statements::check_statement-returns-in-Assign-clause-noted : goal.statements::check_statement-returns-in-Assign-clause-noted
statements::check_statement-returns-in-Assign-clause-noted t c = grind (arith, common_steps, noted_assign)

pub statements::check_statement-returns-in-Communicate-clause-next : goal.statements::check_statement-returns-in-Communicate-clause-next
statements::check_statement-returns-in-Communicate-clause-next t c = grind (arith, common_steps, next_communicate)

pub statements::check_statement-returns-in-Communicate-clause-made : goal.statements::check_statement-returns-in-Communicate-clause-made
statements::check_statement-returns-in-Communicate-clause-made t c = grind (arith, common_steps, made_communicate)

pub statements::check_statement-returns-in-Communicate-clause-noted : goal.statements::check_statement-returns-in-Communicate-clause-noted
statements::check_statement-returns-in-Communicate-clause-noted t c = grind (arith, common_steps, noted_communicate)

pub statements::check_statement-returns-in-Pass-clause-next : goal.statements::check_statement-returns-in-Pass-clause-next
statements::check_statement-returns-in-Pass-clause-next t c = grind (arith, common_steps, next_pass)

pub statements::check_statement-returns-in-Pass-clause-made : goal.statements::check_statement-returns-in-Pass-clause-made
statements::check_statement-returns-in-Pass-clause-made t c = grind (arith, common_steps, made_pass)

pub statements::check_statement-returns-in-Pass-clause-noted : goal.statements::check_statement-returns-in-Pass-clause-noted
statements::check_statement-returns-in-Pass-clause-noted t c = grind (arith, common_steps, noted_pass)

pub statements::check_statement-returns-in-Break-clause-next : goal.statements::check_statement-returns-in-Break-clause-next
statements::check_statement-returns-in-Break-clause-next t c = grind (arith, common_steps, next_break)

pub statements::check_statement-returns-in-Break-clause-made : goal.statements::check_statement-returns-in-Break-clause-made
statements::check_statement-returns-in-Break-clause-made t c = grind (arith, common_steps, made_break)

pub statements::check_statement-returns-in-Break-clause-noted : goal.statements::check_statement-returns-in-Break-clause-noted
statements::check_statement-returns-in-Break-clause-noted t c = grind (arith, common_steps, noted_break)

pub statements::check_statement-returns-in-Continue-clause-next : goal.statements::check_statement-returns-in-Continue-clause-next
statements::check_statement-returns-in-Continue-clause-next t c = grind (arith, common_steps, next_continue)

pub statements::check_statement-returns-in-Continue-clause-made : goal.statements::check_statement-returns-in-Continue-clause-made
statements::check_statement-returns-in-Continue-clause-made t c = grind (arith, common_steps, made_continue)

pub statements::check_statement-returns-in-Continue-clause-noted : goal.statements::check_statement-returns-in-Continue-clause-noted
statements::check_statement-returns-in-Continue-clause-noted t c = grind (arith, common_steps, noted_continue)

pub statements::check_statement-returns-in-Select-clause-next : goal.statements::check_statement-returns-in-Select-clause-next
statements::check_statement-returns-in-Select-clause-next t c = grind (arith, common_steps, next_select)

pub statements::check_statement-returns-in-Select-clause-made : goal.statements::check_statement-returns-in-Select-clause-made
statements::check_statement-returns-in-Select-clause-made t c = grind (arith, common_steps, made_select)

pub statements::check_statement-returns-in-Select-clause-noted : goal.statements::check_statement-returns-in-Select-clause-noted
statements::check_statement-returns-in-Select-clause-noted t c = grind (arith, common_steps, noted_select)

pub statements::check_statement-returns-in_ok-made-in-If-clause-next : goal.statements::check_statement-returns-in_ok-made-in-If-clause-next
statements::check_statement-returns-in_ok-made-in-If-clause-next t c =
    let p = c.as_slice-parts.ensures.same in
    let o = c.as_slice-steps.ensures.same in
    let n = c.in_ok-made-in-If.ensures.next ∙ ap (λ (bs : List Branch). (in_turn (map (branching_in c.args.home.now c.args.loops) bs) c.args.state.now).next) p in
    on_ok_weaker c.check_otherwise.result (λ d. d ∙ (λ j. (block (map (stepping_in c.args.home.now c.args.loops) (o j)) (n j)).next) ∙ sym (next_if c.args.home.now c.args.statement.now c.args.loops c.args.state.now _ _ _ c.in-If.is)) c.check_otherwise.ensures.next

pub statements::check_statement-returns-in_ok-made-in-If-clause-made : goal.statements::check_statement-returns-in_ok-made-in-If-clause-made
statements::check_statement-returns-in_ok-made-in-If-clause-made t c =
    let p = c.as_slice-parts.ensures.same in
    let o = c.as_slice-steps.ensures.same in
    let n = c.in_ok-made-in-If.ensures.next ∙ ap (λ (bs : List Branch). (in_turn (map (branching_in c.args.home.now c.args.loops) bs) c.args.state.now).next) p in
    let m = c.in_ok-made-in-If.ensures.made ∙ ap (λ (bs : List Branch). (in_turn (map (branching_in c.args.home.now c.args.loops) bs) c.args.state.now).made) p in
    IfOk-weaker c.check_otherwise.result _ _ (λ r d. d ∙ (λ j. chosen c.in-If.place.line (m j) (block (map (stepping_in c.args.home.now c.args.loops) (o j)) (n j)).made) ∙ sym (made_if c.args.home.now c.args.statement.now c.args.loops c.args.state.now _ _ _ c.in-If.is)) c.check_otherwise.ensures.made

pub statements::check_statement-returns-in_ok-made-in-If-clause-noted : goal.statements::check_statement-returns-in_ok-made-in-If-clause-noted
statements::check_statement-returns-in_ok-made-in-If-clause-noted t c =
    let p = c.as_slice-parts.ensures.same in
    let o = c.as_slice-steps.ensures.same in
    let n = c.in_ok-made-in-If.ensures.next ∙ ap (λ (bs : List Branch). (in_turn (map (branching_in c.args.home.now c.args.loops) bs) c.args.state.now).next) p in
    let k = c.in_ok-made-in-If.ensures.noted ∙ ap (λ (bs : List Branch). first_of c.args.kept.now (in_turn (map (branching_in c.args.home.now c.args.loops) bs) c.args.state.now).faults) p in
    on_ok_weaker c.check_otherwise.result (λ d. d ∙ (λ j. first_of (k j) (block (map (stepping_in c.args.home.now c.args.loops) (o j)) (n j)).faults) ∙ sym (noted_if c.args.home.now c.args.statement.now c.args.loops c.args.state.now c.args.kept.now _ _ _ c.in-If.is)) c.check_otherwise.ensures.noted

pub statements::check_statement-returns-in-While-clause-next : goal.statements::check_statement-returns-in-While-clause-next
statements::check_statement-returns-in-While-clause-next t c = grind (arith, common_steps, next_while)

pub statements::check_statement-returns-in-While-clause-made : goal.statements::check_statement-returns-in-While-clause-made
statements::check_statement-returns-in-While-clause-made t c =
    let b = c.as_slice-in-While.ensures.same in
    IfOk-weaker c.check_while.result _ _ (λ r d. d ∙ (λ j. looped c.in-While.place.line (test_in c.args.home.now c.args.state.now.names c.in-While.condition).made (block (map (stepping_in c.args.home.now true) (b j)) c.args.state.now).made) ∙ sym (made_while c.args.home.now c.args.statement.now c.args.loops c.args.state.now _ _ _ c.in-While.is)) c.check_while.ensures.made

pub statements::check_statement-returns-in-While-clause-noted : goal.statements::check_statement-returns-in-While-clause-noted
statements::check_statement-returns-in-While-clause-noted t c = grind (arith, common_steps, noted_while)

pub statements::check_statement-returns-in-For-clause-next : goal.statements::check_statement-returns-in-For-clause-next
statements::check_statement-returns-in-For-clause-next t c = grind (arith, common_steps, next_for)

pub statements::check_statement-returns-in-For-clause-made : goal.statements::check_statement-returns-in-For-clause-made
statements::check_statement-returns-in-For-clause-made t c =
    let b = c.as_slice-in-For.ensures.same in
    IfOk-weaker c.check_for.result _ _ (λ r d. d ∙ (λ j. walked c.in-For.place.line (walk_in c.args.home.now binder.Variable c.in-For.walk c.args.state.now).made (in_turn (map (stepping_in c.args.home.now true) (b j)) (walk_in c.args.home.now binder.Variable c.in-For.walk c.args.state.now).next).made) ∙ sym (made_for c.args.home.now c.args.statement.now c.args.loops c.args.state.now _ _ _ c.in-For.is)) c.check_for.ensures.made

pub statements::check_statement-returns-in-For-clause-noted : goal.statements::check_statement-returns-in-For-clause-noted
statements::check_statement-returns-in-For-clause-noted t c = grind (arith, common_steps, noted_for)

pub statements::check_statement-returns-in-Return-clause-next : goal.statements::check_statement-returns-in-Return-clause-next
statements::check_statement-returns-in-Return-clause-next t c = grind (arith, common_steps, next_return)

pub statements::check_statement-returns-in-Return-clause-made : goal.statements::check_statement-returns-in-Return-clause-made
statements::check_statement-returns-in-Return-clause-made t c = grind (arith, common_steps, made_return)

pub statements::check_statement-returns-in-Return-clause-noted : goal.statements::check_statement-returns-in-Return-clause-noted
statements::check_statement-returns-in-Return-clause-noted t c = grind (arith, common_steps, noted_return)

pub statements::check_statement-returns-in-Exit-clause-next : goal.statements::check_statement-returns-in-Exit-clause-next
statements::check_statement-returns-in-Exit-clause-next t c = grind (arith, common_steps, next_exit)

pub statements::check_statement-returns-in-Exit-clause-made : goal.statements::check_statement-returns-in-Exit-clause-made
statements::check_statement-returns-in-Exit-clause-made t c = grind (arith, common_steps, made_exit)

pub statements::check_statement-returns-in-Exit-clause-noted : goal.statements::check_statement-returns-in-Exit-clause-noted
statements::check_statement-returns-in-Exit-clause-noted t c = grind (arith, common_steps, noted_exit)

pub statements::check_statement-returns-in-Run-clause-next : goal.statements::check_statement-returns-in-Run-clause-next
statements::check_statement-returns-in-Run-clause-next t c = grind (arith, common_steps, next_run)

pub statements::check_statement-returns-in-Run-clause-made : goal.statements::check_statement-returns-in-Run-clause-made
statements::check_statement-returns-in-Run-clause-made t c = grind (arith, common_steps, made_run)

pub statements::check_statement-returns-in-Run-clause-noted : goal.statements::check_statement-returns-in-Run-clause-noted
statements::check_statement-returns-in-Run-clause-noted t c = grind (arith, common_steps, noted_run)

pub statements::check_statement-returns-in-Start-clause-next : goal.statements::check_statement-returns-in-Start-clause-next
statements::check_statement-returns-in-Start-clause-next t c = grind (arith, common_steps, next_start)

pub statements::check_statement-returns-in-Start-clause-made : goal.statements::check_statement-returns-in-Start-clause-made
statements::check_statement-returns-in-Start-clause-made t c = grind (arith, common_steps, made_start)

pub statements::check_statement-returns-in-Start-clause-noted : goal.statements::check_statement-returns-in-Start-clause-noted
statements::check_statement-returns-in-Start-clause-noted t c = grind (arith, common_steps, noted_start)

pub statements::check_statement-returns-in-Finish-clause-next : goal.statements::check_statement-returns-in-Finish-clause-next
statements::check_statement-returns-in-Finish-clause-next t c = grind (arith, common_steps, next_finish)

pub statements::check_statement-returns-in-Finish-clause-made : goal.statements::check_statement-returns-in-Finish-clause-made
statements::check_statement-returns-in-Finish-clause-made t c = grind (arith, common_steps, made_finish)

pub statements::check_statement-returns-in-Finish-clause-noted : goal.statements::check_statement-returns-in-Finish-clause-noted
statements::check_statement-returns-in-Finish-clause-noted t c = grind (arith, common_steps, noted_finish)

pub statements::check_statement-returns-in-Write-clause-next : goal.statements::check_statement-returns-in-Write-clause-next
statements::check_statement-returns-in-Write-clause-next t c = grind (arith, common_steps, next_write)

pub statements::check_statement-returns-in-Write-clause-made : goal.statements::check_statement-returns-in-Write-clause-made
statements::check_statement-returns-in-Write-clause-made t c = grind (arith, common_steps, made_write)

pub statements::check_statement-returns-in-Write-clause-noted : goal.statements::check_statement-returns-in-Write-clause-noted
statements::check_statement-returns-in-Write-clause-noted t c = grind (arith, common_steps, noted_write)

pub alternatives::check_alternative-returns-in-Guarded-clause-next : goal.alternatives::check_alternative-returns-in-Guarded-clause-next
alternatives::check_alternative-returns-in-Guarded-clause-next t c = grind (arith, common_steps, next_guarded)

pub alternatives::check_alternative-returns-in-Guarded-clause-made : goal.alternatives::check_alternative-returns-in-Guarded-clause-made
alternatives::check_alternative-returns-in-Guarded-clause-made t c =
    let b = c.as_slice-steps.ensures.same in
    IfOk-weaker c.check_guarded.result _ _ (λ r d. d ∙ (λ j. guarded (guard_in c.args.home.now c.args.state.now.names c.in-Guarded.guard).made (communication_in c.args.home.now c.args.state.now.names c.in-Guarded.communication).made (block (map (stepping_in c.args.home.now c.args.loops) (b j)) c.args.state.now).made) ∙ sym (made_guarded c.args.home.now c.args.alternative.now c.args.loops c.args.state.now _ _ _ c.in-Guarded.is)) c.check_guarded.ensures.made

pub alternatives::check_alternative-returns-in-Guarded-clause-noted : goal.alternatives::check_alternative-returns-in-Guarded-clause-noted
alternatives::check_alternative-returns-in-Guarded-clause-noted t c = grind (arith, common_steps, noted_guarded)

pub alternatives::check_alternative-returns-in-Unwind-clause-next : goal.alternatives::check_alternative-returns-in-Unwind-clause-next
alternatives::check_alternative-returns-in-Unwind-clause-next t c = grind (arith, common_steps, next_unwind)

pub alternatives::check_alternative-returns-in-Unwind-clause-made : goal.alternatives::check_alternative-returns-in-Unwind-clause-made
alternatives::check_alternative-returns-in-Unwind-clause-made t c =
    let b = c.as_slice.ensures.same in
    IfOk-weaker c.check_unwound.result _ _ (λ r d. d ∙ (λ j. offered (walk_in c.args.home.now binder.Unwind c.in-Unwind.walk c.args.state.now).made (in_turn (map (offering_in c.args.home.now c.args.loops) (b j)) (walk_in c.args.home.now binder.Unwind c.in-Unwind.walk c.args.state.now).next).made) ∙ sym (made_unwind c.args.home.now c.args.alternative.now c.args.loops c.args.state.now _ _ _ c.in-Unwind.is)) c.check_unwound.ensures.made

pub alternatives::check_alternative-returns-in-Unwind-clause-noted : goal.alternatives::check_alternative-returns-in-Unwind-clause-noted
alternatives::check_alternative-returns-in-Unwind-clause-noted t c = grind (arith, common_steps, noted_unwind)

pub statements::check_branch-returns-clause-next : goal.statements::check_branch-returns-clause-next
statements::check_branch-returns-clause-next t c = grind (arith, common_steps, next_branch)

pub statements::check_branch-returns-clause-made : goal.statements::check_branch-returns-clause-made
statements::check_branch-returns-clause-made t c = grind (arith, common_steps, made_branch)

pub statements::check_branch-returns-clause-noted : goal.statements::check_branch-returns-clause-noted
statements::check_branch-returns-clause-noted t c = grind (arith, common_steps, noted_branch)
