use Rattle.std.proofs.Common.{◌≡◌, ◌+◌, List, ◌∷◌, [], map, drop, refl, sym, ap, ◌∙◌, arith}
use Rattle.chi_check_stat_lines.specs.Declarations.{walk_in}
use Rattle.chi_check_stat_lines.specs.Stated.{in_turn, joined}
use Rattle.chi_check_stat.specs.Statements.{starting}
use Rattle.std.proofs.lemmas.Result.{on_ok_weaker}
use Rattle.chi_tree.specs.declared.statement.Element.{Element}
use Rattle.chi_check_types.specs.Faults.{first_of}
use Rattle.chi_check_stat_lines.specs.declared.state.Binder.TheVariants as binder
use Rattle.chi_check_stat_lines.proofs.Turns.{step_next, step_made, step_noted, end_next, end_made, end_noted}
use Rattle.chi_check_stat.proofs.ElementSteps.{noted_unwind}
use Rattle.chi_check_stat.proofs.elements.+element.Goals as goal

pub start_all-loop-element-preserved : goal.start_all-loop-element-preserved
start_all-loop-element-preserved t c =
    let l = c.loop-element in
    let x = c.element-item.result in
    let r = c.in_ok-made.ensures in
    record {
      next = step_next (map (starting c.args.home.now)) c.args.elements.now _ l.element-index l.state _ x (starting c.args.home.now x) (map (starting c.args.home.now) (drop (l.element-index + 1) c.args.elements.now)) l.invariant.next c.loop-element-test.true c.element-item.is (refl) r.next;
      made = step_made (map (starting c.args.home.now)) c.args.elements.now _ l.element-index l.state _ l.all _ x (starting c.args.home.now x) (map (starting c.args.home.now) (drop (l.element-index + 1) c.args.elements.now)) l.invariant.made c.loop-element-test.true c.element-item.is (refl) r.next (c.in_ok-all-2.ensures ∙ ap (joined l.all) r.made);
      noted = step_noted (map (starting c.args.home.now)) c.args.elements.now _ l.element-index l.state _ l.kept _ x (starting c.args.home.now x) (map (starting c.args.home.now) (drop (l.element-index + 1) c.args.elements.now)) l.invariant.noted c.loop-element-test.true c.element-item.is (refl) r.next r.noted;
    }

pub start_all-returns-clause-next : goal.start_all-returns-clause-next
start_all-returns-clause-next t c =
    let l = c.loop-element in
    sym (l.invariant.next ∙ end_next (map (starting c.args.home.now)) c.args.elements.now l.element-index l.state (omega arith) refl)

pub start_all-returns-clause-made : goal.start_all-returns-clause-made
start_all-returns-clause-made t c =
    let l = c.loop-element in
    sym (l.invariant.made ∙ end_made (map (starting c.args.home.now)) c.args.elements.now l.element-index l.state l.all (omega arith) refl)

pub start_all-returns-clause-noted : goal.start_all-returns-clause-noted
start_all-returns-clause-noted t c =
    let l = c.loop-element in
    sym (l.invariant.noted ∙ end_noted (map (starting c.args.home.now)) c.args.elements.now l.element-index l.state l.kept (omega arith) refl)

pub start_one-returns-in-Unwind-clause-noted : goal.start_one-returns-in-Unwind-clause-noted
start_one-returns-in-Unwind-clause-noted t c =
    let w = walk_in c.args.home.now binder.Unwind c.in-Unwind.walk c.args.state.now in
    on_ok_weaker c.start_unwound.result
    (λ d. d ∙ ap (λ (es : List Element). first_of (first_of c.args.kept.now w.faults) (in_turn (map (starting c.args.home.now) es) w.next).faults) c.as_slice.ensures.same
    ∙ sym (noted_unwind c.args.home.now c.args.element.now c.args.state.now c.args.kept.now _ _ _ c.in-Unwind.is))
    c.start_unwound.ensures.noted
