use Rattle.std.proofs.Common.{◌≡◌, ◌+◌, List, ◌∷◌, [], map, drop, refl, sym, ap, ◌∙◌, arith}
use Rattle.chi_tree.specs.declared.type_tree.Name.{Name}
use Rattle.chi_check_stat_lines.specs.States.{binding, bindings}
use Rattle.chi_check_stat_lines.specs.Stated.{joined}
use Rattle.chi_check_stat_lines.proofs.Turns.{step_next, step_made, step_noted, end_noted}
use Rattle.chi_check_stat_lines.proofs.names.bind_all.Goals as goal

pub loop-name-preserved : goal.loop-name-preserved
loop-name-preserved c =
    let l = c.loop-name in
    let x = c.name-item.result in
    let r = c.in_ok-made.ensures in
    record {
      next = step_next (λ (ns : List Name). bindings c.args.binder ns l.others.now) c.args.names.now _ l.name-index l.state _ x (_) (bindings c.args.binder (drop (l.name-index + 1) c.args.names.now) c.first_of_types.result.1.now) l.invariant.next c.loop-name-test.true c.name-item.is (λ j. binding c.args.binder x (sym c.first_of_types.ensures.first j) ∷ bindings c.args.binder (drop (l.name-index + 1) c.args.names.now) (sym c.first_of_types.ensures.rest j)) r.next;
      made = step_made (λ (ns : List Name). bindings c.args.binder ns l.others.now) c.args.names.now _ l.name-index l.state _ l.all _ x (_) (bindings c.args.binder (drop (l.name-index + 1) c.args.names.now) c.first_of_types.result.1.now) l.invariant.made c.loop-name-test.true c.name-item.is (λ j. binding c.args.binder x (sym c.first_of_types.ensures.first j) ∷ bindings c.args.binder (drop (l.name-index + 1) c.args.names.now) (sym c.first_of_types.ensures.rest j)) r.next (c.in_ok-all-2.ensures ∙ ap (joined l.all) r.made);
      noted = step_noted (λ (ns : List Name). bindings c.args.binder ns l.others.now) c.args.names.now _ l.name-index l.state _ l.kept _ x (_) (bindings c.args.binder (drop (l.name-index + 1) c.args.names.now) c.first_of_types.result.1.now) l.invariant.noted c.loop-name-test.true c.name-item.is (λ j. binding c.args.binder x (sym c.first_of_types.ensures.first j) ∷ bindings c.args.binder (drop (l.name-index + 1) c.args.names.now) (sym c.first_of_types.ensures.rest j)) r.next r.noted;
    }

pub returns-clause-noted : goal.returns-clause-noted
returns-clause-noted c =
    let l = c.loop-name in
    sym (l.invariant.noted ∙ end_noted (λ (ns : List Name). bindings c.args.binder ns l.others.now) c.args.names.now l.name-index l.state l.kept (omega arith) refl)
