use Rattle.std.proofs.Common.{◌≡◌, ◌+◌, List, ◌∷◌, [], map, drop, refl, sym, ap, ◌∙◌, arith}
use Rattle.chi_tree.specs.declared.type_tree.Name.{Name}
use Rattle.chi_check_stat_lines.specs.Stated.{joined}
use Rattle.chi_check_headers.specs.Definitions.{value_named, values_from}
use Rattle.chi_check_stat_lines.proofs.Turns.{step_next, step_made, step_noted, end_noted}
use Rattle.chi_check_headers.proofs.naming.name_values.Goals as goal

pub loop-value-preserved : goal.loop-value-preserved
loop-value-preserved c =
    let l = c.loop-value in
    let x = c.value-item.result in
    let r = c.in_ok-made.ensures in
    record {
      next = step_next (λ (vs : List Name). values_from c.args.enumeration l.position vs) c.args.values.now _ l.value-index l.sketch _ x (value_named c.args.enumeration l.position x) (values_from c.args.enumeration c.in_ok-position.position (drop (l.value-index + 1) c.args.values.now)) l.invariant.next c.loop-value-test.true c.value-item.is (ap (λ p. value_named c.args.enumeration l.position x ∷ values_from c.args.enumeration p (drop (l.value-index + 1) c.args.values.now)) (sym c.in_ok-position.ensures)) r.next;
      made = step_made (λ (vs : List Name). values_from c.args.enumeration l.position vs) c.args.values.now _ l.value-index l.sketch _ l.all _ x (value_named c.args.enumeration l.position x) (values_from c.args.enumeration c.in_ok-position.position (drop (l.value-index + 1) c.args.values.now)) l.invariant.made c.loop-value-test.true c.value-item.is (ap (λ p. value_named c.args.enumeration l.position x ∷ values_from c.args.enumeration p (drop (l.value-index + 1) c.args.values.now)) (sym c.in_ok-position.ensures)) r.next (c.in_ok-all-2.ensures ∙ ap (joined l.all) r.made);
      noted = step_noted (λ (vs : List Name). values_from c.args.enumeration l.position vs) c.args.values.now _ l.value-index l.sketch _ l.kept _ x (value_named c.args.enumeration l.position x) (values_from c.args.enumeration c.in_ok-position.position (drop (l.value-index + 1) c.args.values.now)) l.invariant.noted c.loop-value-test.true c.value-item.is (ap (λ p. value_named c.args.enumeration l.position x ∷ values_from c.args.enumeration p (drop (l.value-index + 1) c.args.values.now)) (sym c.in_ok-position.ensures)) r.next r.noted;
    }

pub returns-clause-noted : goal.returns-clause-noted
returns-clause-noted c =
    let l = c.loop-value in
    sym (l.invariant.noted ∙ end_noted (λ (vs : List Name). values_from c.args.enumeration l.position vs) c.args.values.now l.value-index l.sketch l.kept (omega arith) refl)
