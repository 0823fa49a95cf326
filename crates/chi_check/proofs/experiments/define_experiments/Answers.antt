use Rattle.std.proofs.Common.{◌≡◌, ◌+◌, List, ◌∷◌, [], map, drop, refl, sym, ap, ◌∙◌, arith}
use Rattle.chi_tree.specs.declared.definition.Item.{Item}
use Rattle.chi_check_stat_lines.specs.Stated.{joined}
use Rattle.chi_check.specs.Bodies.{experiment_of, experiments_of}
use Rattle.chi_check_stat_lines.proofs.Turns.{step_next, step_made, step_noted, end_next, end_made, end_noted}
use Rattle.chi_check.proofs.experiments.define_experiments.Goals as goal

pub loop-item-preserved : goal.loop-item-preserved
loop-item-preserved c =
    let l = c.loop-item in
    let x = c.item-item.result in
    let r = c.in_ok-next.ensures in
    record {
      next = step_next (λ (items : List Item). experiments_of (map (λ (item : Item). item.definition) items)) c.args.items.now _ l.item-index l.scope _ x (experiment_of x.definition) (experiments_of (map (λ (item : Item). item.definition) (drop (l.item-index + 1) c.args.items.now))) l.invariant.next c.loop-item-test.true c.item-item.is (refl) r.next;
      made = step_made (λ (items : List Item). experiments_of (map (λ (item : Item). item.definition) items)) c.args.items.now _ l.item-index l.scope _ l.all _ x (experiment_of x.definition) (experiments_of (map (λ (item : Item). item.definition) (drop (l.item-index + 1) c.args.items.now))) l.invariant.made c.loop-item-test.true c.item-item.is (refl) r.next (c.in_ok-all-2.ensures ∙ ap (joined l.all) r.made);
      noted = step_noted (λ (items : List Item). experiments_of (map (λ (item : Item). item.definition) items)) c.args.items.now _ l.item-index l.scope _ l.kept _ x (experiment_of x.definition) (experiments_of (map (λ (item : Item). item.definition) (drop (l.item-index + 1) c.args.items.now))) l.invariant.noted c.loop-item-test.true c.item-item.is (refl) r.next r.noted;
    }

pub returns-clause-noted : goal.returns-clause-noted
returns-clause-noted c =
    let l = c.loop-item in
    sym (l.invariant.noted ∙ end_noted (λ (items : List Item). experiments_of (map (λ (item : Item). item.definition) items)) c.args.items.now l.item-index l.scope l.kept (omega arith) refl)
