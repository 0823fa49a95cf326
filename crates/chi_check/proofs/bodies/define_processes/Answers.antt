use Rattle.std.proofs.Common.{◌≡◌, ◌+◌, List, ◌∷◌, [], map, drop, refl, sym, ap, ◌∙◌, arith}
use Rattle.std.specs.Prelude.{Option}
use Rattle.std.proofs.lemmas.List.{nil_from_length}
use Rattle.chi_tree.specs.declared.definition.Item.{Item}
use Rattle.chi_check_stat_lines.specs.Stated.{joined}
use Rattle.chi_check_headers.specs.declared.header.Header.{Header}
use Rattle.chi_check.specs.Bodies.{processes_of}
use Rattle.chi_check_stat_lines.proofs.Turns.{step_next, step_made, step_noted, end_noted, short_noted}
use Rattle.chi_check.proofs.bodies.define_processes.Goals as goal

pub loop-item-preserved : goal.loop-item-preserved
loop-item-preserved c =
    let l = c.loop-item in
    let x = c.item-item.result in
    let r = c.in_ok-next.ensures in
    record {
      next = step_next (λ (items : List Item). processes_of (map (λ (item : Item). item.definition) items) l.others.now) c.args.items.now _ l.item-index l.scope _ x (_) (processes_of (map (λ (item : Item). item.definition) (drop (l.item-index + 1) c.args.items.now)) _) l.invariant.next c.loop-item-test.true c.item-item.is (ap (λ (hs : List (Option Header)). processes_of (x.definition ∷ map (λ (item : Item). item.definition) (drop (l.item-index + 1) c.args.items.now)) hs) c.in-Some.ensures.cases.0) r.next;
      made = step_made (λ (items : List Item). processes_of (map (λ (item : Item). item.definition) items) l.others.now) c.args.items.now _ l.item-index l.scope _ l.all _ x (_) (processes_of (map (λ (item : Item). item.definition) (drop (l.item-index + 1) c.args.items.now)) _) l.invariant.made c.loop-item-test.true c.item-item.is (ap (λ (hs : List (Option Header)). processes_of (x.definition ∷ map (λ (item : Item). item.definition) (drop (l.item-index + 1) c.args.items.now)) hs) c.in-Some.ensures.cases.0) r.next (c.in_ok-all-2.ensures ∙ ap (joined l.all) r.made);
      noted = step_noted (λ (items : List Item). processes_of (map (λ (item : Item). item.definition) items) l.others.now) c.args.items.now _ l.item-index l.scope _ l.kept _ x (_) (processes_of (map (λ (item : Item). item.definition) (drop (l.item-index + 1) c.args.items.now)) _) l.invariant.noted c.loop-item-test.true c.item-item.is (ap (λ (hs : List (Option Header)). processes_of (x.definition ∷ map (λ (item : Item). item.definition) (drop (l.item-index + 1) c.args.items.now)) hs) c.in-Some.ensures.cases.0) r.next r.noted;
    }

pub returns-clause-noted : goal.returns-clause-noted
returns-clause-noted c =
    let l = c.loop-item in
    sym (l.invariant.noted ∙ end_noted (λ (items : List Item). processes_of (map (λ (item : Item). item.definition) items) l.others.now) c.args.items.now l.item-index l.scope l.kept (omega arith) refl)

pub returns-in_default-clause-noted : goal.returns-in_default-clause-noted
returns-in_default-clause-noted c =
    let l = c.loop-item in
    let x = c.item-item.result in
    sym (l.invariant.noted ∙ short_noted (λ (items : List Item). processes_of (map (λ (item : Item). item.definition) items) l.others.now) c.args.items.now l.item-index l.scope l.kept x c.loop-item-test.true c.item-item.is (ap (λ (hs : List (Option Header)). processes_of (x.definition ∷ map (λ (item : Item). item.definition) (drop (l.item-index + 1) c.args.items.now)) hs) (nil_from_length l.others.now c.in_default.ensures.cases)))
