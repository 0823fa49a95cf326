use Rattle.std.proofs.Common.{◌-◌, sym, subst, refl, arith}
use Rattle.std.specs.Prelude.{slice_set}
use Rattle.chi_order.specs.declared.heap.Due.{Due}
use Rattle.chi_order.specs.declared.heap.TheConstants.{NOWHERE}
use Rattle.chi_order.specs.Heaped.{Hole, Fills}
use Rattle.chi_order.proofs.Taking.{cut-hole, cut-apart, cut-taken, last-taken}
use Rattle.chi_order.proofs.heap.take_out.Goals as goal

pub settle-requires-clause-hole : goal.settle-requires-clause-hole
settle-requires-clause-hole g c =
    let r = c.requires in
    let n = c.size-end.ensures in
    let s = r.some in
    subst (λ (d : Due). Hole c.truncate.new.self.items (slice_set c.args.places.now.items c.args.number NOWHERE) c.args.at d.number) (sym c.due_at-last.ensures)
    (cut-hole c.args.number c.args.dues.now.items c.args.places.now.items r.placed r.heap r.few r.room c.args.at r.place s (c.size-end.result - 1) (omega (arith, n, s))
    c.truncate.new.self.items c.truncate.ensures.items (slice_set c.args.places.now.items c.args.number NOWHERE) refl c.if-at-end.true)

pub settle-requires-clause-apart : goal.settle-requires-clause-apart
settle-requires-clause-apart g c =
    let r = c.requires in
    let n = c.size-end.ensures in
    let s = r.some in
    cut-apart c.args.number c.args.dues.now.items c.args.places.now.items r.placed r.heap r.few r.room c.args.at r.place s (c.size-end.result - 1) (omega (arith, n, s))
    c.truncate.new.self.items c.truncate.ensures.items (slice_set c.args.places.now.items c.args.number NOWHERE) refl c.if-at-end.true

pub returns-then-at-end-clause-taken : goal.returns-then-at-end-clause-taken
returns-then-at-end-clause-taken g c =
    let r = c.requires in
    let n = c.size-end.ensures in
    let s = r.some in
    cut-taken c.args.number c.args.dues.now.items c.args.places.now.items r.placed r.heap r.few r.room c.args.at r.place s (c.size-end.result - 1) (omega (arith, n, s))
    c.truncate.new.self.items c.truncate.ensures.items (slice_set c.args.places.now.items c.args.number NOWHERE) refl c.if-at-end.true
    c.settle.new.dues.items c.settle.new.places.items
    (subst (λ (d : Due). Fills d c.truncate.new.self.items (slice_set c.args.places.now.items c.args.number NOWHERE) c.settle.new.dues.items c.settle.new.places.items)
    c.due_at-last.ensures c.settle.ensures.filled)

pub returns-else-at-end-clause-taken : goal.returns-else-at-end-clause-taken
returns-else-at-end-clause-taken g c =
    let r = c.requires in
    let n = c.size-end.ensures in
    let s = r.some in
    last-taken c.args.number c.args.dues.now.items c.args.places.now.items r.placed r.heap r.few r.room c.args.at r.place s (c.size-end.result - 1) (omega (arith, n, s))
    c.truncate.new.self.items c.truncate.ensures.items (slice_set c.args.places.now.items c.args.number NOWHERE) refl c.if-at-end.false
