use Rattle.std.proofs.Common.{◌-◌, ◌≤◌, ℤ, List, Option, length, ap, ◌∙◌, arith}
use Rattle.std.specs.Vec.{vec_capacity}
use Rattle.chi_order.specs.declared.heap.Due.{Due}
use Rattle.chi_order.specs.Dated.{due_of}
use Rattle.chi_order.specs.Heaped.{times}
use Rattle.chi_order.proofs.Dating.{widened, wide-dues, length-wide, length-times, room-of-dues, heap-within}
use Rattle.chi_order.proofs.dues.Dues.reserve.Goals as goal

pub widen-requires-clause-few : goal.widen-requires-clause-few
widen-requires-clause-few c =
    let w = heap-within c.self.inside.dues.items c.self.inside.places.items (vec_capacity c.self.inside.dues) c.self.invariant in
    let o = c.room-old.ensures in
    let t = c.if-numbers-old.true in omega (arith, w, o, t)

pub invariant_of-self : goal.invariant_of-self
invariant_of-self c =
    let e = c.widen.ensures in
    let o = c.room-old.ensures in
    let t = c.if-numbers-old.true in
    widened c.self.inside.dues.items c.self.inside.places.items (vec_capacity c.self.inside.dues) c.self.invariant c.args.numbers (omega (arith, o, t)) c.ranges.numbers.fits c.widen.result c.widen.new.dues.items c.widen.new.places.items _ e.dues e.capacity e.wide e.err e.room

pub returns-in_ok-widen-clause-room : goal.returns-in_ok-widen-clause-room
returns-in_ok-widen-clause-room c =
    let o = c.room-old.ensures in
    let t = c.if-numbers-old.true in
    let w = length-wide c.self.inside.dues.items c.self.inside.places.items (vec_capacity c.self.inside.dues) c.self.invariant (c.args.numbers - length c.self.inside.places.items) c.widen.new.places.items c.in_ok-widen.ensures.wide in
    let l = length-times c.widen.new.dues.items c.widen.new.places.items in
    let room : c.args.numbers ≤ length (times c.widen.new.dues.items c.widen.new.places.items) = omega (arith, o, t, w, l) in room

pub returns-in_ok-widen-clause-more : goal.returns-in_ok-widen-clause-more
returns-in_ok-widen-clause-more c =
    let v = room-of-dues c.self.inside.dues.items c.self.inside.places.items c.args.self.now c.self.view_is in
    let w = length-wide c.self.inside.dues.items c.self.inside.places.items (vec_capacity c.self.inside.dues) c.self.invariant (c.args.numbers - length c.self.inside.places.items) c.widen.new.places.items c.in_ok-widen.ensures.wide in
    let l = length-times c.widen.new.dues.items c.widen.new.places.items in
    let more : length c.args.self.now ≤ length (times c.widen.new.dues.items c.widen.new.places.items) = omega (arith, v, w, l) in more

pub returns-in_ok-widen-clause-kept : goal.returns-in_ok-widen-clause-kept
returns-in_ok-widen-clause-kept c x =
    ap (λ (ds : List Due). due_of (times ds c.widen.new.places.items) x) c.widen.ensures.dues
    ∙ wide-dues c.self.inside.dues.items c.self.inside.places.items (vec_capacity c.self.inside.dues) c.self.invariant (c.args.numbers - length c.self.inside.places.items) c.widen.new.places.items c.in_ok-widen.ensures.wide x
    ∙ ap (λ (ts : List (Option ℤ)). due_of ts x) c.self.view_is

pub returns-else-numbers-old-clause-room : goal.returns-else-numbers-old-clause-room
returns-else-numbers-old-clause-room c =
    let l = room-of-dues c.self.inside.dues.items c.self.inside.places.items c.args.self.now c.self.view_is in
    let o = c.room-old.ensures in
    let t = c.if-numbers-old.false in
    let room : c.args.numbers ≤ length c.args.self.now = omega (arith, l, o, t) in room
