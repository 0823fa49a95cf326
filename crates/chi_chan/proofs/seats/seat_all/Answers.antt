use Rattle.std.proofs.Common.{List, [], ◌∷◌, ◌++◌, Some, false, length, ◌∙◌, ap, arith, length-append}
use Rattle.chi_chan.specs.declared.seats.Seat.{Seat}
use Rattle.chi_chan.specs.Seated.{seat}
use Rattle.chi_chan.proofs.Seating.{seat-more}
use Rattle.chi_chan.proofs.seats.seat_all.Goals as goal

pub loop-more-preserved : goal.loop-more-preserved
loop-more-preserved c =
    let i = c.loop-more.invariant in
    let n = i.count in
    let h = c.loop-more-test.true in
    let p = c.requires.pid in
    let u = c.in_ok-key.ensures.updates in
    let pushed = c.push_reserved.ensures.items ∙ ap (λ (ss : List Seat). ss ++ seat c.in_ok-key.key false ∷ []) c.reserve.ensures.items in
    let s = seat-more c.loop-more.kept.slots c.insert.new.self.slots c.loop-more.seats.items c.push_reserved.new.self.items c.in_ok-key.key [] i.seated (omega (arith, n, h, p))
    c.in_ok-key.ensures.was_vacant (u.changed ∙ ap Some c.new.ensures.items) u.others pushed in
    record {
      seated = s.0;
      same = λ q. s.1 q ∙ i.same q;
      count = let l = ap length pushed in let a = length-append c.loop-more.seats.items (seat c.in_ok-key.key false ∷ []) in omega (arith, l, a, n);
    }
