use Rattle.std.proofs.Common.{◌+◌, ◌*◌, List, length, ap, arith}
use Rattle.chi_chan.specs.declared.offers.Party.{Party}
use Rattle.chi_chan.specs.Lined.{without}
use Rattle.chi_chan.proofs.Lining.{ascends-few, places, without-length}
use Rattle.chi_chan.proofs.line.Line.others.Goals as goal

pub overflow_sub-result : goal.overflow_sub-result
overflow_sub-result c =
    let w = c.place_of-after.ensures.within in
    let s = c.size.ensures in
    let o = places 0 c.self.inside.parties.items c.self.invariant (c.args.pid * 65536) (c.args.pid * 65536 + 65536) c.place_of-first.result c.place_of-after.result
    (omega arith) c.place_of-first.ensures.place c.place_of-after.ensures.place in omega (arith, w, s, o)

pub returns-clause-within : goal.returns-clause-within
returns-clause-within c =
    let s = c.size.ensures in
    let f = ascends-few 0 c.self.inside.parties.items c.self.invariant (omega arith) in omega (arith, s, f)

pub returns-clause-count : goal.returns-clause-count
returns-clause-count c =
    let s = c.size.ensures in
    let w = without-length c.args.pid 0 c.self.inside.parties.items c.place_of-first.result c.place_of-after.result c.self.invariant
    (c.place_of-first.ensures.place, c.place_of-after.ensures.place) in
    let v = ap (λ (l : List Party). length (without c.args.pid l)) c.self.view_is in omega (arith, s, w, v)
