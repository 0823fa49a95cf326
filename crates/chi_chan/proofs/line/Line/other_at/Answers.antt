use Rattle.std.proofs.Common.{◌≡◌, ◌+◌, ◌-◌, ◌*◌, List, Some, length, ap, subst, sym, ◌∙◌, arith}
use Rattle.std.specs.List.{slice_get}
use Rattle.chi_chan.specs.declared.offers.Party.{Party}
use Rattle.chi_chan.specs.Lined.{without}
use Rattle.chi_chan.proofs.Lining.{ascends-few, got, one-at, places, without-high, without-length, without-low}
use Rattle.chi_chan.proofs.line.Line.other_at.Goals as goal

pub returns-then-i-first : goal.returns-then-i-first
returns-then-i-first c =
    let w = c.place_of-first.ensures.within in
    let l = c.if-i-first.true in
    subst (λ (l : List Party). slice_get (without c.args.pid l) c.args.i ≡ Some c.party_at-then-i-first.result) c.self.view_is
    (without-low c.args.pid 0 c.self.inside.parties.items c.place_of-first.result c.args.i c.self.invariant c.place_of-first.ensures.place l
    ∙ got c.self.inside.parties.items c.args.i c.party_at-then-i-first.result (omega (arith, w, l)) c.party_at-then-i-first.ensures)

pub overflow_sub-after : goal.overflow_sub-after
overflow_sub-after c =
    let o = places 0 c.self.inside.parties.items c.self.invariant (c.args.pid * 65536) (c.args.pid * 65536 + 65536) c.place_of-first.result c.place_of-after.result
    (omega arith) c.place_of-first.ensures.place c.place_of-after.ensures.place in
    o

pub overflow_add-i : goal.overflow_add-i
overflow_add-i c =
    let o = places 0 c.self.inside.parties.items c.self.invariant (c.args.pid * 65536) (c.args.pid * 65536 + 65536) c.place_of-first.result c.place_of-after.result
    (omega arith) c.place_of-first.ensures.place c.place_of-after.ensures.place in
    let w = without-length c.args.pid 0 c.self.inside.parties.items c.place_of-first.result c.place_of-after.result c.self.invariant
    (c.place_of-first.ensures.place, c.place_of-after.ensures.place) in
    let v = ap (λ (l : List Party). length (without c.args.pid l)) c.self.view_is in
    let r = c.requires.some in
    let f = ascends-few 0 c.self.inside.parties.items c.self.invariant (omega arith) in omega (arith, o, w, v, r, f)

pub party_at-requires-2 : goal.party_at-requires-2
party_at-requires-2 c =
    let o = places 0 c.self.inside.parties.items c.self.invariant (c.args.pid * 65536) (c.args.pid * 65536 + 65536) c.place_of-first.result c.place_of-after.result
    (omega arith) c.place_of-first.ensures.place c.place_of-after.ensures.place in
    let w = without-length c.args.pid 0 c.self.inside.parties.items c.place_of-first.result c.place_of-after.result c.self.invariant
    (c.place_of-first.ensures.place, c.place_of-after.ensures.place) in
    let v = ap (λ (l : List Party). length (without c.args.pid l)) c.self.view_is in
    let r = c.requires.some in
    omega (arith, o, w, v, r)

pub returns : goal.returns
returns c =
    let w = without-length c.args.pid 0 c.self.inside.parties.items c.place_of-first.result c.place_of-after.result c.self.invariant
    (c.place_of-first.ensures.place, c.place_of-after.ensures.place) in
    let v = ap (λ (l : List Party). length (without c.args.pid l)) c.self.view_is in
    let r = c.requires.some in
    let high = c.if-i-first.false in
    subst (λ (l : List Party). slice_get (without c.args.pid l) c.args.i ≡ Some c.party_at-2.result) c.self.view_is
    (without-high c.args.pid 0 c.self.inside.parties.items c.place_of-first.result c.place_of-after.result c.args.i c.self.invariant
    (c.place_of-first.ensures.place, c.place_of-after.ensures.place) high
    ∙ got c.self.inside.parties.items (c.args.i + (c.place_of-after.result - c.place_of-first.result)) c.party_at-2.result (omega (arith, w, v, r)) c.party_at-2.ensures)

pub returns-then-size-eq1 : goal.returns-then-size-eq1
returns-then-size-eq1 c =
    subst (λ (l : List Party). slice_get (without c.args.pid l) c.args.i ≡ Some c.party_at.result) c.self.view_is
    (one-at c.args.pid c.self.inside.parties.items c.args.i (sym c.size.ensures ∙ c.if-size-eq1.true)
    (let r = c.requires.some in let v = ap (λ (l : List Party). length (without c.args.pid l)) c.self.view_is in omega (arith, r, v))
    ∙ ap Some (sym c.party_at.ensures))
