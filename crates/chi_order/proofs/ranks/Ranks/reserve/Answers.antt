use Rattle.std.proofs.Common.{◌≡◌, ◌*◌, ◌<◌, ◌≤◌, List, Bool, false, length, ◌⊎◌, inl, inr, ap, ◌∙◌, sym, subst, arith}
use Rattle.chi_order.specs.Marked.{is_marked}
use Rattle.chi_order.proofs.Counting.{get_or-past}
use Rattle.chi_order.proofs.Words.{length-bits}
use Rattle.chi_order.proofs.ranks.Ranks.reserve.Goals as goal

pub returns-then-numbers-old-clause-room : goal.returns-then-numbers-old-clause-room
returns-then-numbers-old-clause-room c =
    let l : 64 * length c.self.inside.words.items ≡ length c.args.self.now = sym (length-bits c.self.inside.words.items) ∙ ap length c.self.view_is in
    let s = c.size-old.ensures in
    let t = c.if-numbers-old.true in
    let room : c.args.numbers ≤ length c.args.self.now = omega (arith, l, s, t) in room

pub returns-clause-more : goal.returns-clause-more
returns-clause-more c =
    let l : 64 * length c.self.inside.words.items ≡ length c.args.self.now = sym (length-bits c.self.inside.words.items) ∙ ap length c.self.view_is in
    let s = c.size-old.ensures in
    let t = c.loop-number.invariant.more in
    let room : length c.args.self.now ≤ length c.loop-number.wider = omega (arith, l, s, t) in
    subst (λ (marks : List Bool). length c.args.self.now ≤ length marks) (sym c.drop.view_is) room

pub returns-clause-kept : goal.returns-clause-kept
returns-clause-kept c y =
    let l : 64 * length c.self.inside.words.items ≡ length c.args.self.now = sym (length-bits c.self.inside.words.items) ∙ ap length c.self.view_is in
    let s = c.size-old.ensures in
    let past = c.loop-number-test.false in
    ap (λ (marks : List Bool). is_marked marks y) c.drop.view_is ∙ by_place (let c : (y < c.loop-number.number) ⊎ (c.loop-number.number ≤ y) = grind arith in c) (λ h. omega (arith, l, s, past, h))
  where
    by_place : (y < c.loop-number.number) ⊎ (c.loop-number.number ≤ y) → (c.loop-number.number ≤ y → length c.args.self.now ≤ y) → is_marked c.loop-number.wider y ≡ is_marked c.args.self.now y
    by_place (inl h) room = c.loop-number.invariant.copied y h
    by_place (inr h) room = c.loop-number.invariant.rest y h ∙ sym (get_or-past c.args.self.now y false (room h))
