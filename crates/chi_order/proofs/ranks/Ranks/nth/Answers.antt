use Rattle.std.proofs.Common.{◌≡◌, ◌<◌, ◌+◌, ◌-◌, ◌*◌, ◌%◌, ◌^◌, ℕ, List, Some, Bool, true, length, get_or, ap, ◌∙◌, sym, subst, arith}
use Rattle.std.specs.List.{slice_get}
use Rattle.std.specs.Int.Count.{ones as count_ones}
use Rattle.chi_order.specs.Marked.{members}
use Rattle.chi_order.specs.Counted.{is_set}
use Rattle.chi_order.specs.Bounded.{WithinDigits}
use Rattle.chi_order.proofs.Words.{length-members, length-bits, member-at, read}
use Rattle.chi_order.proofs.Ranking.{ones-here, within-digits}
use Rattle.chi_order.proofs.ranks.Ranks.nth.Goals as goal

pub word_of-branch-requires-clause-some : goal.word_of-branch-requires-clause-some
word_of-branch-requires-clause-some g c =
    let l = length-members c.self.inside.words.items in
    let v = ap (λ (marks : List Bool). length (members marks)) c.self.view_is in
    let r = c.requires in omega (arith, l, v, r)

pub bit_of-bit-requires : goal.bit_of-bit-requires
bit_of-bit-requires g c =
    let e = c.word_of-branch.ensures in
    let words = c.self.inside.words.items in
    let at = read words c.word_of-branch.result.start c.index.result.now c.index.ensures e.within in
    subst (λ (n : ℕ). c.args.rank - c.word_of-branch.result.seen < count_ones n) (sym at)
    (ones-here words c.self.inside.count c.self.inside.counts.items c.self.invariant c.word_of-branch.result.start c.args.rank c.word_of-branch.result.seen e.within e.seen e.before e.after)

pub returns-clause-member : goal.returns-clause-member
returns-clause-member g c =
    let e = c.word_of-branch.ensures in
    let b = c.bit_of-bit.ensures in
    let w = c.word_of-branch.result.start in
    let words = c.self.inside.words.items in
    let at = read words w c.index.result.now c.index.ensures e.within in
    let before = e.before in
    let ones : count_ones (get_or words w 0 % 2 ^ c.bit_of-bit.result) ≡ c.args.rank - c.word_of-branch.result.seen
    = ap (λ (n : ℕ). count_ones (n % 2 ^ c.bit_of-bit.result)) (sym at) ∙ b.before in
    let set : is_set (get_or words w 0) c.bit_of-bit.result ≡ true = ap (λ (n : ℕ). is_set n c.bit_of-bit.result) (sym at) ∙ b.set in
    let m = member-at words w c.bit_of-bit.result c.args.rank c.word_of-branch.result.seen e.within b.within set e.seen (omega (arith, ones, before)) in
    let turn : 64 * w + c.bit_of-bit.result ≡ w * 64 + c.bit_of-bit.result = omega arith in
    subst (λ (marks : List Bool). slice_get (members marks) c.args.rank ≡ Some (w * 64 + c.bit_of-bit.result)) c.self.view_is (m ∙ ap Some turn)

pub returns-clause-cost : goal.returns-clause-cost
returns-clause-cost g c =
    let e = c.word_of-branch.ensures in
    let words = c.self.inside.words.items in
    let l : 64 * length words ≡ length c.args.self.now = sym (length-bits words) ∙ ap length c.self.view_is in
    subst (λ (n : ℕ). WithinDigits n c.args.steps.now c.bit_of-bit.new.steps) l
    (within-digits (length words) c.args.steps.now c.word_of-branch.new.steps c.bit_of-bit.new.steps c.self.invariant.whole (let w = e.within in omega (arith, w)) e.cost
    c.bit_of-bit.ensures.cost)
