use Rattle.std.proofs.Common.{◌≡◌, ◌<◌, ◌≤◌, ◌+◌, ◌/◌, ◌%◌, ◌^◌, ℕ, List, Bool, true, false, length, get_or, ap, ◌∙◌, sym, subst, arith}
use Rattle.std.specs.Prelude.{slice_set}
use Rattle.chi_order.specs.Counted.{is_set, IsNode, Recounted}
use Rattle.chi_order.proofs.Words.{changed-bits, read}
use Rattle.chi_order.proofs.Ranking.{room-of, node-fits, node-has, count-has, whole-of, unchanged, counted-anew, has-is, removed, removed-narrow}
use Rattle.chi_order.proofs.ranks.Ranks.remove.Goals as goal

pub index-word-requires : goal.index-word-requires
index-word-requires c = let r = room-of c.self.inside.words.items c.args.self.now c.args.number c.self.view_is c.requires in omega (arith, r)

pub recount-requires-clause-place : goal.recount-requires-clause-place
recount-requires-clause-place c = let r = room-of c.self.inside.words.items c.args.self.now c.args.number c.self.view_is c.requires in omega (arith, r)

pub recount-requires-clause-whole : goal.recount-requires-clause-whole
recount-requires-clause-whole c =
    let r = room-of c.self.inside.words.items c.args.self.now c.args.number c.self.view_is c.requires in
    subst (λ (m : ℕ). (l : ℕ) × (m ≡ 4 ^ l)) (sym c.size.ensures) (whole-of (length c.self.inside.words.items) c.self.invariant.whole (omega (arith, r)))

pub recount-requires-clause-more : goal.recount-requires-clause-more
recount-requires-clause-more c =
    subst (λ (m : ℕ). (j k a : ℕ) → IsNode m j k a → get_or c.self.inside.counts.items k 0 < 2 ^ 31) (sym c.size.ensures) (node-fits c.self.inside.words.items c.self.inside.count c.self.inside.counts.items c.self.invariant)

pub recount-requires-clause-less : goal.recount-requires-clause-less
recount-requires-clause-less c =
    let words = c.self.inside.words.items in
    let r = room-of words c.args.self.now c.args.number c.self.view_is c.requires in
    let at = read words (c.args.number / 64) c.index-word.result.now c.index-word.ensures (omega (arith, r)) in
    let is = has-is words c.self.invariant.narrow c.args.number 0 c.index-word.result.now r at true (sym c.is_set.ensures ∙ c.if-is_set.true) in
    subst (λ (m : ℕ). (j k a : ℕ) → IsNode m j k a → a ≤ c.args.number / 64 → c.args.number / 64 < a + 4 ^ j → 1 ≤ get_or c.self.inside.counts.items k 0) (sym c.size.ensures) (λ j k a node low high. node-has words c.self.inside.count c.self.inside.counts.items c.self.invariant c.args.number j k a is node low high)

pub overflow_sub-self : goal.overflow_sub-self
overflow_sub-self c =
    let words = c.self.inside.words.items in
    let r = room-of words c.args.self.now c.args.number c.self.view_is c.requires in
    let at = read words (c.args.number / 64) c.index-word.result.now c.index-word.ensures (omega (arith, r)) in
    let is = has-is words c.self.invariant.narrow c.args.number 0 c.index-word.result.now r at true (sym c.is_set.ensures ∙ c.if-is_set.true) in
    count-has words c.self.inside.count c.self.inside.counts.items c.self.invariant c.args.number is r

pub index_mut-requires : goal.index_mut-requires
index_mut-requires c = let r = room-of c.self.inside.words.items c.args.self.now c.args.number c.self.view_is c.requires in omega (arith, r)

pub invariant_of-self : goal.invariant_of-self
invariant_of-self c =
    let words = c.self.inside.words.items in
    let r = room-of words c.args.self.now c.args.number c.self.view_is c.requires in
    let at = read words (c.args.number / 64) c.index-word.result.now c.index-word.ensures (omega (arith, r)) in
    let was : is_set c.index-word.result.now (c.args.number % 64) ≡ true = sym c.is_set.ensures ∙ c.if-is_set.true in
    let is = has-is words c.self.invariant.narrow c.args.number 0 c.index-word.result.now r at true was in
    counted-anew words c.self.inside.count c.self.inside.counts.items c.self.invariant (slice_set words (c.args.number / 64) c.without_bit.result) c.recount.new.counts.items c.args.number _ false r
    (removed words c.self.invariant.narrow c.args.number c.without_bit.result c.index-word.result.now r at was c.without_bit.ensures) is (subst (λ (m : ℕ). Recounted m (c.args.number / 64) false c.self.inside.counts.items c.recount.new.counts.items) c.size.ensures c.recount.ensures) (let h = count-has words c.self.inside.count c.self.inside.counts.items c.self.invariant c.args.number is r in omega (arith, h))
    (removed-narrow words c.self.invariant.narrow c.args.number c.without_bit.result c.index-word.result.now r at was c.without_bit.ensures)

pub returns-then-is_set : goal.returns-then-is_set
returns-then-is_set c =
    let words = c.self.inside.words.items in
    let r = room-of words c.args.self.now c.args.number c.self.view_is c.requires in
    let at = read words (c.args.number / 64) c.index-word.result.now c.index-word.ensures (omega (arith, r)) in
    let was : is_set c.index-word.result.now (c.args.number % 64) ≡ true = sym c.is_set.ensures ∙ c.if-is_set.true in
    changed-bits words _ c.args.number false (removed words c.self.invariant.narrow c.args.number c.without_bit.result c.index-word.result.now r at was c.without_bit.ensures) r
    ∙ ap (λ (marks : List Bool). slice_set marks c.args.number false) c.self.view_is

pub returns-else-is_set : goal.returns-else-is_set
returns-else-is_set c =
    let words = c.self.inside.words.items in
    let r = room-of words c.args.self.now c.args.number c.self.view_is c.requires in
    let at = read words (c.args.number / 64) c.index-word.result.now c.index-word.ensures (omega (arith, r)) in
    let was : is_set c.index-word.result.now (c.args.number % 64) ≡ false = sym c.is_set.ensures ∙ c.if-is_set.false in
    let is = has-is words c.self.invariant.narrow c.args.number 0 c.index-word.result.now r at false was in
    subst (λ (marks : List Bool). marks ≡ slice_set marks c.args.number false) c.self.view_is (unchanged words c.args.number false r is)
