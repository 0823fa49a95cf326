use Rattle.std.proofs.Common.{◌≡◌, ◌<◌, ◌/◌, ◌%◌, ◌^◌, ℕ, List, Bool, true, false, length, get_or, ap, ◌∙◌, sym, subst, rules, arith}
use Rattle.std.specs.Prelude.{slice_set}
use Rattle.chi_order.specs.Counted.{is_set, IsNode, Recounted}
use Rattle.chi_order.proofs.Words.{changed-bits, read}
use Rattle.chi_order.proofs.Ranking.{room-of, node-fits, count-few, whole-of, unchanged, counted-anew, has-is, inserted, inserted-narrow}
use Rattle.chi_order.proofs.ranks.Ranks.insert.Goals as goal

pub index-word-requires : goal.index-word-requires
index-word-requires c = let r = room-of c.self.inside.words.items c.args.self.now c.args.number c.self.view_is c.requires in omega (arith, r)

pub recount-requires-clause-place : goal.recount-requires-clause-place
recount-requires-clause-place c = let r = room-of c.self.inside.words.items c.args.self.now c.args.number c.self.view_is c.requires in omega (arith, r)

pub recount-requires-clause-whole : goal.recount-requires-clause-whole
recount-requires-clause-whole c =
    let r = room-of c.self.inside.words.items c.args.self.now c.args.number c.self.view_is c.requires in
    subst (λ (m : ℕ). (l : ℕ) × (m ≡ 4 ^ l)) (sym c.size.ensures) (whole-of (length c.self.inside.words.items) c.self.invariant.whole (omega (arith, r)))

pub recount-requires-clause-more : goal.recount-requires-clause-more
recount-requires-clause-more c =
    subst (λ (m : ℕ). (j k a : ℕ) → IsNode m j k a → get_or c.self.inside.counts.items k 0 < 2 ^ 31) (sym c.size.ensures) (node-fits c.self.inside.words.items c.self.inside.count c.self.inside.counts.items c.self.invariant)

pub overflow_add-self : goal.overflow_add-self
overflow_add-self c = let f = count-few c.self.inside.words.items c.self.inside.count c.self.inside.counts.items c.self.invariant in omega (arith, f)

pub index_mut-requires : goal.index_mut-requires
index_mut-requires c = let r = room-of c.self.inside.words.items c.args.self.now c.args.number c.self.view_is c.requires in omega (arith, r)

pub invariant_of-self : goal.invariant_of-self
invariant_of-self c =
    let words = c.self.inside.words.items in
    let r = room-of words c.args.self.now c.args.number c.self.view_is c.requires in
    let at = read words (c.args.number / 64) c.index-word.result.now c.index-word.ensures (omega (arith, r)) in
    let was : is_set c.index-word.result.now (c.args.number % 64) ≡ false = sym c.is_set.ensures ∙ (search rules) in
    let is = has-is words c.self.invariant.narrow c.args.number 0 c.index-word.result.now r at false was in
    counted-anew words c.self.inside.count c.self.inside.counts.items c.self.invariant (slice_set words (c.args.number / 64) c.with_bit.result) c.recount.new.counts.items c.args.number _ true r
    (inserted words c.self.invariant.narrow c.args.number c.with_bit.result c.index-word.result.now r at was c.with_bit.ensures) is (subst (λ (m : ℕ). Recounted m (c.args.number / 64) true c.self.inside.counts.items c.recount.new.counts.items) c.size.ensures c.recount.ensures) (omega arith)
    (inserted-narrow words c.self.invariant.narrow c.args.number c.with_bit.result c.index-word.result.now r at was c.with_bit.ensures)

pub returns-then-not-is_set : goal.returns-then-not-is_set
returns-then-not-is_set c =
    let words = c.self.inside.words.items in
    let r = room-of words c.args.self.now c.args.number c.self.view_is c.requires in
    let at = read words (c.args.number / 64) c.index-word.result.now c.index-word.ensures (omega (arith, r)) in
    let was : is_set c.index-word.result.now (c.args.number % 64) ≡ false = sym c.is_set.ensures ∙ (search rules) in
    changed-bits words _ c.args.number true (inserted words c.self.invariant.narrow c.args.number c.with_bit.result c.index-word.result.now r at was c.with_bit.ensures) r
    ∙ ap (λ (marks : List Bool). slice_set marks c.args.number true) c.self.view_is

pub returns-else-not-is_set : goal.returns-else-not-is_set
returns-else-not-is_set c =
    let words = c.self.inside.words.items in
    let r = room-of words c.args.self.now c.args.number c.self.view_is c.requires in
    let at = read words (c.args.number / 64) c.index-word.result.now c.index-word.ensures (omega (arith, r)) in
    let was : is_set c.index-word.result.now (c.args.number % 64) ≡ true = sym c.is_set.ensures ∙ (search rules) in
    let is = has-is words c.self.invariant.narrow c.args.number 0 c.index-word.result.now r at true was in
    subst (λ (marks : List Bool). marks ≡ slice_set marks c.args.number true) c.self.view_is (unchanged words c.args.number true r is)
