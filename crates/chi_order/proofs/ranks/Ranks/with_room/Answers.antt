use Rattle.std.proofs.Common.{◌≡◌, ℕ, ◌≤◌, length, replicate, ap, ◌∙◌, inr, arith}
use Rattle.std.proofs.lemmas.List.{length-replicate}
use Rattle.chi_order.specs.Counted.{bits}
use Rattle.chi_order.proofs.Ranking.{counted-none, no-members}
use Rattle.chi_order.proofs.Words.{length-bits}
use Rattle.chi_order.proofs.ranks.Ranks.with_room.Goals as goal

pub invariant_of-result : goal.invariant_of-result
invariant_of-result c =
    counted-none c.in_ok-words.words c.in_ok-vec.field-0.items c.in_ok-vec-2.field-0.items
    (c.in_ok-vec.ensures.items_if_clones_equal (λ y e. e)) (c.in_ok-vec-2.ensures.items_if_clones_equal (λ y e. e))
    c.in_ok-words.ensures.few (inr c.in_ok-words.ensures.whole)

pub returns-clause-room : goal.returns-clause-room
returns-clause-room c =
    let items : c.in_ok-vec.field-0.items ≡ replicate c.in_ok-words.words 0 = c.in_ok-vec.ensures.items_if_clones_equal (λ y e. e) in
    let l : length c.in_ok-vec.field-0.items ≡ c.in_ok-words.words = ap length items ∙ length-replicate {A = ℕ} c.in_ok-words.words 0 in
    let v = length-bits c.in_ok-vec.field-0.items in
    let r = c.in_ok-words.ensures.room in
    let room : c.args.numbers ≤ length (bits c.in_ok-vec.field-0.items) = omega (arith, l, v, r) in room

pub returns-clause-empty : goal.returns-clause-empty
returns-clause-empty c = no-members c.in_ok-words.words c.in_ok-vec.field-0.items (c.in_ok-vec.ensures.items_if_clones_equal (λ y e. e))
