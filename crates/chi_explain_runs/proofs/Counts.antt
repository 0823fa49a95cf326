-- How many labels instances took, one label more at a time.
use Rattle.std.proofs.Common.{◌≡◌, ℕ, ◌+◌, ◌*◌, ◌≤◌, cond, List, [], ◌∷◌, ◌++◌, length, get_or, sym, ◌∙◌, ap, arith}
use Rattle.std.specs.Prelude.{nat_eq}
use Rattle.std.specs.List.{count_by, flat_map}
use Rattle.std.proofs.lemmas.List.{append-nil}
use Rattle.std.proofs.lemmas.List.Sums.{count_by-le-length, sum_by-append}
use Rattle.std.proofs.lemmas.Grind.{flat_map-append}
use Rattle.chi_core.specs.declared.label.Label.{Label}
use Rattle.chi_core.specs.declared.label.Label.TheVariants.{Local, Pair, Wake, Join, Advance}
use Rattle.chi_explain_labels.specs.Labels.{takers, taken, Counted}
use Rattle.chi_explain_runs.specs.Turns.{AreCounts}

takers-few : (label : Label) → length (takers label) ≤ 2
takers-few (Local p) = omega arith
takers-few (Pair p a q b) = omega arith
takers-few (Wake p a) = omega arith
takers-few (Join p) = omega arith
takers-few Advance = omega arith

-- no count is more than twice the number of labels
pub few_more : (label : Label) (old new : List ℕ) (n : ℕ) → Counted (takers label) old new → ((p : ℕ) → get_or old p 0 ≤ 2 * n)
    → (p : ℕ) → get_or new p 0 ≤ 2 * (n + 1)
few_more label old new n counted few p =
    let more : get_or new p 0 ≡ get_or old p 0 + count_by (nat_eq p) (takers label) = counted p in
    let before : get_or old p 0 ≤ 2 * n = few p in
    let some : count_by (nat_eq p) (takers label) ≤ length (takers label) = count_by-le-length (nat_eq p) (takers label) in
    let two : length (takers label) ≤ 2 = takers-few label in
    omega arith

taken-push : (labels : List Label) (label : Label) (p : ℕ) → taken (labels ++ label ∷ []) p ≡ taken labels p + count_by (nat_eq p) (takers label)
taken-push labels label p =
    ap (count_by (nat_eq p)) (flat_map-append takers labels (label ∷ []) ∙ ap (λ (t : List ℕ). flat_map takers labels ++ t) (append-nil (takers label)))
    ∙ sum_by-append (λ x. cond (nat_eq p x) 1 0) (flat_map takers labels) (takers label)

pub counts_more : (labels : List Label) (label : Label) (old new : List ℕ) → Counted (takers label) old new → AreCounts labels old
    → AreCounts (labels ++ label ∷ []) new
counts_more labels label old new counted are p =
    counted p ∙ ap (λ n. n + count_by (nat_eq p) (takers label)) (are p) ∙ sym (taken-push labels label p)
