-- Parts of lists.
use Rattle.std.proofs.Common.{◌≡◌, ℕ, ◌+◌, ◌<◌, List, [], ◌∷◌, ◌++◌, sym, ap, ◌∙◌, length, take, drop, get_or, add-one, arith}
use Rattle.std.proofs.lemmas.List.{drop-drop, drop-take, get_or-drop, length-drop}
use Rattle.std.proofs.Math.Seq.{take-suc}

-- what is taken and then dropped from the front
pub drop_of_take : {A : Type 0} (xs : List A) (n m : ℕ) → drop n (take (n + m) xs) ≡ take m (drop n xs)
drop_of_take xs n m = drop-take n m xs

-- one more element of a part
pub part_grows : {A : Type 0} (xs : List A) (from place : ℕ) (x : A) → from + place < length xs → x ≡ get_or xs (from + place) x →
    take (place + 1) (drop from xs) ≡ take place (drop from xs) ++ x ∷ []
part_grows xs from place x within is =
    let left = length-drop from xs in
    let below : place < length (drop from xs) = omega (arith, within, left) in
    ap (λ k. take k (drop from xs)) (add-one place) ∙ take-suc (drop from xs) place x below ∙
    ap (λ y. take place (drop from xs) ++ y ∷ []) (get_or-drop from xs place x ∙ sym is)

-- what is left when one more is gone
pub one_gone : {A : Type 0} (xs ys rest : List A) (n : ℕ) (x : A) → ys ≡ drop n xs → ys ≡ x ∷ rest → rest ≡ drop (n + 1) xs
one_gone xs ys rest n x is starts = ap (drop 1) (sym starts ∙ is) ∙ drop-drop 1 n xs
