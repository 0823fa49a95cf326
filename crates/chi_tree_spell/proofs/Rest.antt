-- Tokens that are still to be put, item by item.
use Rattle.std.proofs.Common.{◌≡◌, ℕ, ◌+◌, ◌<◌, List, ◌∷◌, ◌++◌, map, length, drop, get_or, drop-cons, suc, sym, ap, ◌∙◌, append_assoc, add-one}
use Rattle.chi_token.specs.declared.token.Token.{Token}
use Rattle.chi_tree_spell.specs.Words.{Tokens, all, each_after}

module _ {X : Type 0} (show : X → Tokens) where
  next : (xs : List X) (i : ℕ) (x : X) → i < length xs → x ≡ get_or xs i x → drop i xs ≡ x ∷ drop (i + 1) xs
  next xs i x below at =
      drop-cons xs i x below ∙ ap (λ v. v ∷ drop (suc i) xs) (sym at) ∙ ap (λ k. x ∷ drop k xs) (sym (add-one i))

  -- the item after what was put before it
  pub all_after : (xs : List X) (i : ℕ) (x : X) (old new whole : Tokens) → i < length xs → x ≡ get_or xs i x
      → old ++ all (map show (drop i xs)) ≡ whole → new ≡ old ++ show x → new ++ all (map show (drop (i + 1) xs)) ≡ whole
  all_after xs i x old new whole below at is put =
      ap (λ ts. ts ++ all (map show (drop (i + 1) xs))) put
      ∙ append_assoc old (show x) (all (map show (drop (i + 1) xs)))
      ∙ ap (λ ys. old ++ all (map show ys)) (sym (next xs i x below at)) ∙ is

  -- the same with a token before each item
  pub each_after_it : (between : Token) (xs : List X) (i : ℕ) (x : X) (old new whole : Tokens) → i < length xs → x ≡ get_or xs i x
      → old ++ each_after between (map show (drop i xs)) ≡ whole → new ≡ old ++ (between ∷ show x)
      → new ++ each_after between (map show (drop (i + 1) xs)) ≡ whole
  each_after_it between xs i x old new whole below at is put =
      ap (λ ts. ts ++ each_after between (map show (drop (i + 1) xs))) put
      ∙ append_assoc old (between ∷ show x) (each_after between (map show (drop (i + 1) xs)))
      ∙ ap (λ ys. old ++ each_after between (map show ys)) (sym (next xs i x below at)) ∙ is
