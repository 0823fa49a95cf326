-- What stands before the first `=` of a word, and what after it, by how many bytes stand before it.
use Rattle.std.proofs.Common.{◌≡◌, ℕ, ◌+◌, suc, arith, ◌∙◌, Bool, true, false, not, List, [], ◌∷◌, length, take, drop, Option, Some, None, refl, sym, ap}
use Rattle.std.specs.Prelude.{◌==◌}
use Rattle.std.specs.List.{prefix_len}
use Rattle.chi_cli.specs.Commands.{Text}
use Rattle.chi_cli.specs.Splitting.{name_in, value_in}

-- a byte of the name
abbrev pub is_before : ℕ → Bool
is_before c = not (c == 61)

one_more : (n : ℕ) → 1 + n ≡ suc n
one_more n = omega arith

pub name_cut : (word : Text) → take (prefix_len is_before word) word ≡ name_in word
name_cut [] = refl
name_cut (c ∷ cs) = each (c == 61) refl (name_cut cs) where
  each : (ends : Bool) → (c == 61) ≡ ends → take (prefix_len is_before cs) cs ≡ name_in cs
      → take (prefix_len is_before (c ∷ cs)) (c ∷ cs) ≡ name_in (c ∷ cs)
  each true is rest = rw is refl
  each false is rest = rw is (ap (λ (k : ℕ). take k (c ∷ cs)) (one_more (prefix_len is_before cs)) ∙ ap (λ (name : Text). c ∷ name) rest)

abbrev after_one : Text → Option Text
after_one [] = None
after_one (c ∷ cs) = Some cs

after_cut : (word : Text) → after_one (drop (prefix_len is_before word) word) ≡ value_in word
after_cut [] = refl
after_cut (c ∷ cs) = each (c == 61) refl (after_cut cs) where
  each : (ends : Bool) → (c == 61) ≡ ends → after_one (drop (prefix_len is_before cs) cs) ≡ value_in cs
      → after_one (drop (prefix_len is_before (c ∷ cs)) (c ∷ cs)) ≡ value_in (c ∷ cs)
  each true is rest = rw is refl
  each false is rest = rw is (ap (λ (k : ℕ). after_one (drop k (c ∷ cs))) (one_more (prefix_len is_before cs)) ∙ rest)

pub value_cut : (word : Text) (c : ℕ) (value : Text) → drop (prefix_len is_before word) word ≡ c ∷ value → Some value ≡ value_in word
value_cut word c value left = ap after_one (sym left) ∙ after_cut word

pub no_value_cut : (word : Text) → drop (prefix_len is_before word) word ≡ [] → None ≡ value_in word
no_value_cut word none = ap after_one (sym none) ∙ after_cut word

pub none_left : (xs : List ℕ) → length xs ≡ 0 → xs ≡ []
none_left [] e = refl
none_left (x ∷ xs) e = absurd (omega arith)
