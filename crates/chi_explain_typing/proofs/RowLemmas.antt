-- Looking through a table of words, row by row.
use Rattle.std.proofs.Common.{◌≡◌, ℕ, ◌+◌, ◌<◌, true, false, cond, eqb, List, Option, Some, length, get_or, drop, map, ap, ◌∙◌, Bor}
use Rattle.std.proofs.lemmas.List.{at_drop_more}
use Rattle.chi_explain_typing.specs.Rules.{words_at}

-- what the rows from i on give
abbrev pub words_from : ℕ → List (ℕ × Bor (List ℕ)) → Option (List ℕ)
words_from number rows = words_at number (map (λ row. (row.0, row.1.now)) rows)

-- the rows from i on begin with the row at i
words_from-row : (number : ℕ) (rows : List (ℕ × Bor (List ℕ))) (i : ℕ) (d : ℕ × Bor (List ℕ)) → i < length rows → words_from number (drop i rows) ≡ cond (eqb (get_or rows i d).0 number) (Some (get_or rows i d).1.now) (words_from number (drop (i + 1) rows))
unfolding words_at
words_from-row number rows i d within = at_drop_more (λ rows. words_from number rows) rows i d within

pub words_from-found : (number : ℕ) (rows : List (ℕ × Bor (List ℕ))) (i : ℕ) (d : ℕ × Bor (List ℕ)) → i < length rows → eqb (get_or rows i d).0 number ≡ true → words_from number (drop i rows) ≡ Some (get_or rows i d).1.now
words_from-found number rows i d within eq =
    words_from-row number rows i d within ∙ ap (λ b. cond b (Some (get_or rows i d).1.now) (words_from number (drop (i + 1) rows))) eq

pub words_from-passed : (number : ℕ) (rows : List (ℕ × Bor (List ℕ))) (i : ℕ) (d : ℕ × Bor (List ℕ)) → i < length rows → eqb (get_or rows i d).0 number ≡ false → words_from number (drop i rows) ≡ words_from number (drop (i + 1) rows)
words_from-passed number rows i d within eq =
    words_from-row number rows i d within ∙ ap (λ b. cond b (Some (get_or rows i d).1.now) (words_from number (drop (i + 1) rows))) eq
