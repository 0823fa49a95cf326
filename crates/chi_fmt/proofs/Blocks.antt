-- The lines of a block, statement by statement.
use Rattle.std.proofs.Common.{◌≡◌, ℕ, ◌+◌, ◌<◌, ◌≤◌, true, false, List, [], ◌∷◌, ◌++◌, length, get_or, drop, map, refl, sym, ap, ◌∙◌, add-one, append_assoc, append-nil}
use Rattle.std.proofs.lemmas.List.{drop_all, map-append}
use Rattle.std.proofs.Math.Seq.{drop-cons}
use Rattle.chi_tree.specs.declared.statement.Step.{Step}
use Rattle.chi_fmt.specs.declared.line.Line.{Line}
use Rattle.chi_fmt.specs.Lines.{InBlock, block_lines, is_some, step_lines}

followed : (xs : List InBlock) (y : InBlock) → is_some (xs ++ y ∷ []) ≡ true
followed [] y = refl
followed (x ∷ xs) y = refl

-- a statement after which others stand
block_more : (margin : ℕ) (step : Step) (rest : List Step) (last : Step)
    → block_lines margin (map step_lines (step ∷ rest) ++ step_lines last ∷ []) ≡
    step_lines step margin true ++ block_lines margin (map step_lines rest ++ step_lines last ∷ [])
block_more margin step rest last =
    ap (λ b. step_lines step margin b ++ block_lines margin (map step_lines rest ++ step_lines last ∷ []))
    (followed (map step_lines rest) (step_lines last))

-- the statements before the last one, and that one
pub block_begin : (margin : ℕ) (steps front : List Step) (last : Step) (lines : List Line) → steps ≡ front ++ last ∷ []
    → lines ++ block_lines margin (map step_lines front ++ step_lines last ∷ []) ≡ lines ++ block_lines margin (map step_lines steps)
block_begin margin steps front last lines same =
    ap (λ xs. lines ++ block_lines margin xs) (sym (map-append step_lines front (last ∷ [])) ∙ ap (map step_lines) (sym same))

pub block_turn : (margin i : ℕ) (front : List Step) (step last : Step) (lines more whole : List Line)
    → more ≡ lines ++ step_lines step margin true → lines ++ block_lines margin (map step_lines (drop i front) ++ step_lines last ∷ []) ≡ whole
    → i < length front → step ≡ get_or front i step
    → more ++ block_lines margin (map step_lines (drop (i + 1) front) ++ step_lines last ∷ []) ≡ whole
block_turn margin i front step last lines more whole added same low is =
    let tail : drop i front ≡ step ∷ drop (i + 1) front =
    drop-cons front i step low ∙ (λ j. sym is j ∷ drop (sym (add-one i) j) front) in
    ap (λ xs. xs ++ block_lines margin (map step_lines (drop (i + 1) front) ++ step_lines last ∷ [])) added
    ∙ append_assoc lines (step_lines step margin true) (block_lines margin (map step_lines (drop (i + 1) front) ++ step_lines last ∷ []))
    ∙ ap (λ xs. lines ++ xs) (sym (block_more margin step (drop (i + 1) front) last))
    ∙ ap (λ xs. lines ++ block_lines margin (map step_lines xs ++ step_lines last ∷ [])) (sym tail)
    ∙ same

pub block_end : (margin i : ℕ) (front : List Step) (last : Step) (lines more whole : List Line)
    → length front ≤ i → lines ++ block_lines margin (map step_lines (drop i front) ++ step_lines last ∷ []) ≡ whole
    → more ≡ lines ++ step_lines last margin false → more ≡ whole
block_end margin i front last lines more whole high same added =
    added ∙ ap (λ xs. lines ++ xs) (sym (append-nil (step_lines last margin false)))
    ∙ ap (λ xs. lines ++ block_lines margin (map step_lines xs ++ step_lines last ∷ [])) (sym (drop_all i front high))
    ∙ same
