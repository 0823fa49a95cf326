-- The line of the first constant that code sets.
use Rattle.std.proofs.Common.{◌≡◌, ℕ, zero, suc, ◌+◌, ◌<◌, ◌≤◌, List, [], ◌∷◌, length, get_or, drop, Option, Some, None, refl, sym, ap, ◌∙◌, arith}
use Rattle.chi_code.specs.declared.instr.Instr.{Instr}
use Rattle.chi_machine_laws.specs.Beginning.{line_from}
use Rattle.chi_machine_constants.specs.Settings.{or_else}

drop-step : (xs : List Instr) (k : ℕ) (d : Instr) → k < length xs → drop k xs ≡ get_or xs k d ∷ drop (k + 1) xs
drop-step [] k d h = absurd (omega (arith, h))
drop-step (x ∷ xs) zero d h = refl
drop-step (x ∷ xs) (suc k) d h =
    let one : suc (k + 1) ≡ suc k + 1 = omega arith in
    drop-step xs k d (omega (arith, h)) ∙ ap (λ n. get_or xs k d ∷ drop n (x ∷ xs)) one

drop-end : (xs : List Instr) (k : ℕ) → length xs ≤ k → drop k xs ≡ []
drop-end [] zero h = refl
drop-end [] (suc k) h = refl
drop-end (x ∷ xs) zero h = absurd (omega (arith, h))
drop-end (x ∷ xs) (suc k) h = drop-end xs k (omega (arith, h))

module _ (instrs : List Instr) (k : ℕ) (x : Instr) (o : Option ℕ) (h : k < length instrs) (is : x ≡ get_or instrs k x) (e : (code : List Instr) → line_from (x ∷ code) ≡ or_else o (line_from code)) where
  stepped : line_from (drop k instrs) ≡ or_else o (line_from (drop (k + 1) instrs))
  stepped = ap line_from (drop-step instrs k x h) ∙ ap (λ y. line_from (y ∷ drop (k + 1) instrs)) (sym is) ∙ e (drop (k + 1) instrs)

  pub line_later : o ≡ None → line_from (drop (k + 1) instrs) ≡ line_from (drop k instrs)
  line_later n = sym (stepped ∙ ap (λ w. or_else w (line_from (drop (k + 1) instrs))) n)

  pub line_here : (line : ℕ) → o ≡ Some line → Some line ≡ line_from (drop k instrs)
  line_here line n = sym (stepped ∙ ap (λ w. or_else w (line_from (drop (k + 1) instrs))) n)

pub no_line : (instrs : List Instr) (k : ℕ) → length instrs ≤ k → None ≡ line_from (drop k instrs)
no_line instrs k h = sym (ap line_from (drop-end instrs k h))
