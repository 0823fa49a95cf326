-- Lines that are numbers, one after the other.
use Rattle.std.proofs.Common.{◌≡◌, ◌≢◌, ℕ, Bool, true, false, List, [], ◌∷◌, ◌++◌, refl, sym, ◌∙◌, ap, append_assoc}
use Rattle.std.specs.Prelude.{Option, Some, None, if◌then◌else◌}
use Rattle.std.specs.Char.{is_ascii_digit}
use Rattle.std.specs.List.{flat_map}
use Rattle.std.specs.Str.Parse.{digits_value}
use Rattle.chi_cli.specs.Numbers.{is_numeral, within}
use Rattle.chi_trace.specs.Ends.{OneLine}
use Rattle.chi_trace.specs.Logs.{ended}
use Rattle.chi_trace.proofs.Cuts.{and_both}
use Rattle.chi_trace.proofs.OneLine.{cut, one_line_of}
use Rattle.chi_picks.specs.Lists.{AreOf, pick_in}

-- a number has no line feed
pub pick_one : (line : List ℕ) (pick : ℕ) → pick_in line ≡ Some pick → OneLine line
pick_one line pick e = by (is_numeral line) refl e
  where
    by : (b : Bool) → is_numeral line ≡ b → (if b then within 0 18_446_744_073_709_551_615 (digits_value 10 line) else None) ≡ Some pick → OneLine line
    by true q e = one_line_of is_ascii_digit refl line (and_both _ _ (and_both _ _ q).1).1
    by false q e = absurd (cc)

-- a list of which the one line is a number, and the others are the other numbers
pub first_pick : (line : List ℕ) (lines : List (List ℕ)) (pick : ℕ) (picks : List ℕ) → AreOf (line ∷ lines) (pick ∷ picks) → pick_in line ≡ Some pick
first_pick line lines pick picks are = ap (head_or None) are
  where
    head_or : Option ℕ → List (Option ℕ) → Option ℕ
    head_or other [] = other
    head_or other (x ∷ xs) = x

pub other_picks : (line : List ℕ) (lines : List (List ℕ)) (pick : ℕ) (picks : List ℕ) → AreOf (line ∷ lines) (pick ∷ picks) → AreOf lines picks
other_picks line lines pick picks are = ap tail_of are
  where
    tail_of : List (Option ℕ) → List (Option ℕ)
    tail_of [] = []
    tail_of (x ∷ xs) = xs

pub one_more : (line : List ℕ) (lines : List (List ℕ)) (pick : ℕ) (picks : List ℕ) → pick_in line ≡ Some pick → AreOf lines picks → AreOf (line ∷ lines) (pick ∷ picks)
one_more line lines pick picks is are = λ i. is i ∷ are i

-- one more at the end
pub one_last : (lines : List (List ℕ)) (picks line : List ℕ) (pick : ℕ) → AreOf lines picks → pick_in line ≡ Some pick → AreOf (lines ++ line ∷ []) (picks ++ pick ∷ [])
one_last [] [] line pick are is = λ i. is i ∷ []
one_last [] (p ∷ ps) line pick are is = absurd (cc)
one_last (l ∷ ls) [] line pick are is = absurd (cc)
one_last (l ∷ ls) (p ∷ ps) line pick are is =
    one_more l (ls ++ line ∷ []) p (ps ++ pick ∷ []) (first_pick l ls p ps are) (one_last ls ps line pick (other_picks l ls p ps are) is)

pub lines_last : (lines : List (List ℕ)) (line : List ℕ) → flat_map ended (lines ++ line ∷ []) ≡ flat_map ended lines ++ ended line
lines_last [] line = append-nil' (ended line)
  where
    append-nil' : (xs : List ℕ) → xs ++ [] ≡ xs
    append-nil' [] = refl
    append-nil' (x ∷ xs) = ap (λ ys. x ∷ ys) (append-nil' xs)
lines_last (l ∷ ls) line = ap (λ xs. ended l ++ xs) (lines_last ls line) ∙ sym (append_assoc (ended l) (flat_map ended ls) (ended line))

-- a text that begins with a line, in two ways
pub same_line : (line other more rest : List ℕ) (pick : ℕ) → OneLine line → pick_in other ≡ Some pick → ended line ++ more ≡ ended other ++ rest
    → (line ≡ other) × (more ≡ rest)
same_line line other more rest pick one is e = cut line other more rest one (pick_one other pick is) e

pub some_line : (line more : List ℕ) → ended line ++ more ≢ []
some_line [] more e = cc
some_line (c ∷ cs) more e = cc
