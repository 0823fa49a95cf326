-- The first line of a text.
use Rattle.std.proofs.Common.{◌≡◌, ℕ, ◌+◌, ◌≤◌, List, [], ◌∷◌, ◌++◌, Some, None, length, take, drop, sym, ◌∙◌, ap, refl, arith, length-append}
use Rattle.chi_log.specs.Allowed.{first_lines}
use Rattle.chi_log.proofs.Lines.{alone, line_of_one, no_line}
use Rattle.chi_trace.specs.Ends.{IsCut, OneLine}
use Rattle.chi_trace.specs.Logs.{ended}

length_ended : (line : List ℕ) → length (ended line) ≡ length line + 1
length_ended line = length-append line (10 ∷ [])

take_front : (front back : List ℕ) (n : ℕ) → n ≡ length front → take n (front ++ back) ≡ front
take_front [] back n e = ap (λ k. take k back) e
take_front (x ∷ xs) back n e = ap (λ k. take k (x ∷ xs ++ back)) e ∙ ap (λ l. x ∷ l) (take_front xs back (length xs) refl)

drop_front : (front back : List ℕ) (n : ℕ) → n ≡ length front → drop n (front ++ back) ≡ back
drop_front [] back n e = ap (λ k. drop k back) e
drop_front (x ∷ xs) back n e = ap (λ k. drop k (x ∷ xs ++ back)) e ∙ drop_front xs back (length xs) refl

module _ (text line more : List ℕ) (cut : IsCut text line more) where
  pub cut_within : length line + 1 ≤ length text
  cut_within =
      let whole : length text ≡ length (ended line) + length more = ap length cut.is ∙ length-append (ended line) more in
      let own = length_ended line in
      omega (arith, whole, own)

  module _ (front back : List ℕ) (n : ℕ) (so : n ≡ length line + 1) (taken : front ≡ take n text) (left : back ≡ drop n text) where
    front_is : front ≡ ended line
    front_is = taken ∙ ap (take n) cut.is ∙ take_front (ended line) more n (so ∙ sym (length_ended line))

    back_is : back ≡ more
    back_is = left ∙ ap (drop n) cut.is ∙ drop_front (ended line) more n (so ∙ sym (length_ended line))

    pub cut_first : first_lines 1 text ≡ Some front
    cut_first =
        ap (first_lines 1) cut.is ∙ alone (ended line) more (line_of_one line cut.one_line) ∙ ap Some (sym front_is)

    pub cut_whole : text ≡ front ++ back
    cut_whole = cut.is ∙ (λ k. sym front_is k ++ sym back_is k)

pub first_none : (text : List ℕ) → OneLine text → first_lines 1 text ≡ None
first_none text one = no_line text one

pub ruleset lines = (cut_within, cut_first, cut_whole, first_none)
