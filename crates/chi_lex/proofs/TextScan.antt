-- The longest text, and what stops one.
use Rattle.std.proofs.Common.{◌≡◌, ◌≢◌, ℕ, zero, suc, ◌+◌, ◌-◌, ◌<◌, ◌≤◌, true, false, eqb, Some, None, List, [], ◌∷◌, ◌++◌, length, take, drop, get_or, length-append, append_assoc, refl, sym, ap, subst, ◌∙◌, inl, inr, ◌⊎◌, arith}
use Rattle.std.specs.Option.{option_map}
use Rattle.std.proofs.lemmas.List.{take-append-le, take-append-drop, drop_at}
use Rattle.std.proofs.lemmas.Bool.{cases_lt}
use Rattle.std.proofs.lemmas.Bool.Decides.{eqb_tells}
use Rattle.std.proofs.Math.Seq.{take-append-add, take-suc, drop-cons}
use Rattle.chi_token.specs.declared.token.Token.TheVariants as token
use Rattle.chi_token.specs.Characters.{quote}
use Rattle.chi_token.specs.Prefixes.{longest_prefix, length_found}
use Rattle.chi_token.specs.Texts.{meaning, text_of}
use Rattle.chi_token.specs.Tokens.{token_spelled_by}
use Rattle.chi_lex.specs.Stops.{stop_of, text_stop}
use Rattle.chi_lex.specs.Faults.{characters_length}
use Rattle.chi_lex.specs.TextParts.{StopsText}
use Rattle.chi_lex.proofs.Prefixes.{longest_prefix-at, longest_prefix-none}
use Rattle.chi_lex.proofs.TextLemmas.{meaning-append-none, meaning-quote, meaning-before-quote, text_of-snoc, text_of-no_run, text_of-open}

token_spelled_by-text : (cs : List ℕ) → token_spelled_by (quote ∷ cs) ≡ option_map (λ t. token.Text t) (text_of cs)
unfolding token_spelled_by
token_spelled_by-text cs = refl

token_spelled_by-no_text : (cs : List ℕ) → text_of cs ≡ None → token_spelled_by (quote ∷ cs) ≡ None
token_spelled_by-no_text cs none = token_spelled_by-text cs ∙ ap (λ o. option_map (λ t. token.Text t) o) none

-- more bytes after a closed text
closed-longer : (run back m : List ℕ) → meaning run ≡ Some m → (k : ℕ) → k < length back → token_spelled_by ((quote ∷ run ++ quote ∷ []) ++ take (suc k) back) ≡ None
closed-longer run back m is k low =
    let front = run ++ quote ∷ [] in
    let last = get_or back k 0 in
    let none : meaning (front ++ take k back) ≡ None =
    subst (λ xs. meaning xs ≡ None) (sym (append_assoc run (quote ∷ []) (take k back)))
    (meaning-append-none run (quote ∷ take k back) m is (meaning-quote (take k back))) in
    let split : front ++ take (suc k) back ≡ (front ++ take k back) ++ last ∷ [] =
    ap (λ xs. front ++ xs) (take-suc back k 0 low) ∙ sym (append_assoc front (take k back) (last ∷ [])) in
    token_spelled_by-no_text (front ++ take (suc k) back)
    (subst (λ xs. text_of xs ≡ None) (sym split) (text_of-no_run (front ++ take k back) last none))

pub longest-text : (run back m : List ℕ) → meaning run ≡ Some m → longest_prefix token_spelled_by (length ((quote ∷ run ++ quote ∷ []) ++ back)) ((quote ∷ run ++ quote ∷ []) ++ back) ≡ Some (token.Text m, length (quote ∷ run ++ quote ∷ []))
longest-text run back m is =
    longest_prefix-at token_spelled_by (token.Text m) (quote ∷ run ++ quote ∷ []) back
    (token_spelled_by-text (run ++ quote ∷ [])
    ∙ ap (λ o. option_map (λ t. token.Text t) o) (text_of-snoc run quote ∙ is))
    (closed-longer run back m is)

-- a front of a run is no text
front-no_text : (run m : List ℕ) → meaning run ≡ Some m → (j : ℕ) → j < length run → text_of (take (suc j) run) ≡ None
front-no_text run m is j low =
    let last = get_or run j 0 in
    let split = take-suc run j 0 low in
    subst (λ xs. text_of xs ≡ None) (sym split) (by (eqb_tells last quote))
  where
    by : ((eqb (get_or run j 0) quote ≡ true) × (get_or run j 0 ≡ quote)) ⊎ ((eqb (get_or run j 0) quote ≡ false) × (get_or run j 0 ≢ quote)) → text_of (take j run ++ get_or run j 0 ∷ []) ≡ None
    by (inl same) =
        let whole : take j run ++ quote ∷ drop (suc j) run ≡ run =
        ap (λ c. take j run ++ c ∷ drop (suc j) run) (sym (same.1))
        ∙ ap (λ xs. take j run ++ xs) (sym (drop-cons run j 0 low))
        ∙ take-append-drop j run in
        text_of-no_run (take j run) (get_or run j 0)
        (meaning-before-quote (take j run) (drop (suc j) run) m (subst (λ xs. meaning xs ≡ Some m) (sym whole) is))
    by (inr other) = text_of-open (take j run) (get_or run j 0) other.1

-- a run with something after it that stops it is no text
stopped-no_text : (run back m : List ℕ) → meaning run ≡ Some m → StopsText back → (k : ℕ) → k < length back → text_of (run ++ take (suc k) back) ≡ None
stopped-no_text run back m is stops k low =
    let last = get_or back k 0 in
    let split : run ++ take (suc k) back ≡ (run ++ take k back) ++ last ∷ [] =
    ap (λ xs. run ++ xs) (take-suc back k 0 low) ∙ sym (append_assoc run (take k back) (last ∷ [])) in
    subst (λ xs. text_of xs ≡ None) (sym split) (by k low)
  where
    by : (k : ℕ) → k < length back → text_of ((run ++ take k back) ++ get_or back k 0 ∷ []) ≡ None
    by zero low = text_of-open (run ++ []) (get_or back 0 0) stops.1
    by (suc j) low =
        text_of-no_run (run ++ take (suc j) back) (get_or back (suc j) 0)
        (meaning-append-none run (take (suc j) back) m is (stops.0 j (omega arith)))

-- no front of a run and its rest is a text
no_text : (run back m : List ℕ) → meaning run ≡ Some m → StopsText back → (n : ℕ) → n ≤ length (run ++ back) → text_of (take n (run ++ back)) ≡ None
no_text run back m is stops zero low = refl
no_text run back m is stops (suc j) low = by (cases_lt j (length run))
  where
    by : (j < length run) ⊎ (length run ≤ j) → text_of (take (suc j) (run ++ back)) ≡ None
    by (inl within) =
        subst (λ xs. text_of xs ≡ None) (sym (take-append-le (suc j) run back (omega arith))) (front-no_text run m is j within)
    by (inr past) =
        let k = j - length run in
        let size : suc j ≡ length run + suc k = omega arith in
        subst (λ n. text_of (take n (run ++ back)) ≡ None) (sym size)
        (subst (λ xs. text_of xs ≡ None) (sym (take-append-add run back (suc k)))
        (stopped-no_text run back m is stops k (omega (arith, length-append run back))))

pub longest-no_text : (run back m : List ℕ) → meaning run ≡ Some m → StopsText back → longest_prefix token_spelled_by (length (quote ∷ run ++ back)) (quote ∷ run ++ back) ≡ None
unfolding token_spelled_by
longest-no_text run back m is stops =
    longest_prefix-none token_spelled_by (quote ∷ run ++ back) (length (quote ∷ run ++ back)) refl
    (λ n low. token_spelled_by-no_text (take n (run ++ back)) (no_text run back m is stops n (omega arith)))

-- the whole characters before what stops a text
characters_length-run : (run back m : List ℕ) → meaning run ≡ Some m → StopsText back → characters_length (run ++ back) ≡ length run
characters_length-run run back m is stops =
    ap (λ o. length_found o)
    (longest_prefix-at meaning m run back is
    (λ k low. meaning-append-none run (take (suc k) back) m is (stops.0 k low)))

pub stop_of-text : (run back m : List ℕ) → meaning run ≡ Some m → StopsText back → stop_of (quote ∷ run ++ back) ≡ text_stop (1 + length run) back
unfolding stop_of
stop_of-text run back m is stops =
    ap (λ n. text_stop (1 + n) (drop n (run ++ back))) (characters_length-run run back m is stops)
    ∙ ap (λ xs. text_stop (1 + length run) xs) (drop_at run back (length run) refl)
