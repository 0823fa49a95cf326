-- The tokens of a reading lie one after another in the source.
use Rattle.std.proofs.Common.{◌≡◌, ℕ, zero, suc, ◌+◌, ◌-◌, ◌≤◌, Option, Some, None, Result, Ok, Err, List, [], ◌∷◌, length, length-drop, take, drop, slice_range, refl, ap, subst, ◌∙◌, arith}
use Rattle.std.specs.List.{All}
use Rattle.chi_token.specs.declared.place.Spanned.{Spanned}
use Rattle.chi_token.specs.declared.token.Token.{Token}
use Rattle.chi_token.specs.Prefixes.{longest_prefix}
use Rattle.chi_token.specs.Tokens.{token_spelled_by, IsToken}
use Rattle.chi_lex.specs.declared.fault.LexFault.{LexFault}
use Rattle.chi_lex.specs.Gaps.{gap_of}
use Rattle.chi_lex.specs.Reading.{spanned}
use Rattle.chi_lex.proofs.ReadingFunction.{reading, reading_from, from_rest, from_gap, from_token, token_then}
use Rattle.chi_lex.specs.Spans.{IsSpanOf, SpanFrom}
use Rattle.chi_lex.proofs.Sizes.{longest_prefix-means, token-size}

SpanFrom-earlier : (source : List ℕ) (early late : ℕ) (tokens : List Spanned) → early ≤ late → SpanFrom source late tokens → SpanFrom source early tokens
SpanFrom-earlier source early late [] low spans = tt
SpanFrom-earlier source early late (t ∷ ts) low spans =
    let after = spans.0 in
    (omega arith, spans.1, spans.2)

token-IsSpanOf : (source : List ℕ) (offset : ℕ) (token : Token) (n : ℕ) → longest_prefix token_spelled_by (length (drop offset source)) (drop offset source) ≡ Some (token, n) → IsSpanOf source (spanned source token offset (offset + n))
token-IsSpanOf source offset token n found =
    let rest = drop offset source in
    let fits = token-size rest token n found in
    let some = fits.some in
    let within = fits.within in
    let size : (offset + n) - offset ≡ n = omega arith in
    record {
      spelled = ap (λ k. token_spelled_by (take k rest)) size ∙ longest_prefix-means token_spelled_by (length rest) rest token n found;
      placed = refl;
      some = omega arith;
      within = omega (arith, length-drop offset source);
    }

no_tokens : (source : List ℕ) (offset : ℕ) (tokens : List Spanned) → ◌≡◌ {A = Result (List Spanned) LexFault} (Ok []) (Ok tokens) → SpanFrom source offset tokens
no_tokens source offset [] h = tt
no_tokens source offset (t ∷ ts) h = cc

pub reading_from-SpanFrom : (left : ℕ) (source : List ℕ) (offset : ℕ) (tokens : List Spanned) → reading_from left source offset ≡ Ok tokens → SpanFrom source offset tokens
unfolding reading_from
reading_from-SpanFrom zero source offset tokens reads = no_tokens source offset tokens reads
reading_from-SpanFrom (suc left) source offset tokens reads =
    rest_of (drop offset source) refl (λ later ts h. reading_from-SpanFrom left source later ts h) reads
  where
    Later : Type 0
    Later = (later : ℕ) (ts : List Spanned) → reading_from left source later ≡ Ok ts → SpanFrom source later ts

    cons : (token : Token) (n : ℕ) (next : Result (List Spanned) LexFault) (tokens : List Spanned) → IsSpanOf source (spanned source token offset (offset + n)) → ((ts : List Spanned) → next ≡ Ok ts → SpanFrom source (offset + n) ts) → token_then (spanned source token offset (offset + n)) next ≡ Ok tokens → SpanFrom source offset tokens
    cons token n (Err fault) tokens is later h = cc
    cons token n (Ok ts) [] is later h = cc
    cons token n (Ok ts) (u ∷ us) is later h =
        let list : ◌≡◌ {A = List Spanned} (spanned source token offset (offset + n) ∷ ts) (u ∷ us) = cc in
        subst (λ xs. SpanFrom source offset xs) list (omega arith, is, later ts refl)

    token_of_rest : (o : Option (Token × ℕ)) → longest_prefix token_spelled_by (length (drop offset source)) (drop offset source) ≡ o → Later → from_token source offset (reading_from left source) o ≡ Ok tokens → SpanFrom source offset tokens
    token_of_rest None is later h = cc
    token_of_rest (Some found) is later h =
        cons found.0 found.1 (reading_from left source (offset + found.1)) tokens
        (token-IsSpanOf source offset found.0 found.1 is)
        (λ ts reads. later (offset + found.1) ts reads)
        h

    gap_of_rest : (rest : List ℕ) → drop offset source ≡ rest → (o : Option ℕ) → Later → from_gap source offset (reading_from left source) rest o ≡ Ok tokens → SpanFrom source offset tokens
    gap_of_rest rest is (Some gap) later h =
        SpanFrom-earlier source offset (offset + gap) tokens (omega arith) (later (offset + gap) tokens h)
    gap_of_rest rest is None later h =
        token_of_rest (longest_prefix token_spelled_by (length rest) rest) (ap (λ xs. longest_prefix token_spelled_by (length xs) xs) is) later h

    rest_of : (rest : List ℕ) → drop offset source ≡ rest → Later → from_rest source offset (reading_from left source) rest ≡ Ok tokens → SpanFrom source offset tokens
    rest_of [] is later h = no_tokens source offset tokens h
    rest_of (c ∷ cs) is later h = gap_of_rest (c ∷ cs) is (gap_of (c ∷ cs)) later h

pub reading-SpanFrom : (source : List ℕ) (tokens : List Spanned) → reading source ≡ Ok tokens → SpanFrom source 0 tokens
unfolding reading
reading-SpanFrom source tokens reads = reading_from-SpanFrom (length source) source 0 tokens reads

SpanFrom-IsToken : (source : List ℕ) (offset : ℕ) (tokens : List Spanned) → SpanFrom source offset tokens → All (λ t. IsToken t.token) tokens
SpanFrom-IsToken source offset [] spans k d low = absurd (omega arith)
SpanFrom-IsToken source offset (t ∷ ts) spans zero d low =
    (slice_range source t.start t.stop, spans.1.spelled)
SpanFrom-IsToken source offset (t ∷ ts) spans (suc k) d low =
    SpanFrom-IsToken source t.stop ts spans.2 k d (omega arith)

pub reading-IsToken : (source : List ℕ) (tokens : List Spanned) → reading source ≡ Ok tokens → All (λ t. IsToken t.token) tokens
reading-IsToken source tokens reads = SpanFrom-IsToken source 0 tokens (reading-SpanFrom source tokens reads)
