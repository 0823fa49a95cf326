-- How many tokens a source has.
use Rattle.std.proofs.Common.{ℕ, ◌+◌, ◌≤◌, List, [], ◌∷◌, length, arith}
use Rattle.chi_token.specs.declared.place.Spanned.{Spanned}
use Rattle.chi_lex.specs.Reading.{Reads}
use Rattle.chi_lex.specs.Spans.{SpanFrom}
use Rattle.chi_lex.proofs.LawLemmas.{Reads-SpanFrom}

-- each of them has a byte
span_size : (source : List ℕ) (offset : ℕ) (tokens : List Spanned) → offset ≤ length source → SpanFrom source offset tokens
    → offset + length tokens ≤ length source
span_size source offset [] within spans = omega arith
span_size source offset (t ∷ ts) within spans =
    let after = spans.0 in
    let is = spans.1 in
    let some = is.some in
    let rest = span_size source t.stop ts is.within spans.2 in
    omega arith

pub Reads-size : (source : List ℕ) (tokens : List Spanned) → Reads source tokens → length tokens ≤ length source
Reads-size source tokens reads = let size = span_size source 0 tokens (omega arith) (Reads-SpanFrom source tokens reads) in omega arith
