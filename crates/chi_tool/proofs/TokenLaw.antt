-- The tokens of a program that a source is are tokens that some bytes spell.
use Rattle.std.proofs.Common.{ℕ, zero, suc, List, [], ◌∷◌, map, slice_range, subst, sym, arith}
use Rattle.std.specs.List.{All}
use Rattle.chi_token.specs.declared.place.Spanned.{Spanned}
use Rattle.chi_token.specs.Tokens.{IsToken}
use Rattle.chi_lex.specs.Reading.{Reads}
use Rattle.chi_lex.specs.Spans.{SpanFrom}
use Rattle.chi_lex.proofs.LawLemmas.{Reads-SpanFrom}
use Rattle.chi_tree.specs.declared.definition.Program.{Program}
use Rattle.chi_tree_spell.specs.Statements.{spelled}
use Rattle.chi_tree_spell.specs.Words.{token_of}
use Rattle.chi_tree_laws.specs.Answers.{IsProgram}

span_tokens : (source : List ℕ) (offset : ℕ) (tokens : List Spanned) → SpanFrom source offset tokens → All IsToken (map token_of tokens)
span_tokens source offset [] spans k d low = absurd (omega arith)
span_tokens source offset (t ∷ ts) spans zero d low = (slice_range source t.start t.stop, spans.1.spelled)
span_tokens source offset (t ∷ ts) spans (suc k) d low = span_tokens source t.stop ts spans.2 k d (omega arith)

pub program_tokens : (source : List ℕ) (tokens : List Spanned) (program : Program) → Reads source tokens → IsProgram tokens program
    → All IsToken (spelled program)
program_tokens source tokens program reads is =
    subst (λ ts. All IsToken ts) (sym is.same) (span_tokens source 0 tokens (Reads-SpanFrom source tokens reads))
