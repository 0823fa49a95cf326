use Rattle.std.proofs.Common.{◌≡◌, ◌∙◌, ℕ, List, refl, sym}
use Rattle.chi_lex.specs.declared.fault.LexFault.{LexFault}
use Rattle.chi_lex.specs.declared.fault.LexFault.TheVariants.{BadByte, OpenString, BadEscape, NoMemory}
use Rattle.chi_explain.specs.Explanations.{explained}
use Rattle.chi_explain.specs.Excerpts.{from_place}
use Rattle.chi_explain.specs.Lexical.{IsExplanation, bad_byte_words, escape_words, open_words}
use Rattle.chi_explain.proofs.FaultyBytes.{faulty, StandsThere}
use Rattle.chi_explain.proofs.lexical.lexical_explanation_law.Goals as goal

some_by : (file source : List ℕ) (fault : LexFault) → StandsThere source fault → (text : List ℕ) × IsExplanation file source fault text
some_by file source (BadByte place) there = (explained file source place (bad_byte_words (from_place source place)), (there, refl))
some_by file source (OpenString place) there = (explained file source place open_words, refl)
some_by file source (BadEscape place) there = (explained file source place escape_words, refl)
some_by file source NoMemory there = absurd there

one : (file source : List ℕ) (fault : LexFault) (text other : List ℕ) → IsExplanation file source fault text → IsExplanation file source fault other
    → text ≡ other
one file source (BadByte place) text other a b = a.1 ∙ sym b.1
one file source (OpenString place) text other a b = a ∙ sym b
one file source (BadEscape place) text other a b = a ∙ sym b
one file source NoMemory text other a b = absurd a

pub returns : goal.returns
returns c = record { some = λ file source fault h. some_by file source fault (faulty source fault h); one = one }
