use Rattle.std.proofs.Common.{◌≡◌, [], true, refl, subst, append-nil}
use Rattle.chi_tree_spell.specs.Words.{Tokens}
use Rattle.chi_fmt.specs.Expressions.{Spots}
use Rattle.chi_fmt.specs.Sound.{is_row}
use Rattle.chi_fmt.proofs.ExprRows.{expr-start, type-start}
use Rattle.chi_fmt.proofs.Starts.{Start}
use Rattle.chi_fmt.proofs.DefinitionLines.{program-sources}
use Rattle.chi_fmt.proofs.laws.row_law.Goals as goal

alone : (xs : Spots) (ts : Tokens) → Start xs ts → is_row xs ≡ true
alone xs ts s = subst (λ l. is_row l ≡ true) (append-nil xs) (s.fine.row [] refl)

pub returns-clause-types : goal.returns-clause-types
returns-clause-types c = λ d t h. let s = type-start h in (s.same, alone _ _ s)

pub returns-clause-expressions : goal.returns-clause-expressions
returns-clause-expressions c = λ level d e h. let s = expr-start h in (s.same, alone _ _ s)

pub returns-clause-programs : goal.returns-clause-programs
returns-clause-programs c = λ b d program h. let s = program-sources program h in (s.sound, s.have, s.same)
