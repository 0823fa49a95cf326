-- Statements as a block has them: each with what decides whether the `;` after it may be left out. Private to proofs.
use Rattle.std.specs.Prelude.{Bool, true, false}
use Rattle.chi_grammar.specs.Rules.{Rule, none, part, ◌∣◌}
use Rattle.chi_token.specs.declared.place.Spanned.{Spanned}
use Rattle.chi_tree.specs.declared.statement.Statement.{Statement}
use Rattle.chi_tree.specs.Parts.{Part}
use Rattle.chi_tree.specs.Parts as s
use Rattle.chi_tree.specs.Statements.{statement_of, ends_in_end}
use Rattle.chi_tree.specs.View.{Built}

-- any statement
abbrev pub statement : Rule Spanned Part
statement = part s.Closed ∣ part s.Launch ∣ part s.Open

-- a statement, and whether its last token is "end"
abbrev pub shown : Built → Statement × Bool
shown t = (statement_of t, ends_in_end t)

-- whether anything stands where a part may be left out
abbrev pub is_there : Built → Bool
is_there none = false
is_there _ = true
