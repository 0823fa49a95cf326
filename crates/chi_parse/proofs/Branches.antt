-- What a branch is shown as, by its block.
use Rattle.std.proofs.Common.{◌≡◌, ℕ, List, refl}
use Rattle.chi_grammar.specs.declared.room.Room.{Room}
use Rattle.chi_grammar.specs.Rules.{node, pair, part, ◌▸◌}
use Rattle.chi_grammar.specs.RuleRuns.{Done, RuleRuns}
use Rattle.chi_grammar.specs.RuleRuns as runs
use Rattle.chi_token.specs.declared.place.Spanned.{Spanned}
use Rattle.chi_token.specs.declared.sign.Sign.TheVariants.{Colon}
use Rattle.chi_tree.specs.declared.statement.Branch.{roll-Branch}
use Rattle.chi_tree.specs.Parts as s
use Rattle.chi_tree.specs.Rules.{grammar, sign}
use Rattle.chi_tree.specs.Tables.{table}
use Rattle.chi_tree.specs.Statements.{branch_of}
use Rattle.chi_tree.specs.View.{Built, expr_of}
use Rattle.chi_parse.specs.Branches.{opened_of}

pub branch_shows : {tokens : List Spanned} {room : Room} {i j : ℕ} {t : Built} → RuleRuns grammar table tokens room (sign Colon ▸ part s.Inner) i (Done t j) → (condition : Built)
    → branch_of (node s.Branch (pair condition t)) ≡ roll-Branch (record { condition = expr_of condition; block = opened_of t })
branch_shows (runs.both p q) condition = refl
