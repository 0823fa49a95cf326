use Rattle.chi_grammar.specs.Rules.{part}
use Rattle.chi_grammar.specs.RuleRuns as runs
use Rattle.chi_grammar.proofs.Exits.{read, failed}
use Rattle.chi_tree.specs.declared.statement.Statement.TheVariants as statement
use Rattle.chi_tree.specs.Parts as s
use Rattle.chi_tree.specs.Rules.{grammar}
use Rattle.chi_tree.specs.Tables.{table}
use Rattle.chi_tree.specs.Statements.{statement_of}
use Rattle.chi_parse.proofs.simple.timed.Goals as goal

pub returns-in_err-communication : goal.returns-in_err-communication
returns-in_err-communication c = failed grammar table _ statement_of _ (part s.Timed) _ _ _ c.from_residual.ensures.1
    (runs.part_fails c.in_err-communication.ensures)

pub returns : goal.returns
returns c = read grammar table _ (statement_of) c.requires.inside
    (runs.part c.in_ok-communication.ensures.runs)
    (λ i. statement.Communicate (c.in_ok-communication.ensures.shows i))
