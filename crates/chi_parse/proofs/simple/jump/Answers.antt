use Rattle.std.proofs.Common.{ap}
use Rattle.chi_grammar.specs.Rules.{part}
use Rattle.chi_grammar.specs.RuleRuns as runs
use Rattle.chi_grammar.proofs.Exits.{read, failed}
use Rattle.chi_tree.specs.declared.statement.Statement.TheVariants as statement
use Rattle.chi_tree.specs.Parts as s
use Rattle.chi_tree.specs.Rules.{grammar}
use Rattle.chi_tree.specs.Tables.{table}
use Rattle.chi_tree.specs.Words.{jumps}
use Rattle.chi_tree.specs.Statements.{statement_of}
use Rattle.chi_parse_look.proofs.Words.{run_one_of, run_none_of}
use Rattle.chi_tree.specs.View.{given_or, nowhere}
use Rattle.chi_parse.proofs.Rows.{jump_row}
use Rattle.chi_parse.proofs.simple.jump.Goals as goal

pub returns-in_err-word : goal.returns-in_err-word
returns-in_err-word c room = failed grammar table _ statement_of _ (part s.Jump) _ _ _ c.from_residual.ensures.1
    (runs.part_fails (run_none_of jumps.first jumps.more c.in_err-word.ensures))

pub returns : goal.returns
returns c room = read grammar table _ (statement_of) c.requires.inside
    (runs.part (run_one_of jumps.first jumps.more c.in_ok-word.ensures))
    (ap (given_or (statement.Pass nowhere)) c.jump_of.ensures)

pub jump_of-requires : goal.jump_of-requires
jump_of-requires c = jump_row c.in_ok-word.word.now.token c.in_ok-word.word.now.place c.in_ok-word.ensures.of_classes
