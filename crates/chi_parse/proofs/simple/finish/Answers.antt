use Rattle.chi_grammar.specs.Rules.{part}
use Rattle.chi_grammar.specs.RuleRuns as runs
use Rattle.chi_grammar.proofs.Exits.{read, run_word, run_no_word, failed}
use Rattle.chi_tree.specs.declared.statement.Statement.TheVariants as statement
use Rattle.chi_tree.specs.Parts as s
use Rattle.chi_tree.specs.Rules.{grammar}
use Rattle.chi_tree.specs.Tables.{table}
use Rattle.chi_tree.specs.Statements.{statement_of}
use Rattle.chi_parse.proofs.simple.finish.Goals as goal

pub returns-in_err-word : goal.returns-in_err-word
returns-in_err-word c = failed grammar table _ statement_of _ (part s.Finish) _ _ _ c.from_residual.ensures.1
    (runs.part_fails (runs.first_fails (run_no_word grammar table _ c.in_err-word.ensures)))

pub returns-in_err-instances : goal.returns-in_err-instances
returns-in_err-instances c = failed grammar table _ statement_of _ (part s.Finish) _ _ _ c.from_residual-in_err-instances.ensures.1
    (runs.part_fails (runs.next_fails (run_word grammar table _ c.in_ok-word.ensures) c.in_err-instances.ensures))

pub returns : goal.returns
returns c = read grammar table _ (statement_of) c.requires.inside
    (runs.part (runs.both (run_word grammar table _ c.in_ok-word.ensures) c.in_ok-instances.ensures.runs))
    (λ i. statement.Finish c.in_ok-word.word.now.place (c.in_ok-instances.ensures.shows i))
