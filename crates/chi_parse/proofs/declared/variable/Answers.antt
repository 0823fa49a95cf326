use Rattle.chi_grammar.specs.Rules.{part}
use Rattle.chi_grammar.specs.RuleRuns as runs
use Rattle.chi_grammar.proofs.Exits.{read, failed}
use Rattle.chi_tree.specs.Parts as s
use Rattle.chi_tree.specs.Rules.{grammar}
use Rattle.chi_tree.specs.Tables.{table}
use Rattle.chi_tree.specs.Statements.{variable_of}
use Rattle.chi_parse.proofs.declared.variable.Goals as goal

pub initial-requires-clause-inside : goal.initial-requires-clause-inside
initial-requires-clause-inside c = (c.in_ok-name.ensures c.args.room).inside

pub returns-in_err-name : goal.returns-in_err-name
returns-in_err-name c = failed grammar table _ variable_of _ (part s.Variable) _ _ _ c.from_residual.ensures.1
    (runs.part_fails (runs.first_fails (c.in_err-name.ensures c.args.room)))

pub returns-in_err-initial : goal.returns-in_err-initial
returns-in_err-initial c = failed grammar table _ variable_of _ (part s.Variable) _ _ _ c.from_residual-in_err-initial.ensures.1
    (runs.part_fails (runs.next_fails (c.in_ok-name.ensures c.args.room).runs c.in_err-initial.ensures))

pub returns : goal.returns
returns c = read grammar table _ (variable_of) c.requires.inside
    (runs.part (runs.both (c.in_ok-name.ensures c.args.room).runs c.in_ok-initial.ensures.runs))
    (λ i. record { name = ((c.in_ok-name.ensures c.args.room).shows i); initial = (c.in_ok-initial.ensures.shows i) })
