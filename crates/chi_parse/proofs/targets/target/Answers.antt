use Rattle.chi_grammar.specs.Rules.{part}
use Rattle.chi_grammar.specs.RuleRuns as runs
use Rattle.chi_grammar.proofs.Exits.{read, failed}
use Rattle.chi_tree.specs.Parts as s
use Rattle.chi_tree.specs.Rules.{grammar}
use Rattle.chi_tree.specs.Tables.{table}
use Rattle.chi_tree.specs.Statements.{target_of}
use Rattle.chi_parse.proofs.targets.target.Goals as goal

pub target_steps-requires-clause-inside : goal.target_steps-requires-clause-inside
target_steps-requires-clause-inside c = (c.in_ok-name.ensures c.args.room).inside

pub returns-in_err-name : goal.returns-in_err-name
returns-in_err-name c = failed grammar table _ target_of _ (part s.Target) _ _ _ c.from_residual.ensures.1
    (runs.part_fails (runs.first_fails (c.in_err-name.ensures c.args.room)))

pub returns-in_err-steps : goal.returns-in_err-steps
returns-in_err-steps c = failed grammar table _ target_of _ (part s.Target) _ _ _ c.from_residual-in_err-steps.ensures.1
    (runs.part_fails (runs.next_fails (c.in_ok-name.ensures c.args.room).runs c.in_err-steps.ensures))

pub returns : goal.returns
returns c = read grammar table _ (target_of) c.requires.inside
    (runs.part (runs.both (c.in_ok-name.ensures c.args.room).runs c.in_ok-steps.ensures.runs))
    (λ i. record { name = ((c.in_ok-name.ensures c.args.room).shows i); steps = (c.in_ok-steps.ensures.shows i) })
