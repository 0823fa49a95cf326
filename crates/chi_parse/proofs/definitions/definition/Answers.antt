use Rattle.std.proofs.Common.{◌∙◌}
use Rattle.chi_grammar.specs.Rules.{part}
use Rattle.chi_grammar.specs.RuleRuns as runs
use Rattle.chi_grammar.proofs.Exits.{read, failed}
use Rattle.chi_tree.specs.Parts as s
use Rattle.chi_tree.specs.Rules.{grammar}
use Rattle.chi_tree.specs.Tables.{table}
use Rattle.chi_tree.specs.Statements.{item_of}
use Rattle.chi_parse.proofs.Shapes.{there}
use Rattle.chi_parse.proofs.definitions.definition.Goals as goal

pub returns-in_err-definition : goal.returns-in_err-definition
returns-in_err-definition c = failed grammar table _ item_of _ (part s.Definition) _ _ _ c.from_residual.ensures.1
    (runs.part_fails (runs.first_fails c.in_err-definition.ensures))

pub returns : goal.returns
returns c = read grammar table _ item_of c.requires.inside (runs.part (runs.both c.in_ok-definition.ensures.runs (c.optional_semicolon-semicolon.ensures c.args.room).runs))
    (λ i. record { definition = c.in_ok-definition.ensures.shows i; semicolon = (there _ ∙ (c.optional_semicolon-semicolon.ensures c.args.room).shows) i })
