use Rattle.std.proofs.Common.{◌∷◌}
use Rattle.chi_grammar.specs.Rules.{part}
use Rattle.chi_grammar.specs.RuleRuns as runs
use Rattle.chi_grammar.proofs.Exits.{reads_part, reads_then, failed}
use Rattle.chi_tree.specs.Parts as s
use Rattle.chi_tree.specs.Rules.{grammar}
use Rattle.chi_tree.specs.Tables.{table}
use Rattle.chi_tree.specs.Statements.{more_variables_of, variables_of}
use Rattle.chi_parse.proofs.Shapes.{reads_as}
use Rattle.chi_parse.proofs.declared.variables.Goals as goal

pub returns-in_err-first : goal.returns-in_err-first
returns-in_err-first c = failed grammar table _ variables_of _ (part s.Variables) _ _ _ c.from_residual.ensures.1
    (runs.part_fails (runs.first_fails c.in_err-first.ensures))

pub returns : goal.returns
returns c = reads_part grammar table _ variables_of _ s.Variables _ _
    (reads_then grammar table _ _ _ _ _ _ _ _ _ c.in_ok-first.ensures.runs
    (reads_as _ _ _ (λ u i. c.in_ok-first.ensures.shows i ∷ more_variables_of u) _ _ _ _ c.more_variables.ensures))
