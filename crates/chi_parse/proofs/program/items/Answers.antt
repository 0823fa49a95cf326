use Rattle.std.proofs.Common.{◌∷◌}
use Rattle.chi_grammar.specs.Rules.{part}
use Rattle.chi_grammar.specs.RuleRuns as runs
use Rattle.chi_grammar.proofs.Exits.{reads_part, reads_then, failed}
use Rattle.chi_tree.specs.Parts as s
use Rattle.chi_tree.specs.Rules.{grammar}
use Rattle.chi_tree.specs.Tables.{table}
use Rattle.chi_tree.specs.Statements.{items_of, program_of}
use Rattle.chi_parse.proofs.Shapes.{reads_as}
use Rattle.chi_parse.proofs.program.items.Goals as goal

pub returns-in_err-first : goal.returns-in_err-first
returns-in_err-first c = failed grammar table _ (λ t. (program_of t).items) _ (part s.Program) _ _ _ c.from_residual.ensures.1
    (runs.part_fails (runs.first_fails c.in_err-first.ensures))

pub returns : goal.returns
returns c = reads_part grammar table _ (λ t. (program_of t).items) _ s.Program _ _
    (reads_then grammar table _ _ _ _ _ _ _ _ _ c.in_ok-first.ensures.runs
    (reads_as _ _ _ (λ u i. c.in_ok-first.ensures.shows i ∷ items_of u) _ _ _ _ c.more_items.ensures))
