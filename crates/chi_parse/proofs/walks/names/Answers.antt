use Rattle.std.proofs.Common.{◌∷◌}
use Rattle.chi_grammar.specs.Rules.{part}
use Rattle.chi_grammar.specs.RuleRuns as runs
use Rattle.chi_grammar.proofs.Exits.{reads_part, reads_then, failed}
use Rattle.chi_tree.specs.Parts as s
use Rattle.chi_tree.specs.Rules.{grammar}
use Rattle.chi_tree.specs.Tables.{table}
use Rattle.chi_tree.specs.View.{names_in, more_names_in}
use Rattle.chi_parse.proofs.Shapes.{any_room, reads_as}
use Rattle.chi_parse.proofs.walks.names.Goals as goal

pub returns-in_err-first : goal.returns-in_err-first
returns-in_err-first c room = failed grammar table _ names_in _ (part s.Names) _ _ _ c.from_residual.ensures.1
    (runs.part_fails (runs.first_fails (c.in_err-first.ensures room)))

pub more_names-requires-clause-inside : goal.more_names-requires-clause-inside
more_names-requires-clause-inside c = (c.in_ok-first.ensures any_room).inside

pub returns : goal.returns
returns c room = reads_part grammar table _ names_in _ s.Names _ _
    (reads_then grammar table _ _ _ _ _ _ _ _ _ (c.in_ok-first.ensures room).runs
    (reads_as _ _ _ (λ u i. (c.in_ok-first.ensures room).shows i ∷ more_names_in u) _ _ _ _ (c.more_names.ensures room)))
