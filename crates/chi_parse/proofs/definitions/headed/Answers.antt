use Rattle.chi_grammar.specs.Rules.{part, ◌▸◌}
use Rattle.chi_grammar.specs.RuleRuns as runs
use Rattle.chi_grammar.proofs.Exits.{failed, reads_then}
use Rattle.chi_tree.specs.Parts as s
use Rattle.chi_tree.specs.Rules.{grammar}
use Rattle.chi_tree.specs.Tables.{table}
use Rattle.chi_parse.specs.Rests.{callable_of, headed_of}
use Rattle.chi_parse.proofs.Shapes.{reads_as}
use Rattle.chi_parse.proofs.definitions.headed.Goals as goal

pub returns-in_err-head : goal.returns-in_err-head
returns-in_err-head c = failed grammar table _ headed_of _ (part s.Head ▸ part s.Parameters ▸ part s.Body) _ _ _ c.from_residual.ensures.1
    (runs.first_fails c.in_err-head.ensures)

pub returns : goal.returns
returns c = reads_then grammar table _ headed_of _ (part s.Head) (part s.Parameters ▸ part s.Body) _ _ _ _ c.in_ok-head.ensures.runs
    (reads_as _ _ _ (λ u i. (c.in_ok-head.ensures.shows i, callable_of u)) _ _ _ _ (c.joined.ensures _ _ _ _ _ c.callable.ensures))
