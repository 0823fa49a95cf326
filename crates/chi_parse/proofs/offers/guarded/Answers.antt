use Rattle.std.proofs.Common.{Some, ◌∙◌}
use Rattle.chi_grammar.specs.Rules.{part}
use Rattle.chi_grammar.specs.RuleRuns as runs
use Rattle.chi_grammar.proofs.Exits.{read, failed}
use Rattle.chi_tree.specs.Parts as s
use Rattle.chi_tree.specs.Rules.{grammar}
use Rattle.chi_tree.specs.Tables.{table}
use Rattle.chi_parse.specs.Rests.{offered_shown}
use Rattle.chi_parse.proofs.Shapes.{guarded_shows}
use Rattle.chi_parse.proofs.offers.guarded.Goals as goal

pub returns-in_err-guard : goal.returns-in_err-guard
returns-in_err-guard c = failed grammar table _ (offered_shown c.args.guard) _ (part s.Guarded) _ _ _ c.from_residual.ensures.1
    (runs.part_fails (c.in_err-guard.ensures _ _ _ _ _ c.after_guard.ensures))

pub returns : goal.returns
returns c =
    let q = c.in_ok-guard.ensures _ _ _ _ _ c.after_guard.ensures in
    read grammar table _ (offered_shown c.args.guard) c.requires.inside
    (runs.part q.runs)
    (guarded_shows q.runs c.args.guard ∙ (λ i. record { guard = Some (q.shows i).0; communication = (q.shows i).1 }))
