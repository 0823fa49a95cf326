use Rattle.std.proofs.Common.{sym, ap, ◌∙◌}
use Rattle.chi_grammar.specs.Rules.{part}
use Rattle.chi_grammar.specs.RuleRuns as runs
use Rattle.chi_grammar.proofs.Exits.{reads_part, reads_chosen, reads_otherwise, failed}
use Rattle.chi_tree.specs.Parts as s
use Rattle.chi_tree.specs.Rules.{grammar}
use Rattle.chi_tree.specs.Tables.{table}
use Rattle.chi_tree.specs.Statements.{is_name, is_bare, made, element_of}
use Rattle.chi_parse.proofs.Shapes.{reads_as}
use Rattle.chi_parse.proofs.launches.make.Goals as goal

pub returns-in_err-target : goal.returns-in_err-target
returns-in_err-target c = failed grammar table _ element_of _ (part s.Make) _ _ _ c.from_residual.ensures.1
    (runs.part_fails (runs.test_fails c.in_err-target.ensures))

pub returns-then-is_bare : goal.returns-then-is_bare
returns-then-is_bare c = reads_part grammar table _ element_of _ s.Make _ _
    (reads_chosen grammar table _ _ _ (part s.Target) (part s.Made) (part s.AssignedMake) is_name _ _ _ _ c.in_ok-target.ensures.runs
    (ap (λ t. is_bare t.steps) c.in_ok-target.ensures.shows ∙ sym c.is_bare.ensures ∙ c.if-is_bare.true)
    (reads_as _ _ _ (λ u i. made (c.in_ok-target.ensures.shows i) u) _ _ _ _ c.made.ensures))

pub returns : goal.returns
returns c = reads_part grammar table _ element_of _ s.Make _ _
    (reads_otherwise grammar table _ _ _ (part s.Target) (part s.Made) (part s.AssignedMake) is_name _ _ _ _ c.in_ok-target.ensures.runs
    (ap (λ t. is_bare t.steps) c.in_ok-target.ensures.shows ∙ sym c.is_bare.ensures ∙ c.if-is_bare.false)
    (reads_as _ _ _ (λ u i. made (c.in_ok-target.ensures.shows i) u) _ _ _ _ c.assigned_make.ensures))
