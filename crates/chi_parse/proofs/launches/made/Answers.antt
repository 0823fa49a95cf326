use Rattle.std.proofs.Common.{◌≡◌, refl, ap, ◌∙◌, None}
use Rattle.chi_grammar.specs.Rules.{part}
use Rattle.chi_grammar.specs.RuleRuns as runs
use Rattle.chi_grammar.proofs.Exits.{read, reads_part, reads_right, failed}
use Rattle.chi_tree.specs.declared.statement.Element.TheVariants as element
use Rattle.chi_tree.specs.Parts as s
use Rattle.chi_tree.specs.Rules.{grammar}
use Rattle.chi_tree.specs.Tables.{table}
use Rattle.chi_tree.specs.View.{arguments_of}
use Rattle.chi_tree.specs.Statements.{made}
use Rattle.chi_parse.proofs.Shapes.{by_part}
use Rattle.chi_parse.proofs.launches.made.Goals as goal

pub returns-then-not-is_next : goal.returns-then-not-is_next
returns-then-not-is_next c = reads_part grammar table _ (made c.args.target) _ s.Made _ _
    (reads_right grammar table _ _ _ (part s.Arguments) (part s.AssignedMake) _ _ (c.is_next.ensures ∙ c.if-not-is_next.true) c.assigned_make.ensures)

pub returns-in_err-arguments : goal.returns-in_err-arguments
returns-in_err-arguments c = failed grammar table _ (made c.args.target) _ (part s.Made) _ _ _ c.from_residual.ensures.1
    (runs.part_fails (runs.left (c.is_next.ensures ∙ c.if-not-is_next.false) c.in_err-arguments.ensures))

pub returns : goal.returns
returns c = read grammar table _ (made c.args.target) c.requires.inside (runs.part (runs.left (c.is_next.ensures ∙ c.if-not-is_next.false) c.in_ok-arguments.ensures.runs))
    (by_part (λ t. made c.args.target t ≡ element.Make None c.args.target.name (arguments_of t)) (λ u. refl) c.in_ok-arguments.ensures.runs
    ∙ ap (element.Make None c.args.target.name) c.in_ok-arguments.ensures.shows)
