use Rattle.std.proofs.Common.{◌≡◌, refl, ap, ◌∙◌}
use Rattle.chi_grammar.specs.Rules.{part}
use Rattle.chi_grammar.specs.RuleRuns as runs
use Rattle.chi_grammar.proofs.Exits.{read, reads_part, reads_right, failed}
use Rattle.chi_tree.specs.declared.type_tree.TypeTree.TheVariants as type
use Rattle.chi_tree.specs.declared.statement.Statement.TheVariants as statement
use Rattle.chi_tree.specs.Parts as s
use Rattle.chi_tree.specs.Rules.{grammar}
use Rattle.chi_tree.specs.Tables.{table}
use Rattle.chi_tree.specs.Statements.{variables_of, led}
use Rattle.chi_parse.proofs.Shapes.{by_part}
use Rattle.chi_parse.proofs.simple.after_name.Goals as goal

pub returns-then-not-is_next : goal.returns-then-not-is_next
returns-then-not-is_next c = reads_part grammar table _ (led c.args.target) _ s.AfterName _ _
    (reads_right grammar table _ _ _ (part s.Variables) (part s.AfterTarget) _ _ (c.is_next.ensures ∙ c.if-not-is_next.true)
    c.after_target.ensures)

pub returns-in_err-variables : goal.returns-in_err-variables
returns-in_err-variables c = failed grammar table _ (led c.args.target) _ (part s.AfterName) _ _ _ c.from_residual.ensures.1
    (runs.part_fails (runs.left (c.is_next.ensures ∙ c.if-not-is_next.false) c.in_err-variables.ensures))

pub returns : goal.returns
returns c = read grammar table _ (led c.args.target) c.requires.inside (runs.part (runs.left (c.is_next.ensures ∙ c.if-not-is_next.false) c.in_ok-variables.ensures.runs))
    (by_part (λ t. led c.args.target t ≡ statement.Declare (type.Defined c.args.target.name) (variables_of t)) (λ u. refl) c.in_ok-variables.ensures.runs
    ∙ ap (statement.Declare (type.Defined c.args.target.name)) c.in_ok-variables.ensures.shows)
