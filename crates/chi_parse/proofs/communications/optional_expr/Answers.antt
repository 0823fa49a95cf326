use Rattle.std.proofs.Common.{◌≡◌, refl, ap, ◌∙◌, Some}
use Rattle.chi_grammar.specs.Rules.{part, maybe}
use Rattle.chi_grammar.specs.RuleRuns as runs
use Rattle.chi_grammar.proofs.Exits.{read, failed}
use Rattle.chi_tree.specs.Parts as s
use Rattle.chi_tree.specs.Rules.{grammar}
use Rattle.chi_tree.specs.Tables.{table}
use Rattle.chi_tree.specs.View.{optional, expr_of}
use Rattle.chi_parse.proofs.Shapes.{by_part}
use Rattle.chi_parse.proofs.communications.optional_expr.Goals as goal

pub returns-then-not-is_next : goal.returns-then-not-is_next
returns-then-not-is_next c = read grammar table _ (λ t. optional t (expr_of t)) c.requires.inside (runs.never (c.is_next.ensures ∙ c.if-not-is_next.true)) refl

pub returns-in_err-value : goal.returns-in_err-value
returns-in_err-value c = failed grammar table _ (λ t. optional t (expr_of t)) _ (maybe (part s.Expr)) _ _ _ c.from_residual.ensures.1
    (runs.once (c.is_next.ensures ∙ c.if-not-is_next.false) c.in_err-value.ensures)

pub returns : goal.returns
returns c = read grammar table _ (λ t. optional t (expr_of t)) c.requires.inside (runs.once (c.is_next.ensures ∙ c.if-not-is_next.false) c.in_ok-value.ensures.runs)
    (by_part (λ t. optional t (expr_of t) ≡ Some (expr_of t)) (λ u. refl) c.in_ok-value.ensures.runs ∙ ap Some c.in_ok-value.ensures.shows)
