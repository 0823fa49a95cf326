use Rattle.std.proofs.Common.{◌∙◌}
use Rattle.chi_grammar.specs.Rules.{pair, part, ◌∣◌}
use Rattle.chi_grammar.specs.RuleRuns as runs
use Rattle.chi_grammar.proofs.Exits.{read, failed}
use Rattle.chi_tree.specs.Parts as s
use Rattle.chi_tree.specs.Rules.{grammar, nested}
use Rattle.chi_tree.specs.Tables.{table}
use Rattle.chi_tree.specs.View.{blank}
use Rattle.chi_parse_expr.proofs.Shapes.{blank_list, blank_set}
use Rattle.chi_parse_expr.proofs.blanks.blank_items.Goals as goal

pub returns-in_err-end : goal.returns-in_err-end
returns-in_err-end c w =
    failed grammar table _ (λ u. blank c.args.place c.args.of (pair w u)) _ (nested (part s.BlankItems) ∣ nested (part s.BlankElements)) _ _ _ c.from_residual.ensures.1
    (runs.left (c.is_next.ensures ∙ c.if-is_next.true) c.in_err-end.ensures)

pub returns-then-is_next : goal.returns-then-is_next
returns-then-is_next c w =
    let end = c.in_ok-end.ensures in
    read grammar table _ (λ u. blank c.args.place c.args.of (pair w u)) c.requires.inside
    (runs.left (c.is_next.ensures ∙ c.if-is_next.true) end.runs)
    (blank_list end.runs c.args.place c.args.of w)

pub returns-in_err-end-2 : goal.returns-in_err-end-2
returns-in_err-end-2 c w =
    failed grammar table _ (λ u. blank c.args.place c.args.of (pair w u)) _ (nested (part s.BlankItems) ∣ nested (part s.BlankElements)) _ _ _ c.from_residual-in_err-end-2.ensures.1
    (runs.right (c.is_next.ensures ∙ c.if-is_next.false) c.in_err-end-2.ensures)

pub returns : goal.returns
returns c w =
    let end-2 = c.in_ok-end-2.ensures in
    read grammar table _ (λ u. blank c.args.place c.args.of (pair w u)) c.requires.inside
    (runs.right (c.is_next.ensures ∙ c.if-is_next.false) end-2.runs)
    (blank_set end-2.runs c.args.place c.args.of w)
