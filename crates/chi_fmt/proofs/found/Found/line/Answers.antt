use Rattle.std.proofs.Common.{◌++◌, append-nil, arith, ap, sym, ◌∙◌}
use Rattle.std.proofs.lemmas.Grind.{common_steps}
use Rattle.chi_fmt.proofs.FoundLines.{line_none, line_some}
use Rattle.chi_fmt.proofs.found.Found.line.Goals as goal

pub returns-then-from-line : goal.returns-then-from-line
returns-then-from-line c =
    sym (append-nil c.args.self.now.comments.items)
    ∙ ap (λ xs. c.args.self.now.comments.items ++ xs)
    (sym (line_none c.args.before c.first_index-from.result c.args.line.now c.first_index-from.ensures.first c.if-from-line.true))

pub returns : goal.returns
returns c =
    c.in_ok-push.ensures.items
    ∙ ap (λ xs. c.args.self.now.comments.items ++ xs)
    (sym (line_some c.args.before c.first_index-from.result c.args.line.now c.in_ok-text.text c.first_index-from.ensures.first
    c.first_index-from.ensures.within c.if-from-line.false (c.in_ok-text.ensures.copied ∙ grind (arith, common_steps))))
