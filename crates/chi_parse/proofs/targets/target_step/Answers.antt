use Rattle.std.proofs.Common.{◌∙◌}
use Rattle.chi_grammar.specs.declared.room.Nesting.TheVariants.{Expression}
use Rattle.chi_grammar.specs.Rules.{part}
use Rattle.chi_grammar.specs.RuleRuns as runs
use Rattle.chi_grammar.proofs.Exits.{read, run_word, run_no_word, run_refused, reads_part, reads_right, failed}
use Rattle.chi_tree.specs.declared.expr.Postfix.TheVariants as postfix
use Rattle.chi_tree.specs.Parts as s
use Rattle.chi_tree.specs.Rules.{grammar, nested}
use Rattle.chi_tree.specs.Tables.{table}
use Rattle.chi_tree.specs.View.{postfix_of}
use Rattle.chi_parse.proofs.targets.target_step.Goals as goal

pub returns-then-not-is_next : goal.returns-then-not-is_next
returns-then-not-is_next c = reads_part grammar table _ postfix_of _ s.TargetStep _ _
    (reads_right grammar table _ _ _ (nested (part s.TargetIndex)) (part s.Field) _ _ (c.is_next.ensures ∙ c.if-not-is_next.true) (c.field.ensures c.args.room))

pub returns-in_err-inner : goal.returns-in_err-inner
returns-in_err-inner c = failed grammar table _ postfix_of _ (part s.TargetStep) _ _ _ c.from_residual.ensures.1
    (runs.part_fails (runs.left (c.is_next.ensures ∙ c.if-not-is_next.false) (run_refused grammar table _ _ Expression (part s.TargetIndex) _ _ c.in_err-inner.ensures.0 c.in_err-inner.ensures.1)))

pub returns-in_err-bracket : goal.returns-in_err-bracket
returns-in_err-bracket c = failed grammar table _ postfix_of _ (part s.TargetStep) _ _ _ c.from_residual-in_err-bracket.ensures.1
    (runs.part_fails (runs.left (c.is_next.ensures ∙ c.if-not-is_next.false) (runs.deeper c.in_ok-inner.ensures (runs.part_fails (runs.first_fails (run_no_word grammar table _ c.in_err-bracket.ensures))))))

pub returns-in_err-index : goal.returns-in_err-index
returns-in_err-index c = failed grammar table _ postfix_of _ (part s.TargetStep) _ _ _ c.from_residual-in_err-index.ensures.1
    (runs.part_fails (runs.left (c.is_next.ensures ∙ c.if-not-is_next.false) (runs.deeper c.in_ok-inner.ensures (runs.part_fails (runs.next_fails (run_word grammar table _ c.in_ok-bracket.ensures) (runs.first_fails c.in_err-index.ensures))))))

pub returns-in_err-end : goal.returns-in_err-end
returns-in_err-end c = failed grammar table _ postfix_of _ (part s.TargetStep) _ _ _ c.from_residual-in_err-end.ensures.1
    (runs.part_fails (runs.left (c.is_next.ensures ∙ c.if-not-is_next.false) (runs.deeper c.in_ok-inner.ensures (runs.part_fails (runs.next_fails (run_word grammar table _ c.in_ok-bracket.ensures) (runs.next_fails c.in_ok-index.ensures.runs (run_no_word grammar table _ c.in_err-end.ensures)))))))

pub returns : goal.returns
returns c = read grammar table _ (postfix_of) c.requires.inside
    (runs.part (runs.left (c.is_next.ensures ∙ c.if-not-is_next.false) (runs.deeper c.in_ok-inner.ensures (runs.part (runs.both (run_word grammar table _ c.in_ok-bracket.ensures) (runs.both c.in_ok-index.ensures.runs (run_word grammar table _ c.in_ok-end.ensures)))))))
    (λ i. postfix.Index c.in_ok-bracket.bracket.now.place (c.in_ok-index.ensures.shows i))
