use Rattle.std.proofs.Common.{◌≡◌, refl, ◌∙◌, Some, None}
use Rattle.chi_grammar.specs.Rules.{leaf, node, pair, part}
use Rattle.chi_grammar.specs.RuleRuns as runs
use Rattle.chi_grammar.proofs.Exits.{read, run_word, run_no_word, failed}
use Rattle.chi_tree.specs.Parts as s
use Rattle.chi_tree.specs.Rules.{grammar}
use Rattle.chi_tree.specs.Tables.{table}
use Rattle.chi_tree.specs.View.{name_in, formal_of}
use Rattle.chi_parse.proofs.Shapes.{by_word}
use Rattle.chi_parse.proofs.formal.more_formal.Goals as goal

pub returns-in_err-start : goal.returns-in_err-start
returns-in_err-start c = failed grammar table _ formal_of _ (part s.MoreFormal) _ _ _ c.from_residual.ensures.1
    (runs.part_fails (runs.left (c.is_next.ensures ∙ c.if-is_next.true) (runs.first_fails (run_no_word grammar table _ c.in_err-start.ensures))))

pub returns-in_err-name : goal.returns-in_err-name
returns-in_err-name c = failed grammar table _ formal_of _ (part s.MoreFormal) _ _ _ c.from_residual-in_err-name.ensures.1
    (runs.part_fails (runs.left (c.is_next.ensures ∙ c.if-is_next.true) (runs.next_fails (run_word grammar table _ c.in_ok-start.ensures) (c.in_err-name.ensures c.args.room))))

pub returns-then-is_next : goal.returns-then-is_next
returns-then-is_next c = read grammar table _ (formal_of) c.requires.inside (runs.part (runs.left (c.is_next.ensures ∙ c.if-is_next.true) (runs.both (run_word grammar table _ c.in_ok-start.ensures) (c.in_ok-name.ensures c.args.room).runs)))
    (by_word (λ n. formal_of (node s.MoreFormal (pair (leaf c.in_ok-start.field-0-0.now) n)) ≡ record { ty = None; name = name_in n }) (λ x. refl) (c.in_ok-name.ensures c.args.room).runs
    ∙ (λ i. record { ty = None; name = (c.in_ok-name.ensures c.args.room).shows i }))

pub returns-in_err-from : goal.returns-in_err-from
returns-in_err-from c = failed grammar table _ formal_of _ (part s.MoreFormal) _ _ _ c.from_residual-in_err-from.ensures.1
    (runs.part_fails (runs.right (c.is_next.ensures ∙ c.if-is_next.false) (runs.first_fails (run_no_word grammar table _ c.in_err-from.ensures))))

pub returns-in_err-own : goal.returns-in_err-own
returns-in_err-own c = failed grammar table _ formal_of _ (part s.MoreFormal) _ _ _ c.from_residual-in_err-own.ensures.1
    (runs.part_fails (runs.right (c.is_next.ensures ∙ c.if-is_next.false) (runs.next_fails (run_word grammar table _ c.in_ok-from.ensures) (runs.first_fails c.in_err-own.ensures))))

pub returns-in_err-called : goal.returns-in_err-called
returns-in_err-called c = failed grammar table _ formal_of _ (part s.MoreFormal) _ _ _ c.from_residual-in_err-called.ensures.1
    (runs.part_fails (runs.right (c.is_next.ensures ∙ c.if-is_next.false) (runs.next_fails (run_word grammar table _ c.in_ok-from.ensures) (runs.next_fails c.in_ok-own.ensures.runs (c.in_err-called.ensures c.args.room)))))

pub returns : goal.returns
returns c = read grammar table _ (formal_of) c.requires.inside
    (runs.part (runs.right (c.is_next.ensures ∙ c.if-is_next.false) (runs.both (run_word grammar table _ c.in_ok-from.ensures) (runs.both c.in_ok-own.ensures.runs (c.in_ok-called.ensures c.args.room).runs))))
    (λ i. record { ty = Some (c.in_ok-own.ensures.shows i); name = ((c.in_ok-called.ensures c.args.room).shows i) })
