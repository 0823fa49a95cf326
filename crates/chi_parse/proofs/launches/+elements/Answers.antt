use Rattle.std.proofs.Common.{◌∷◌, [], ◌++◌, refl, ap, ◌∙◌, arith}
use Rattle.chi_token.specs.declared.keyword.Keyword.TheVariants.{EndWord}
use Rattle.chi_token.specs.declared.sign.Sign.TheVariants as sign_of
use Rattle.chi_grammar.specs.declared.room.Nesting.TheVariants.{Block}
use Rattle.chi_grammar.specs.Rules.{leaf, part, many, ◌▸◌}
use Rattle.chi_grammar.specs.RuleRuns as runs
use Rattle.chi_grammar.proofs.Exits.{read, run_word, run_no_word, run_refused, reads_part, reads_left, reads_right, reads_then, failed, no_memory}
use Rattle.chi_tree.specs.declared.statement.Element.TheVariants as element
use Rattle.chi_tree.specs.Parts as s
use Rattle.chi_tree.specs.Rules.{grammar, inner_block, keyword, sign}
use Rattle.chi_tree.specs.Tables.{table}
use Rattle.chi_tree.specs.Statements.{elements_of, more_elements_of, element_of}
use Rattle.chi_parse.specs.Rests.{repeated_elements_of}
use Rattle.chi_parse.proofs.Shapes.{reads_as, unwound_elements}
use Rattle.chi_parse_expr.proofs.Loops.{gathered_start, gathered_more, gathered_stop, gathered_fails}
use Rattle.chi_parse.proofs.launches.+elements.Goals as goal

pub elements-returns-in_err-first : goal.elements-returns-in_err-first
elements-returns-in_err-first t c = failed grammar table _ elements_of _ (part s.Elements) _ _ _ c.from_residual.ensures.1
    (runs.part_fails (runs.first_fails c.in_err-first.ensures))

pub elements-returns : goal.elements-returns
elements-returns t c = reads_part grammar table _ elements_of _ s.Elements _ _
    (reads_then grammar table _ _ _ _ _ _ _ _ _ c.in_ok-first.ensures.runs
    (reads_as _ _ _ (λ u i. c.in_ok-first.ensures.shows i ∷ more_elements_of u) _ _ _ _ c.more_elements.ensures))

pub more_elements-returns-in_err-push : goal.more_elements-returns-in_err-push
more_elements-returns-in_err-push t c = no_memory grammar table _ (λ es. c.args.first ∷ more_elements_of es) _ (many (sign sign_of.Comma ▸ part s.Element)) _ _ c.from_residual.ensures.1

pub more_elements-turn-init : goal.more_elements-turn-init
more_elements-turn-init t c = gathered_start _ (c.args.first ∷ []) (c.in_ok-push.ensures.items ∙ ap (λ xs. xs ++ c.args.first ∷ []) c.new-elements.ensures.items) (λ u. refl) c.requires.inside

pub more_elements-returns-in_err-after : goal.more_elements-returns-in_err-after
more_elements-returns-in_err-after t c = failed grammar table _ (λ es. c.args.first ∷ more_elements_of es) _ (many (sign sign_of.Comma ▸ part s.Element)) _ _ _ c.from_residual-in_err-after.ensures.1
    (gathered_fails _ c.turn.invariant (c.is_next.ensures ∙ c.turn-test.true) (runs.first_fails (run_no_word grammar table _ c.in_err-after.ensures)))

pub more_elements-returns-in_err-next : goal.more_elements-returns-in_err-next
more_elements-returns-in_err-next t c = failed grammar table _ (λ es. c.args.first ∷ more_elements_of es) _ (many (sign sign_of.Comma ▸ part s.Element)) _ _ _ c.from_residual-in_err-next.ensures.1
    (gathered_fails _ c.turn.invariant (c.is_next.ensures ∙ c.turn-test.true) (runs.next_fails (run_word grammar table _ c.in_ok-after.ensures) c.in_err-next.ensures))

pub more_elements-returns-in_err-push-2 : goal.more_elements-returns-in_err-push-2
more_elements-returns-in_err-push-2 t c = no_memory grammar table _ (λ es. c.args.first ∷ more_elements_of es) _ (many (sign sign_of.Comma ▸ part s.Element)) _ _ c.from_residual-in_err-push-2.ensures.1

pub more_elements-turn-preserved : goal.more_elements-turn-preserved
more_elements-turn-preserved t c = gathered_more c.turn.invariant (c.is_next.ensures ∙ c.turn-test.true) (runs.both (run_word grammar table _ c.in_ok-after.ensures) c.in_ok-next.ensures.runs) _ (λ u i. c.in_ok-next.ensures.shows i ∷ more_elements_of u) c.in_ok-next.ensures.inside _ c.in_ok-push-2.ensures.items

pub more_elements-turn-smaller : goal.more_elements-turn-smaller
more_elements-turn-smaller t c = omega (arith, c.in_ok-next.ensures.ordered, c.in_ok-next.ensures.inside, c.in_ok-after.ensures.after)

pub more_elements-returns-in_err-of : goal.more_elements-returns-in_err-of
more_elements-returns-in_err-of t c = no_memory grammar table _ (λ es. c.args.first ∷ more_elements_of es) _ (many (sign sign_of.Comma ▸ part s.Element)) _ _ c.from_residual-in_err-of.ensures.1

pub more_elements-returns : goal.more_elements-returns
more_elements-returns t c = gathered_stop c.turn.invariant (c.is_next.ensures ∙ c.turn-test.false) refl c.requires.inside _ c.in_ok-of.ensures.same

pub element-returns-then-is_next : goal.element-returns-then-is_next
element-returns-then-is_next t c = reads_part grammar table _ element_of _ s.Element _ _
    (reads_left grammar table _ _ _ (part s.UnwoundElements) (part s.Make) _ _ (c.is_next.ensures ∙ c.if-is_next.true) c.unwound_elements.ensures)

pub element-returns : goal.element-returns
element-returns t c = reads_part grammar table _ element_of _ s.Element _ _
    (reads_right grammar table _ _ _ (part s.UnwoundElements) (part s.Make) _ _ (c.is_next.ensures ∙ c.if-is_next.false) c.make.ensures)

pub unwound_elements-returns-in_err-word : goal.unwound_elements-returns-in_err-word
unwound_elements-returns-in_err-word t c = failed grammar table _ element_of _ (part s.UnwoundElements) _ _ _ c.from_residual.ensures.1
    (runs.part_fails (runs.first_fails (run_no_word grammar table _ c.in_err-word.ensures)))

pub unwound_elements-returns-in_err-walk : goal.unwound_elements-returns-in_err-walk
unwound_elements-returns-in_err-walk t c = failed grammar table _ element_of _ (part s.UnwoundElements) _ _ _ c.from_residual-in_err-walk.ensures.1
    (runs.part_fails (runs.next_fails (run_word grammar table _ c.in_ok-word.ensures) (runs.first_fails c.in_err-walk.ensures)))

pub unwound_elements-returns-in_err-walk-2 : goal.unwound_elements-returns-in_err-walk-2
unwound_elements-returns-in_err-walk-2 t c = failed grammar table _ element_of _ (part s.UnwoundElements) _ _ _ c.from_residual-in_err-walk-2.ensures.1
    (runs.part_fails (runs.next_fails (run_word grammar table _ c.in_ok-word.ensures) (runs.next_fails c.in_ok-walk.ensures.runs (c.in_err-walk-2.ensures _ _ _ _ _ c.repeated_elements.ensures))))

pub unwound_elements-returns : goal.unwound_elements-returns
unwound_elements-returns t c =
    let q = c.in_ok-walk-2.ensures _ _ _ _ _ c.repeated_elements.ensures in
    read grammar table _ (element_of) c.requires.inside
    (runs.part (runs.both (run_word grammar table _ c.in_ok-word.ensures) (runs.both c.in_ok-walk.ensures.runs q.runs)))
    (unwound_elements q.runs (leaf c.in_ok-word.word.now) c.in_ok-walk.ensures.tree
    ∙ (λ i. element.Unwind c.in_ok-word.word.now.place (c.in_ok-walk.ensures.shows i) (repeated_elements_of q.tree))
    ∙ (λ i. element.Unwind c.in_ok-word.word.now.place (q.shows i).0 (q.shows i).1))

pub repeated_elements-returns-in_err-from : goal.repeated_elements-returns-in_err-from
repeated_elements-returns-in_err-from t c = failed grammar table _ repeated_elements_of _ (sign sign_of.Colon ▸ inner_block (part s.Elements) ▸ keyword EndWord) _ _ _ c.from_residual.ensures.1
    (runs.first_fails (run_no_word grammar table _ c.in_err-from.ensures))

pub repeated_elements-returns-in_err-inner : goal.repeated_elements-returns-in_err-inner
repeated_elements-returns-in_err-inner t c = failed grammar table _ repeated_elements_of _ (sign sign_of.Colon ▸ inner_block (part s.Elements) ▸ keyword EndWord) _ _ _ c.from_residual-in_err-inner.ensures.1
    (runs.next_fails (run_word grammar table _ c.in_ok-from.ensures) (runs.first_fails (run_refused grammar table _ _ Block (part s.Elements) _ _ c.in_err-inner.ensures.0 c.in_err-inner.ensures.1)))

pub repeated_elements-returns-in_err-elements : goal.repeated_elements-returns-in_err-elements
repeated_elements-returns-in_err-elements t c = failed grammar table _ repeated_elements_of _ (sign sign_of.Colon ▸ inner_block (part s.Elements) ▸ keyword EndWord) _ _ _ c.from_residual-in_err-elements.ensures.1
    (runs.next_fails (run_word grammar table _ c.in_ok-from.ensures) (runs.first_fails (runs.deeper c.in_ok-inner.ensures c.in_err-elements.ensures)))

pub repeated_elements-returns-in_err-end : goal.repeated_elements-returns-in_err-end
repeated_elements-returns-in_err-end t c = failed grammar table _ repeated_elements_of _ (sign sign_of.Colon ▸ inner_block (part s.Elements) ▸ keyword EndWord) _ _ _ c.from_residual-in_err-end.ensures.1
    (runs.next_fails (run_word grammar table _ c.in_ok-from.ensures) (runs.next_fails (runs.deeper c.in_ok-inner.ensures c.in_ok-elements.ensures.runs) (run_no_word grammar table _ c.in_err-end.ensures)))

pub repeated_elements-returns : goal.repeated_elements-returns
repeated_elements-returns t c = read grammar table _ repeated_elements_of c.requires.inside
    (runs.both (run_word grammar table _ c.in_ok-from.ensures) (runs.both (runs.deeper c.in_ok-inner.ensures c.in_ok-elements.ensures.runs) (run_word grammar table _ c.in_ok-end.ensures)))
    (λ i. c.in_ok-elements.ensures.shows i)
