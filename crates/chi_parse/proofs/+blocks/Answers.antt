use Rattle.std.proofs.Common.{◌≡◌, ◌∷◌, [], ◌++◌, refl, sym, ap, ◌∙◌, true, false, arith}
use Rattle.chi_token.specs.declared.keyword.Keyword.TheVariants as word_of
use Rattle.chi_token.specs.declared.sign.Sign.TheVariants.{Colon}
use Rattle.chi_grammar.specs.declared.room.Nesting.TheVariants.{Block}
use Rattle.chi_grammar.specs.Rules.{leaf, part, many, maybe, ◌▸◌, ◌∣◌}
use Rattle.chi_grammar.specs.RuleRuns as runs
use Rattle.chi_grammar.proofs.Exits.{read, run_word, run_no_word, run_refused, reads_part, reads_left, reads_right, reads_once, reads_deeper, reads_then, failed, no_memory}
use Rattle.chi_tree.specs.declared.statement.Statement.TheVariants as statement
use Rattle.chi_tree.specs.declared.statement.Alternative.TheVariants as alternative
use Rattle.chi_tree.specs.declared.statement.Branch.{roll-Branch}
use Rattle.chi_tree.specs.Parts as s
use Rattle.chi_tree.specs.Rules.{grammar, inner_block, keyword, sign}
use Rattle.chi_tree.specs.Tables.{table}
use Rattle.chi_tree.specs.Statements.{statement_of, block_of, inner_of, body_of, branch_of, elifs_of, else_of, alternatives_of, more_alternatives_of, alternative_of, alternative_body_of}
use Rattle.chi_parse.specs.Heads.{shown}
use Rattle.chi_parse.specs.Branches.{opened_of}
use Rattle.chi_parse.specs.Rests.{repeated_alternatives_of}
use Rattle.chi_parse.proofs.Branches.{branch_shows}
use Rattle.chi_parse.proofs.Shapes.{by_part, reads_as, unwound_alternatives}
use Rattle.chi_parse.proofs.Stretch.{Before, begun_fails, statement_ahead, turn, stretch_start, stretch_before, stretch_end, smaller}
use Rattle.chi_parse_expr.proofs.Loops.{gathered_start, gathered_more, gathered_stop, gathered_fails}
use Rattle.chi_parse.proofs.+blocks.Goals as goal

pub blocks::statement-returns-in_err-statement : goal.blocks::statement-returns-in_err-statement
blocks::statement-returns-in_err-statement t c = failed grammar table _ shown _ (part s.Closed ∣ part s.Launch ∣ part s.Open) _ _ _ c.from_residual.ensures.1
    (runs.left (c.is_next.ensures ∙ c.if-is_next.true) c.in_err-statement.ensures)

pub blocks::statement-returns-then-is_next : goal.blocks::statement-returns-then-is_next
blocks::statement-returns-then-is_next t c = read grammar table _ (shown) c.requires.inside (runs.left (c.is_next.ensures ∙ c.if-is_next.true) c.in_ok-statement.ensures.runs)
    (by_part (λ t. shown t ≡ (statement_of t, true)) (λ u. refl) c.in_ok-statement.ensures.runs ∙ (λ i. (c.in_ok-statement.ensures.shows i, true)))

pub blocks::statement-returns-then-is_next-2 : goal.blocks::statement-returns-then-is_next-2
blocks::statement-returns-then-is_next-2 t c = reads_right grammar table _ _ _ (part s.Closed) (part s.Launch ∣ part s.Open) _ _ (c.is_next.ensures ∙ c.if-is_next.false)
    (reads_left grammar table _ _ _ (part s.Launch) (part s.Open) _ _ (c.is_next-2.ensures ∙ c.if-is_next-2.true) c.launch.ensures)

pub blocks::statement-returns-in_err-statement-2 : goal.blocks::statement-returns-in_err-statement-2
blocks::statement-returns-in_err-statement-2 t c = failed grammar table _ shown _ (part s.Closed ∣ part s.Launch ∣ part s.Open) _ _ _ c.from_residual-in_err-statement-2.ensures.1
    (runs.right (c.is_next.ensures ∙ c.if-is_next.false) (runs.right (c.is_next-2.ensures ∙ c.if-is_next-2.false) c.in_err-statement-2.ensures))

pub blocks::statement-returns : goal.blocks::statement-returns
blocks::statement-returns t c = read grammar table _ (shown) c.requires.inside (runs.right (c.is_next.ensures ∙ c.if-is_next.false) (runs.right (c.is_next-2.ensures ∙ c.if-is_next-2.false) c.in_ok-statement-2.ensures.runs))
    (by_part (λ t. shown t ≡ (statement_of t, false)) (λ u. refl) c.in_ok-statement-2.ensures.runs ∙ (λ i. (c.in_ok-statement-2.ensures.shows i, false)))

pub blocks::closed-returns-then-is_next : goal.blocks::closed-returns-then-is_next
blocks::closed-returns-then-is_next t c = reads_part grammar table _ statement_of _ s.Closed _ _
    (reads_left grammar table _ _ _ (part s.Select) (part s.If ∣ part s.While ∣ part s.For) _ _ (c.is_next.ensures ∙ c.if-is_next.true) c.select.ensures)

pub blocks::closed-returns-then-is_next-2 : goal.blocks::closed-returns-then-is_next-2
blocks::closed-returns-then-is_next-2 t c = reads_part grammar table _ statement_of _ s.Closed _ _
    (reads_right grammar table _ _ _ (part s.Select) (part s.If ∣ part s.While ∣ part s.For) _ _ (c.is_next.ensures ∙ c.if-is_next.false)
    (reads_left grammar table _ _ _ (part s.If) (part s.While ∣ part s.For) _ _ (c.is_next-2.ensures ∙ c.if-is_next-2.true) c.branching.ensures))

pub blocks::closed-returns-then-is_next-3 : goal.blocks::closed-returns-then-is_next-3
blocks::closed-returns-then-is_next-3 t c = reads_part grammar table _ statement_of _ s.Closed _ _
    (reads_right grammar table _ _ _ (part s.Select) (part s.If ∣ part s.While ∣ part s.For) _ _ (c.is_next.ensures ∙ c.if-is_next.false)
    (reads_right grammar table _ _ _ (part s.If) (part s.While ∣ part s.For) _ _ (c.is_next-2.ensures ∙ c.if-is_next-2.false)
    (reads_left grammar table _ _ _ (part s.While) (part s.For) _ _ (c.is_next-3.ensures ∙ c.if-is_next-3.true) c.repetition.ensures)))

pub blocks::closed-returns : goal.blocks::closed-returns
blocks::closed-returns t c = reads_part grammar table _ statement_of _ s.Closed _ _
    (reads_right grammar table _ _ _ (part s.Select) (part s.If ∣ part s.While ∣ part s.For) _ _ (c.is_next.ensures ∙ c.if-is_next.false)
    (reads_right grammar table _ _ _ (part s.If) (part s.While ∣ part s.For) _ _ (c.is_next-2.ensures ∙ c.if-is_next-2.false)
    (reads_right grammar table _ _ _ (part s.While) (part s.For) _ _ (c.is_next-3.ensures ∙ c.if-is_next-3.false)
    c.walking.ensures)))

pub blocks::inner-returns-in_err-inner : goal.blocks::inner-returns-in_err-inner
blocks::inner-returns-in_err-inner t c = failed grammar table _ inner_of _ (part s.Inner) _ _ _ c.from_residual.ensures.1
    (runs.part_fails (run_refused grammar table _ _ Block (part s.Block) _ _ c.in_err-inner.ensures.0 c.in_err-inner.ensures.1))

pub blocks::inner-returns : goal.blocks::inner-returns
blocks::inner-returns t c = reads_part grammar table _ inner_of _ s.Inner _ _
    (reads_deeper grammar table _ _ _ _ Block (part s.Block) _ _ c.in_ok-inner.ensures c.block.ensures)

pub blocks::body-returns-in_err-start : goal.blocks::body-returns-in_err-start
blocks::body-returns-in_err-start t c = failed grammar table _ body_of _ (part s.Body) _ _ _ c.from_residual.ensures.1
    (runs.part_fails (runs.first_fails (run_no_word grammar table _ c.in_err-start.ensures)))

pub blocks::body-returns-in_err-block : goal.blocks::body-returns-in_err-block
blocks::body-returns-in_err-block t c = failed grammar table _ body_of _ (part s.Body) _ _ _ c.from_residual-in_err-block.ensures.1
    (runs.part_fails (runs.next_fails (run_word grammar table _ c.in_ok-start.ensures) (runs.first_fails c.in_err-block.ensures)))

pub blocks::body-returns-in_err-end : goal.blocks::body-returns-in_err-end
blocks::body-returns-in_err-end t c = failed grammar table _ body_of _ (part s.Body) _ _ _ c.from_residual-in_err-end.ensures.1
    (runs.part_fails (runs.next_fails (run_word grammar table _ c.in_ok-start.ensures) (runs.next_fails c.in_ok-block.ensures.runs (run_no_word grammar table _ c.in_err-end.ensures))))

pub blocks::body-returns : goal.blocks::body-returns
blocks::body-returns t c = read grammar table _ (body_of) c.requires.inside
    (runs.part (runs.both (run_word grammar table _ c.in_ok-start.ensures) (runs.both c.in_ok-block.ensures.runs (run_word grammar table _ c.in_ok-end.ensures))))
    (λ i. (c.in_ok-block.ensures.shows i))

pub blocks::branch-returns-in_err-condition : goal.blocks::branch-returns-in_err-condition
blocks::branch-returns-in_err-condition t c = failed grammar table _ branch_of _ (part s.Branch) _ _ _ c.from_residual.ensures.1
    (runs.part_fails (runs.first_fails c.in_err-condition.ensures))

pub blocks::branch-returns-in_err-condition-2 : goal.blocks::branch-returns-in_err-condition-2
blocks::branch-returns-in_err-condition-2 t c = failed grammar table _ branch_of _ (part s.Branch) _ _ _ c.from_residual-in_err-condition-2.ensures.1
    (runs.part_fails (runs.next_fails c.in_ok-condition.ensures.runs (c.in_err-condition-2.ensures _ _ _ _ _ c.after_colon.ensures)))

pub blocks::branch-returns : goal.blocks::branch-returns
blocks::branch-returns t c =
    let q = c.in_ok-condition-2.ensures _ _ _ _ _ c.after_colon.ensures in
    read grammar table _ (branch_of) c.requires.inside
    (runs.part (runs.both c.in_ok-condition.ensures.runs q.runs))
    (branch_shows q.runs c.in_ok-condition.ensures.tree
    ∙ (λ i. roll-Branch (record { condition = (c.in_ok-condition.ensures.shows i); block = opened_of q.tree }))
    ∙ (λ i. roll-Branch (record { condition = (q.shows i).0; block = (q.shows i).1 })))

pub blocks::after_colon-returns-in_err-start : goal.blocks::after_colon-returns-in_err-start
blocks::after_colon-returns-in_err-start t c = failed grammar table _ opened_of _ (sign Colon ▸ part s.Inner) _ _ _ c.from_residual.ensures.1
    (runs.first_fails (run_no_word grammar table _ c.in_err-start.ensures))

pub blocks::after_colon-returns : goal.blocks::after_colon-returns
blocks::after_colon-returns t c = reads_then grammar table _ _ _ _ _ _ _ _ _ (run_word grammar table _ c.in_ok-start.ensures) c.inner.ensures

pub blocks::more_branches-returns-in_err-push : goal.blocks::more_branches-returns-in_err-push
blocks::more_branches-returns-in_err-push t c = no_memory grammar table _ (λ bs. c.args.first ∷ elifs_of bs) _ (many (part s.Elif)) _ _ c.from_residual.ensures.1

pub blocks::more_branches-turn-init : goal.blocks::more_branches-turn-init
blocks::more_branches-turn-init t c = gathered_start _ (c.args.first ∷ []) (c.in_ok-push.ensures.items ∙ ap (λ xs. xs ++ c.args.first ∷ []) c.new-branches.ensures.items) (λ u. refl) c.requires.inside

pub blocks::more_branches-returns-in_err-after : goal.blocks::more_branches-returns-in_err-after
blocks::more_branches-returns-in_err-after t c = failed grammar table _ (λ bs. c.args.first ∷ elifs_of bs) _ (many (part s.Elif)) _ _ _ c.from_residual-in_err-after.ensures.1
    (gathered_fails _ c.turn.invariant (c.is_next.ensures ∙ c.turn-test.true) (runs.part_fails (runs.first_fails (run_no_word grammar table _ c.in_err-after.ensures))))

pub blocks::more_branches-returns-in_err-next : goal.blocks::more_branches-returns-in_err-next
blocks::more_branches-returns-in_err-next t c = failed grammar table _ (λ bs. c.args.first ∷ elifs_of bs) _ (many (part s.Elif)) _ _ _ c.from_residual-in_err-next.ensures.1
    (gathered_fails _ c.turn.invariant (c.is_next.ensures ∙ c.turn-test.true) (runs.part_fails (runs.next_fails (run_word grammar table _ c.in_ok-after.ensures) c.in_err-next.ensures)))

pub blocks::more_branches-returns-in_err-push-2 : goal.blocks::more_branches-returns-in_err-push-2
blocks::more_branches-returns-in_err-push-2 t c = no_memory grammar table _ (λ bs. c.args.first ∷ elifs_of bs) _ (many (part s.Elif)) _ _ c.from_residual-in_err-push-2.ensures.1

pub blocks::more_branches-turn-preserved : goal.blocks::more_branches-turn-preserved
blocks::more_branches-turn-preserved t c = gathered_more c.turn.invariant (c.is_next.ensures ∙ c.turn-test.true) (runs.part (runs.both (run_word grammar table _ c.in_ok-after.ensures) c.in_ok-next.ensures.runs)) _ (λ u i. c.in_ok-next.ensures.shows i ∷ elifs_of u) c.in_ok-next.ensures.inside _ c.in_ok-push-2.ensures.items

pub blocks::more_branches-turn-smaller : goal.blocks::more_branches-turn-smaller
blocks::more_branches-turn-smaller t c = omega (arith, c.in_ok-next.ensures.ordered, c.in_ok-next.ensures.inside, c.in_ok-after.ensures.after)

pub blocks::more_branches-returns-in_err-of : goal.blocks::more_branches-returns-in_err-of
blocks::more_branches-returns-in_err-of t c = no_memory grammar table _ (λ bs. c.args.first ∷ elifs_of bs) _ (many (part s.Elif)) _ _ c.from_residual-in_err-of.ensures.1

pub blocks::more_branches-returns : goal.blocks::more_branches-returns
blocks::more_branches-returns t c = gathered_stop c.turn.invariant (c.is_next.ensures ∙ c.turn-test.false) refl c.requires.inside _ c.in_ok-of.ensures.same

pub blocks::otherwise-returns-in_err-of : goal.blocks::otherwise-returns-in_err-of
blocks::otherwise-returns-in_err-of t c = no_memory grammar table _ else_of _ (maybe (part s.Else)) _ _ c.from_residual.ensures.1

pub blocks::otherwise-returns-then-not-is_next : goal.blocks::otherwise-returns-then-not-is_next
blocks::otherwise-returns-then-not-is_next t c = read grammar table _ (else_of) c.requires.inside (runs.never (c.is_next.ensures ∙ c.if-not-is_next.true)) (sym (c.in_ok-of.ensures.same ∙ c.new.ensures.items))

pub blocks::otherwise-returns-in_err-middle : goal.blocks::otherwise-returns-in_err-middle
blocks::otherwise-returns-in_err-middle t c = failed grammar table _ else_of _ (maybe (part s.Else)) _ _ _ c.from_residual-in_err-middle.ensures.1
    (runs.once (c.is_next.ensures ∙ c.if-not-is_next.false) (runs.part_fails (runs.first_fails (run_no_word grammar table _ c.in_err-middle.ensures))))

pub blocks::otherwise-returns-in_err-start : goal.blocks::otherwise-returns-in_err-start
blocks::otherwise-returns-in_err-start t c = failed grammar table _ else_of _ (maybe (part s.Else)) _ _ _ c.from_residual-in_err-start.ensures.1
    (runs.once (c.is_next.ensures ∙ c.if-not-is_next.false) (runs.part_fails (runs.next_fails (run_word grammar table _ c.in_ok-middle.ensures) (runs.first_fails (run_no_word grammar table _ c.in_err-start.ensures)))))

pub blocks::otherwise-returns : goal.blocks::otherwise-returns
blocks::otherwise-returns t c = reads_once grammar table _ _ _ _ _ _ (c.is_next.ensures ∙ c.if-not-is_next.false)
    (reads_part grammar table _ _ _ s.Else _ _
    (reads_then grammar table _ _ _ _ _ _ _ _ _ (run_word grammar table _ c.in_ok-middle.ensures)
    (reads_then grammar table _ _ _ _ _ _ _ _ _ (run_word grammar table _ c.in_ok-start.ensures) c.inner.ensures)))

pub blocks::branching-returns-in_err-word : goal.blocks::branching-returns-in_err-word
blocks::branching-returns-in_err-word t c = failed grammar table _ statement_of _ (part s.If) _ _ _ c.from_residual.ensures.1
    (runs.part_fails (runs.first_fails (run_no_word grammar table _ c.in_err-word.ensures)))

pub blocks::branching-returns-in_err-first : goal.blocks::branching-returns-in_err-first
blocks::branching-returns-in_err-first t c = failed grammar table _ statement_of _ (part s.If) _ _ _ c.from_residual-in_err-first.ensures.1
    (runs.part_fails (runs.next_fails (run_word grammar table _ c.in_ok-word.ensures) (runs.first_fails c.in_err-first.ensures)))

pub blocks::branching-returns-in_err-branches : goal.blocks::branching-returns-in_err-branches
blocks::branching-returns-in_err-branches t c = failed grammar table _ statement_of _ (part s.If) _ _ _ c.from_residual-in_err-branches.ensures.1
    (runs.part_fails (runs.next_fails (run_word grammar table _ c.in_ok-word.ensures) (runs.next_fails c.in_ok-first.ensures.runs (runs.first_fails c.in_err-branches.ensures))))

pub blocks::branching-returns-in_err-other : goal.blocks::branching-returns-in_err-other
blocks::branching-returns-in_err-other t c = failed grammar table _ statement_of _ (part s.If) _ _ _ c.from_residual-in_err-other.ensures.1
    (runs.part_fails (runs.next_fails (run_word grammar table _ c.in_ok-word.ensures) (runs.next_fails c.in_ok-first.ensures.runs (runs.next_fails c.in_ok-branches.ensures.runs (runs.first_fails c.in_err-other.ensures)))))

pub blocks::branching-returns-in_err-end : goal.blocks::branching-returns-in_err-end
blocks::branching-returns-in_err-end t c = failed grammar table _ statement_of _ (part s.If) _ _ _ c.from_residual-in_err-end.ensures.1
    (runs.part_fails (runs.next_fails (run_word grammar table _ c.in_ok-word.ensures) (runs.next_fails c.in_ok-first.ensures.runs (runs.next_fails c.in_ok-branches.ensures.runs (runs.next_fails c.in_ok-other.ensures.runs (run_no_word grammar table _ c.in_err-end.ensures))))))

pub blocks::branching-returns : goal.blocks::branching-returns
blocks::branching-returns t c = read grammar table _ (statement_of) c.requires.inside
    (runs.part (runs.both (run_word grammar table _ c.in_ok-word.ensures) (runs.both c.in_ok-first.ensures.runs (runs.both c.in_ok-branches.ensures.runs (runs.both c.in_ok-other.ensures.runs (run_word grammar table _ c.in_ok-end.ensures))))))
    (λ i. statement.If c.in_ok-word.word.now.place ((ap (λ b. b ∷ elifs_of c.in_ok-branches.ensures.tree) (c.in_ok-first.ensures.shows) ∙ (c.in_ok-branches.ensures.shows)) i) (c.in_ok-other.ensures.shows i))

pub blocks::repetition-returns-in_err-word : goal.blocks::repetition-returns-in_err-word
blocks::repetition-returns-in_err-word t c = failed grammar table _ statement_of _ (part s.While) _ _ _ c.from_residual.ensures.1
    (runs.part_fails (runs.first_fails (run_no_word grammar table _ c.in_err-word.ensures)))

pub blocks::repetition-returns-in_err-condition : goal.blocks::repetition-returns-in_err-condition
blocks::repetition-returns-in_err-condition t c = failed grammar table _ statement_of _ (part s.While) _ _ _ c.from_residual-in_err-condition.ensures.1
    (runs.part_fails (runs.next_fails (run_word grammar table _ c.in_ok-word.ensures) (runs.first_fails c.in_err-condition.ensures)))

pub blocks::repetition-returns-in_err-condition-2 : goal.blocks::repetition-returns-in_err-condition-2
blocks::repetition-returns-in_err-condition-2 t c = failed grammar table _ statement_of _ (part s.While) _ _ _ c.from_residual-in_err-condition-2.ensures.1
    (runs.part_fails (runs.next_fails (run_word grammar table _ c.in_ok-word.ensures) (runs.next_fails c.in_ok-condition.ensures.runs (c.in_err-condition-2.ensures _ _ _ _ _ c.body.ensures))))

pub blocks::repetition-returns : goal.blocks::repetition-returns
blocks::repetition-returns t c =
    let q = c.in_ok-condition-2.ensures _ _ _ _ _ c.body.ensures in
    read grammar table _ (statement_of) c.requires.inside
    (runs.part (runs.both (run_word grammar table _ c.in_ok-word.ensures) (runs.both c.in_ok-condition.ensures.runs q.runs)))
    ((λ i. statement.While c.in_ok-word.word.now.place (c.in_ok-condition.ensures.shows i) (body_of q.tree))
    ∙ (λ i. statement.While c.in_ok-word.word.now.place (q.shows i).0 (q.shows i).1))

pub blocks::walking-returns-in_err-word : goal.blocks::walking-returns-in_err-word
blocks::walking-returns-in_err-word t c = failed grammar table _ statement_of _ (part s.For) _ _ _ c.from_residual.ensures.1
    (runs.part_fails (runs.first_fails (run_no_word grammar table _ c.in_err-word.ensures)))

pub blocks::walking-returns-in_err-walk : goal.blocks::walking-returns-in_err-walk
blocks::walking-returns-in_err-walk t c = failed grammar table _ statement_of _ (part s.For) _ _ _ c.from_residual-in_err-walk.ensures.1
    (runs.part_fails (runs.next_fails (run_word grammar table _ c.in_ok-word.ensures) (runs.first_fails c.in_err-walk.ensures)))

pub blocks::walking-returns-in_err-walk-2 : goal.blocks::walking-returns-in_err-walk-2
blocks::walking-returns-in_err-walk-2 t c = failed grammar table _ statement_of _ (part s.For) _ _ _ c.from_residual-in_err-walk-2.ensures.1
    (runs.part_fails (runs.next_fails (run_word grammar table _ c.in_ok-word.ensures) (runs.next_fails c.in_ok-walk.ensures.runs (c.in_err-walk-2.ensures _ _ _ _ _ c.body.ensures))))

pub blocks::walking-returns : goal.blocks::walking-returns
blocks::walking-returns t c =
    let q = c.in_ok-walk-2.ensures _ _ _ _ _ c.body.ensures in
    read grammar table _ (statement_of) c.requires.inside
    (runs.part (runs.both (run_word grammar table _ c.in_ok-word.ensures) (runs.both c.in_ok-walk.ensures.runs q.runs)))
    ((λ i. statement.For c.in_ok-word.word.now.place (c.in_ok-walk.ensures.shows i) (body_of q.tree))
    ∙ (λ i. statement.For c.in_ok-word.word.now.place (q.shows i).0 (q.shows i).1))

pub selects::select-returns-in_err-word : goal.selects::select-returns-in_err-word
selects::select-returns-in_err-word t c = failed grammar table _ statement_of _ (part s.Select) _ _ _ c.from_residual.ensures.1
    (runs.part_fails (runs.first_fails (run_no_word grammar table _ c.in_err-word.ensures)))

pub selects::select-returns-in_err-alternatives : goal.selects::select-returns-in_err-alternatives
selects::select-returns-in_err-alternatives t c = failed grammar table _ statement_of _ (part s.Select) _ _ _ c.from_residual-in_err-alternatives.ensures.1
    (runs.part_fails (runs.next_fails (run_word grammar table _ c.in_ok-word.ensures) (runs.first_fails c.in_err-alternatives.ensures)))

pub selects::select-returns-in_err-end : goal.selects::select-returns-in_err-end
selects::select-returns-in_err-end t c = failed grammar table _ statement_of _ (part s.Select) _ _ _ c.from_residual-in_err-end.ensures.1
    (runs.part_fails (runs.next_fails (run_word grammar table _ c.in_ok-word.ensures) (runs.next_fails c.in_ok-alternatives.ensures.runs (run_no_word grammar table _ c.in_err-end.ensures))))

pub selects::select-returns : goal.selects::select-returns
selects::select-returns t c = read grammar table _ (statement_of) c.requires.inside
    (runs.part (runs.both (run_word grammar table _ c.in_ok-word.ensures) (runs.both c.in_ok-alternatives.ensures.runs (run_word grammar table _ c.in_ok-end.ensures))))
    (λ i. statement.Select c.in_ok-word.word.now.place (c.in_ok-alternatives.ensures.shows i))

pub selects::alternatives-returns-in_err-first : goal.selects::alternatives-returns-in_err-first
selects::alternatives-returns-in_err-first t c = failed grammar table _ alternatives_of _ (part s.Alternatives) _ _ _ c.from_residual.ensures.1
    (runs.part_fails (runs.first_fails c.in_err-first.ensures))

pub selects::alternatives-returns : goal.selects::alternatives-returns
selects::alternatives-returns t c = reads_part grammar table _ alternatives_of _ s.Alternatives _ _
    (reads_then grammar table _ _ _ _ _ _ _ _ _ c.in_ok-first.ensures.runs
    (reads_as _ _ _ (λ u i. c.in_ok-first.ensures.shows i ∷ more_alternatives_of u) _ _ _ _ c.more_alternatives.ensures))

pub selects::more_alternatives-returns-in_err-push : goal.selects::more_alternatives-returns-in_err-push
selects::more_alternatives-returns-in_err-push t c = no_memory grammar table _ (λ xs. c.args.first ∷ more_alternatives_of xs) _ (many (keyword word_of.AltWord ▸ part s.Alternative)) _ _ c.from_residual.ensures.1

pub selects::more_alternatives-turn-init : goal.selects::more_alternatives-turn-init
selects::more_alternatives-turn-init t c = gathered_start _ (c.args.first ∷ []) (c.in_ok-push.ensures.items ∙ ap (λ xs. xs ++ c.args.first ∷ []) c.new-alternatives.ensures.items) (λ u. refl) c.requires.inside

pub selects::more_alternatives-returns-in_err-after : goal.selects::more_alternatives-returns-in_err-after
selects::more_alternatives-returns-in_err-after t c = failed grammar table _ (λ xs. c.args.first ∷ more_alternatives_of xs) _ (many (keyword word_of.AltWord ▸ part s.Alternative)) _ _ _ c.from_residual-in_err-after.ensures.1
    (gathered_fails _ c.turn.invariant (c.is_next.ensures ∙ c.turn-test.true) (runs.first_fails (run_no_word grammar table _ c.in_err-after.ensures)))

pub selects::more_alternatives-returns-in_err-next : goal.selects::more_alternatives-returns-in_err-next
selects::more_alternatives-returns-in_err-next t c = failed grammar table _ (λ xs. c.args.first ∷ more_alternatives_of xs) _ (many (keyword word_of.AltWord ▸ part s.Alternative)) _ _ _ c.from_residual-in_err-next.ensures.1
    (gathered_fails _ c.turn.invariant (c.is_next.ensures ∙ c.turn-test.true) (runs.next_fails (run_word grammar table _ c.in_ok-after.ensures) c.in_err-next.ensures))

pub selects::more_alternatives-returns-in_err-push-2 : goal.selects::more_alternatives-returns-in_err-push-2
selects::more_alternatives-returns-in_err-push-2 t c = no_memory grammar table _ (λ xs. c.args.first ∷ more_alternatives_of xs) _ (many (keyword word_of.AltWord ▸ part s.Alternative)) _ _ c.from_residual-in_err-push-2.ensures.1

pub selects::more_alternatives-turn-preserved : goal.selects::more_alternatives-turn-preserved
selects::more_alternatives-turn-preserved t c = gathered_more c.turn.invariant (c.is_next.ensures ∙ c.turn-test.true) (runs.both (run_word grammar table _ c.in_ok-after.ensures) c.in_ok-next.ensures.runs) _ (λ u i. c.in_ok-next.ensures.shows i ∷ more_alternatives_of u) c.in_ok-next.ensures.inside _ c.in_ok-push-2.ensures.items

pub selects::more_alternatives-turn-smaller : goal.selects::more_alternatives-turn-smaller
selects::more_alternatives-turn-smaller t c = omega (arith, c.in_ok-next.ensures.ordered, c.in_ok-next.ensures.inside, c.in_ok-after.ensures.after)

pub selects::more_alternatives-returns-in_err-of : goal.selects::more_alternatives-returns-in_err-of
selects::more_alternatives-returns-in_err-of t c = no_memory grammar table _ (λ xs. c.args.first ∷ more_alternatives_of xs) _ (many (keyword word_of.AltWord ▸ part s.Alternative)) _ _ c.from_residual-in_err-of.ensures.1

pub selects::more_alternatives-returns : goal.selects::more_alternatives-returns
selects::more_alternatives-returns t c = gathered_stop c.turn.invariant (c.is_next.ensures ∙ c.turn-test.false) refl c.requires.inside _ c.in_ok-of.ensures.same

pub selects::alternative-returns-then-is_next : goal.selects::alternative-returns-then-is_next
selects::alternative-returns-then-is_next t c = reads_part grammar table _ alternative_of _ s.Alternative _ _
    (reads_left grammar table _ _ _ (part s.UnwoundAlternatives) (part s.GuardedAlternative) _ _ (c.is_next.ensures ∙ c.if-is_next.true) c.unwound_alternatives.ensures)

pub selects::alternative-returns : goal.selects::alternative-returns
selects::alternative-returns t c = reads_part grammar table _ alternative_of _ s.Alternative _ _
    (reads_right grammar table _ _ _ (part s.UnwoundAlternatives) (part s.GuardedAlternative) _ _ (c.is_next.ensures ∙ c.if-is_next.false) c.guarded_alternative.ensures)

pub selects::unwound_alternatives-returns-in_err-word : goal.selects::unwound_alternatives-returns-in_err-word
selects::unwound_alternatives-returns-in_err-word t c = failed grammar table _ alternative_of _ (part s.UnwoundAlternatives) _ _ _ c.from_residual.ensures.1
    (runs.part_fails (runs.first_fails (run_no_word grammar table _ c.in_err-word.ensures)))

pub selects::unwound_alternatives-returns-in_err-walk : goal.selects::unwound_alternatives-returns-in_err-walk
selects::unwound_alternatives-returns-in_err-walk t c = failed grammar table _ alternative_of _ (part s.UnwoundAlternatives) _ _ _ c.from_residual-in_err-walk.ensures.1
    (runs.part_fails (runs.next_fails (run_word grammar table _ c.in_ok-word.ensures) (runs.first_fails c.in_err-walk.ensures)))

pub selects::unwound_alternatives-returns-in_err-walk-2 : goal.selects::unwound_alternatives-returns-in_err-walk-2
selects::unwound_alternatives-returns-in_err-walk-2 t c = failed grammar table _ alternative_of _ (part s.UnwoundAlternatives) _ _ _ c.from_residual-in_err-walk-2.ensures.1
    (runs.part_fails (runs.next_fails (run_word grammar table _ c.in_ok-word.ensures) (runs.next_fails c.in_ok-walk.ensures.runs (c.in_err-walk-2.ensures _ _ _ _ _ c.repeated_alternatives.ensures))))

pub selects::unwound_alternatives-returns : goal.selects::unwound_alternatives-returns
selects::unwound_alternatives-returns t c =
    let q = c.in_ok-walk-2.ensures _ _ _ _ _ c.repeated_alternatives.ensures in
    read grammar table _ (alternative_of) c.requires.inside
    (runs.part (runs.both (run_word grammar table _ c.in_ok-word.ensures) (runs.both c.in_ok-walk.ensures.runs q.runs)))
    (unwound_alternatives q.runs (leaf c.in_ok-word.word.now) c.in_ok-walk.ensures.tree
    ∙ (λ i. alternative.Unwind c.in_ok-word.word.now.place (c.in_ok-walk.ensures.shows i) (repeated_alternatives_of q.tree))
    ∙ (λ i. alternative.Unwind c.in_ok-word.word.now.place (q.shows i).0 (q.shows i).1))

pub selects::repeated_alternatives-returns-in_err-from : goal.selects::repeated_alternatives-returns-in_err-from
selects::repeated_alternatives-returns-in_err-from t c = failed grammar table _ repeated_alternatives_of _ (sign Colon ▸ inner_block (part s.Alternatives) ▸ keyword word_of.EndWord) _ _ _ c.from_residual.ensures.1
    (runs.first_fails (run_no_word grammar table _ c.in_err-from.ensures))

pub selects::repeated_alternatives-returns-in_err-inner : goal.selects::repeated_alternatives-returns-in_err-inner
selects::repeated_alternatives-returns-in_err-inner t c = failed grammar table _ repeated_alternatives_of _ (sign Colon ▸ inner_block (part s.Alternatives) ▸ keyword word_of.EndWord) _ _ _ c.from_residual-in_err-inner.ensures.1
    (runs.next_fails (run_word grammar table _ c.in_ok-from.ensures) (runs.first_fails (run_refused grammar table _ _ Block (part s.Alternatives) _ _ c.in_err-inner.ensures.0 c.in_err-inner.ensures.1)))

pub selects::repeated_alternatives-returns-in_err-alternatives : goal.selects::repeated_alternatives-returns-in_err-alternatives
selects::repeated_alternatives-returns-in_err-alternatives t c = failed grammar table _ repeated_alternatives_of _ (sign Colon ▸ inner_block (part s.Alternatives) ▸ keyword word_of.EndWord) _ _ _ c.from_residual-in_err-alternatives.ensures.1
    (runs.next_fails (run_word grammar table _ c.in_ok-from.ensures) (runs.first_fails (runs.deeper c.in_ok-inner.ensures c.in_err-alternatives.ensures)))

pub selects::repeated_alternatives-returns-in_err-end : goal.selects::repeated_alternatives-returns-in_err-end
selects::repeated_alternatives-returns-in_err-end t c = failed grammar table _ repeated_alternatives_of _ (sign Colon ▸ inner_block (part s.Alternatives) ▸ keyword word_of.EndWord) _ _ _ c.from_residual-in_err-end.ensures.1
    (runs.next_fails (run_word grammar table _ c.in_ok-from.ensures) (runs.next_fails (runs.deeper c.in_ok-inner.ensures c.in_ok-alternatives.ensures.runs) (run_no_word grammar table _ c.in_err-end.ensures)))

pub selects::repeated_alternatives-returns : goal.selects::repeated_alternatives-returns
selects::repeated_alternatives-returns t c = read grammar table _ repeated_alternatives_of c.requires.inside
    (runs.both (run_word grammar table _ c.in_ok-from.ensures) (runs.both (runs.deeper c.in_ok-inner.ensures c.in_ok-alternatives.ensures.runs) (run_word grammar table _ c.in_ok-end.ensures)))
    (λ i. c.in_ok-alternatives.ensures.shows i)

pub selects::guarded_alternative-returns-in_err-offer : goal.selects::guarded_alternative-returns-in_err-offer
selects::guarded_alternative-returns-in_err-offer t c = failed grammar table _ alternative_of _ (part s.GuardedAlternative) _ _ _ c.from_residual.ensures.1
    (runs.part_fails (runs.first_fails c.in_err-offer.ensures))

pub selects::guarded_alternative-returns-in_err-offer-2 : goal.selects::guarded_alternative-returns-in_err-offer-2
selects::guarded_alternative-returns-in_err-offer-2 t c = failed grammar table _ alternative_of _ (part s.GuardedAlternative) _ _ _ c.from_residual-in_err-offer-2.ensures.1
    (runs.part_fails (runs.next_fails c.in_ok-offer.ensures.runs (c.in_err-offer-2.ensures _ _ _ _ _ c.alternative_body.ensures)))

pub selects::guarded_alternative-returns : goal.selects::guarded_alternative-returns
selects::guarded_alternative-returns t c =
    let q = c.in_ok-offer-2.ensures _ _ _ _ _ c.alternative_body.ensures in
    read grammar table _ (alternative_of) c.requires.inside
    (runs.part (runs.both c.in_ok-offer.ensures.runs q.runs))
    ((λ i. alternative.Guarded (c.in_ok-offer.ensures.shows i).guard (c.in_ok-offer.ensures.shows i).communication (alternative_body_of q.tree))
    ∙ (λ i. alternative.Guarded (q.shows i).0.guard (q.shows i).0.communication (q.shows i).1) ∙ sym c.offered_block.ensures)

pub selects::alternative_body-returns-in_err-of : goal.selects::alternative_body-returns-in_err-of
selects::alternative_body-returns-in_err-of t c = no_memory grammar table _ alternative_body_of _ (maybe (part s.AlternativeBody)) _ _ c.from_residual.ensures.1

pub selects::alternative_body-returns-then-not-is_next : goal.selects::alternative_body-returns-then-not-is_next
selects::alternative_body-returns-then-not-is_next t c = read grammar table _ (alternative_body_of) c.requires.inside (runs.never (c.is_next.ensures ∙ c.if-not-is_next.true)) (sym (c.in_ok-of.ensures.same ∙ c.new.ensures.items))

pub selects::alternative_body-returns-in_err-start : goal.selects::alternative_body-returns-in_err-start
selects::alternative_body-returns-in_err-start t c = failed grammar table _ alternative_body_of _ (maybe (part s.AlternativeBody)) _ _ _ c.from_residual-in_err-start.ensures.1
    (runs.once (c.is_next.ensures ∙ c.if-not-is_next.false) (runs.part_fails (runs.first_fails (run_no_word grammar table _ c.in_err-start.ensures))))

pub selects::alternative_body-returns : goal.selects::alternative_body-returns
selects::alternative_body-returns t c = reads_once grammar table _ _ _ _ _ _ (c.is_next.ensures ∙ c.if-not-is_next.false)
    (reads_part grammar table _ _ _ s.AlternativeBody _ _
    (reads_then grammar table _ _ _ _ _ _ _ _ _ (run_word grammar table _ c.in_ok-start.ensures) c.inner.ensures))

pub blocks::block-returns-in_err-statement : goal.blocks::block-returns-in_err-statement
blocks::block-returns-in_err-statement t c = failed grammar table _ block_of _ (part s.Block) _ _ _ c.from_residual.ensures.1
    (Before.fails (stretch_before c.turn.more c.turn-test.true c.turn.invariant.0) _ (begun_fails _ _ c.in_err-statement.ensures))

pub blocks::block-returns-in_err-push : goal.blocks::block-returns-in_err-push
blocks::block-returns-in_err-push t c = no_memory grammar table _ block_of _ (part s.Block) _ _ c.from_residual-in_err-push.ensures.1

pub blocks::block-turn-init : goal.blocks::block-turn-init
blocks::block-turn-init t c = (stretch_start c.args.tokens.now c.args.room c.args.at _ c.new-steps.ensures.items c.requires.inside, c.requires.inside)

pub blocks::block-turn-preserved : goal.blocks::block-turn-preserved
blocks::block-turn-preserved t c = (turn _ _ (stretch_before c.turn.more c.turn-test.true c.turn.invariant.0) c.in_ok-statement.ensures (c.optional_semicolon-semicolon.ensures c.args.room) _ c.is_next-goes_on.ensures _ c.in_ok-push.ensures.items c.requires.inside, (c.optional_semicolon-semicolon.ensures c.args.room).inside)

pub blocks::block-turn-smaller : goal.blocks::block-turn-smaller
blocks::block-turn-smaller t c = smaller _ _ _ c.turn.more _ c.turn-test.true (omega (arith, statement_ahead _ _ c.in_ok-statement.ensures.runs, (c.optional_semicolon-semicolon.ensures c.args.room).ordered)) (c.optional_semicolon-semicolon.ensures c.args.room).inside

pub blocks::block-returns-in_err-of : goal.blocks::block-returns-in_err-of
blocks::block-returns-in_err-of t c = no_memory grammar table _ block_of _ (part s.Block) _ _ c.from_residual-in_err-of.ensures.1

pub blocks::block-returns : goal.blocks::block-returns
blocks::block-returns t c = stretch_end c.turn.more c.turn-test.false c.turn.invariant.0 _ c.in_ok-of.ensures.same
