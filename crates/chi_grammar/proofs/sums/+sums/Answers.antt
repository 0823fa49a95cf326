use Rattle.std.proofs.Common.{◌∷◌, [], ◌++◌, ◌||◌, ◌==◌, refl, sym, ◌∙◌}
use Rattle.chi_grammar.specs.declared.room.Nesting.TheVariants.{Expression}
use Rattle.chi_grammar.specs.Rules.{pair, leaf, none, part, many, word, deeper, ◌▸◌}
use Rattle.chi_grammar.specs.RuleRuns as runs
use Rattle.chi_grammar.specs.Reads.{attach}
use Rattle.chi_grammar.specs.Sample.{Sum, Term, Round, sample, sample_table, has_round, plus, digit, open_round}
use Rattle.chi_grammar.proofs.Exits.{read, run_word, run_no_word, run_refused, reads_part, reads_right, reads_deeper, failed}
use Rattle.chi_grammar.proofs.Loops.{along_start, along_more, along_stop, along_fails}
use Rattle.chi_grammar.proofs.SampleLemmas.{has_round-more}
use Rattle.chi_grammar.proofs.sums.+sums.Goals as goal

pub more_terms-turn-init : goal.more_terms-turn-init
more_terms-turn-init t c = ([], along_start sample sample_table c.args.tokens.now c.args.room (word plus ▸ part Term) c.args.at, refl, c.requires.inside)

pub more_terms-returns-in_err-one : goal.more_terms-returns-in_err-one
more_terms-returns-in_err-one t c =
    let l = c.turn.invariant in
    let sign = c.in_ok-after.ensures in
    failed sample sample_table _ has_round _ (many (word plus ▸ part Term)) _ _ _ c.from_residual-in_err-one.ensures.1
    (along_fails sample sample_table _ _ _ _ _ l.0 _ l.1 (sym c.begins.ensures ∙ c.turn-test.true)
    (runs.next_fails (run_word sample sample_table _ sign) c.in_err-one.ensures))

pub more_terms-turn-preserved : goal.more_terms-turn-preserved
more_terms-turn-preserved t c =
    let l = c.turn.invariant in
    let sign = c.in_ok-after.ensures in
    let one = c.in_ok-one.ensures in
    let item = pair (leaf c.in_ok-after.field-0-0) one.tree in (
      l.0 ++ item ∷ [],
      along_more sample sample_table _ _ _ _ _ _ l.0 _ l.1 (sym c.begins.ensures ∙ c.turn-test.true)
          (runs.both (run_word sample sample_table _ sign) one.runs),
      (λ i. l.2 i || sym one.shows i)
          ∙ (λ i. has_round (attach l.0 none) || ((sym sign.of_class i == open_round) || has_round one.tree))
          ∙ has_round-more l.0 item,
      one.inside,
    )

pub more_terms-returns : goal.more_terms-returns
more_terms-returns t c =
    let l = c.turn.invariant in
    read sample sample_table _ has_round c.requires.inside
    (along_stop sample sample_table _ _ _ _ _ l.0 l.1 (sym c.begins.ensures ∙ c.turn-test.false)) (sym l.2)

pub round-returns-in_err-after : goal.round-returns-in_err-after
round-returns-in_err-after t c =
    let no_sign = c.in_err-after.ensures in
    failed sample sample_table _ has_round _ (part Round) _ _ _ c.from_residual.ensures.1
    (runs.part_fails (runs.first_fails (run_no_word sample sample_table _ no_sign)))

pub round-returns-in_err-middle : goal.round-returns-in_err-middle
round-returns-in_err-middle t c =
    let sign = c.in_ok-after.ensures in
    failed sample sample_table _ has_round _ (part Round) _ _ _ c.from_residual-in_err-middle.ensures.1
    (runs.part_fails (runs.next_fails (run_word sample sample_table _ sign) (runs.first_fails c.in_err-middle.ensures)))

pub round-returns-in_err-end : goal.round-returns-in_err-end
round-returns-in_err-end t c =
    let sign = c.in_ok-after.ensures in
    let sum = c.in_ok-middle.ensures in
    let no_sign = c.in_err-end.ensures in
    failed sample sample_table _ has_round _ (part Round) _ _ _ c.from_residual-in_err-end.ensures.1
    (runs.part_fails
    (runs.next_fails (run_word sample sample_table _ sign) (runs.next_fails sum.runs (run_no_word sample sample_table _ no_sign))))

pub round-returns : goal.round-returns
round-returns t c =
    let sign = c.in_ok-after.ensures in
    let sum = c.in_ok-middle.ensures in
    let last = c.in_ok-end.ensures in
    read sample sample_table _ has_round c.requires.inside
    (runs.part
    (runs.both (run_word sample sample_table _ sign)
    (runs.both sum.runs (run_word sample sample_table _ last))))
    (λ i. (sign.of_class i == open_round) || (has_round sum.tree || (c.in_ok-end.field-0-0 == open_round)))

pub sum-returns-in_err-first : goal.sum-returns-in_err-first
sum-returns-in_err-first t c =
    failed sample sample_table _ has_round _ (part Sum) _ _ _ c.from_residual.ensures.1
    (runs.part_fails (runs.first_fails c.in_err-first.ensures))

pub sum-returns-in_err-rest : goal.sum-returns-in_err-rest
sum-returns-in_err-rest t c =
    let first = c.in_ok-first.ensures in
    failed sample sample_table _ has_round _ (part Sum) _ _ _ c.from_residual-in_err-rest.ensures.1
    (runs.part_fails (runs.next_fails first.runs c.in_err-rest.ensures))

pub sum-returns : goal.sum-returns
sum-returns t c =
    let first = c.in_ok-first.ensures in
    let rest = c.in_ok-rest.ensures in
    read sample sample_table _ has_round c.requires.inside
    (runs.part (runs.both first.runs rest.runs)) (λ i. first.shows i || rest.shows i)

pub term-returns-then-begins : goal.term-returns-then-begins
term-returns-then-begins t c =
    let sign = c.in_ok-end.ensures in
    read sample sample_table _ has_round c.requires.inside
    (runs.part (runs.left (sym c.begins.ensures ∙ c.if-begins.true) (run_word sample sample_table _ sign)))
    (λ i. sign.of_class i == open_round)

pub term-returns-in-Some : goal.term-returns-in-Some
term-returns-in-Some t c =
    reads_part sample sample_table _ has_round _ Term _ _
    (reads_right sample sample_table _ has_round _ (word digit) (deeper Expression (part Round)) _ _ (sym c.begins.ensures ∙ c.if-begins.false)
    (reads_deeper sample sample_table _ has_round _ _ Expression (part Round) _ _ c.in-Some.ensures c.round.ensures))

pub term-returns-in-None : goal.term-returns-in-None
term-returns-in-None t c =
    runs.part_fails
    (runs.right (sym c.begins.ensures ∙ c.if-begins.false)
    (run_refused sample sample_table _ _ Expression (part Round) _ _ c.in-None.ensures c.refuse.ensures))
