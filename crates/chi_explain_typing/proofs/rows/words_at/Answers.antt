use Rattle.std.proofs.Common.{sym, ◌∙◌, eq-eqb, arith}
use Rattle.std.proofs.lemmas.Bool.{ne_eqb}
use Rattle.std.proofs.lemmas.List.{at_drop_all}
use Rattle.chi_explain_typing.specs.Rules.{words_at}
use Rattle.chi_explain_typing.proofs.RowLemmas.{words_from, words_from-found, words_from-passed}
use Rattle.chi_explain_typing.proofs.rows.words_at.Goals as goal

pub returns-then-row-number : goal.returns-then-row-number
returns-then-row-number c =
    sym (words_from-found c.args.number c.args.rows.now c.loop-row.row-index _ c.loop-row-test.true (eq-eqb _ _ c.if-row-number.true))
    ∙ c.loop-row.invariant

pub loop-row-preserved : goal.loop-row-preserved
loop-row-preserved c =
    sym (words_from-passed c.args.number c.args.rows.now c.loop-row.row-index _ c.loop-row-test.true (ne_eqb _ _ c.if-row-number.false))
    ∙ c.loop-row.invariant

pub returns : goal.returns
unfolding words_at
returns c =
    sym (at_drop_all (λ rows. words_from c.args.number rows) c.args.rows.now c.loop-row.row-index (omega arith))
    ∙ c.loop-row.invariant
