use Rattle.std.proofs.Common.{◌≡◌, true, false, bytes_eq, sym, ap, ◌∙◌, arith}
use Rattle.std.proofs.lemmas.List.{at_drop_all}
use Rattle.chi_token.specs.Tables.{value_at}
use Rattle.chi_token.proofs.Rows.{value_from, value_from-found, value_from-passed}
use Rattle.chi_token.proofs.table.value_of.Goals as goal

pub returns-then-eq : goal.returns-then-eq
returns-then-eq g c =
    let row = c.row-item.result in
    let same : bytes_eq c.args.text.now row.0.now ≡ true =
    ap (λ word. bytes_eq c.args.text.now word) (sym c.as_bytes.ensures.value) ∙ sym c.eq.ensures ∙ c.if-eq.true in
    sym (value_from-found c.args.text.now c.args.rows.now c.loop-row.row-index row c.loop-row-test.true c.row-item.is same)
    ∙ c.loop-row.invariant

pub loop-row-preserved : goal.loop-row-preserved
loop-row-preserved g c =
    let row = c.row-item.result in
    let other : bytes_eq c.args.text.now row.0.now ≡ false =
    ap (λ word. bytes_eq c.args.text.now word) (sym c.as_bytes.ensures.value) ∙ sym c.eq.ensures ∙ c.if-eq.false in
    sym (value_from-passed c.args.text.now c.args.rows.now c.loop-row.row-index row c.loop-row-test.true c.row-item.is other)
    ∙ c.loop-row.invariant

pub returns : goal.returns
unfolding value_at
returns g c =
    sym (at_drop_all (λ rows. value_from c.args.text.now rows) c.args.rows.now c.loop-row.row-index (omega arith))
    ∙ c.loop-row.invariant
