use Rattle.std.proofs.lemmas.Result.{err_from_is_err_and}
use Rattle.chi_value.proofs.Growth.{past_all}
use Rattle.chi_value.proofs.defaults.+make_default.Goals as goal

pub make_tuple-returns-in_err-value-clause-refused : goal.make_tuple-returns-in_err-value-clause-refused
make_tuple-returns-in_err-value-clause-refused t c =
    let p = err_from_is_err_and c.from_residual.result c.from_residual.ensures.1 in
    rw (p.1, p.2)
    (past_all _ _ _ _ _ _ _ c.loop-part.invariant.rest c.loop-part-test.true c.part-item.is c.in_err-value.ensures.refused)
