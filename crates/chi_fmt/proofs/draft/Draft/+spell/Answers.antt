use Rattle.std.proofs.lemmas.Result.{on_ok_weaker}
use Rattle.chi_fmt.proofs.SlicePut.{slice_put}
use Rattle.chi_fmt.proofs.draft.Draft.+spell.Goals as goal

pub postfix-returns-in_ok-by_step-in-Slice : goal.postfix-returns-in_ok-by_step-in-Slice
postfix-returns-in_ok-by_step-in-Slice t c =
    on_ok_weaker c.sign-in-Slice-3.result
    (slice_put c.args.postfix.now _ _ _ _ _ _ _ _ _ _ _ _ c.in-Slice.is c.in_ok-sign-in-Slice.ensures c.in_ok-expr_if-in-Slice.ensures
    c.in_ok-sign-in-Slice-2.ensures c.in_ok-expr_if-in-Slice-2.ensures c.in_ok-by_step-in-Slice.ensures)
    c.sign-in-Slice-3.ensures
