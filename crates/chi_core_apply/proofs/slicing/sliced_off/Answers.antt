use Rattle.std.proofs.Common.{sym, subst}
use Rattle.std.proofs.lemmas.Result.{err_from_is_err_and}
use Rattle.chi_core_apply.specs.Failures.{IsFailure}
use Rattle.chi_core_apply.proofs.Bounding.{step_bound, slice_is, slice_there}
use Rattle.chi_core_apply.proofs.slicing.sliced_off.Goals as goal

pub next_bound-by-requires : goal.next_bound-by-requires
next_bound-by-requires c =
    step_bound c.args.given.0 c.args.given.1 c.args.given.2 c.args.a c.args.bounds.now c.args.view.now _ _ c.next_bound-first.ensures _ _ c.next_bound-last.ensures c.requires

pub taken_off-requires : goal.taken_off-requires
taken_off-requires c =
    slice_there c.args.given.0 c.args.given.1 c.args.given.2 c.args.a c.args.bounds.now c.args.view.now _ _ c.next_bound-first.ensures _ _ c.next_bound-last.ensures _ _ c.next_bound-by.ensures c.requires

pub returns-in_err-taken_off-clause-fails : goal.returns-in_err-taken_off-clause-fails
returns-in_err-taken_off-clause-fails c =
    let is = slice_is c.args.given.0 c.args.given.1 c.args.given.2 c.args.a c.args.bounds.now c.args.view.now _ _ c.next_bound-first.ensures _ _ c.next_bound-last.ensures _ _ c.next_bound-by.ensures c.requires in
    let p = err_from_is_err_and c.from_residual.result c.from_residual.ensures.1 in
    rw (p.1, p.2) (subst (IsFailure c.in_err-taken_off.field-0.0) (sym is) c.in_err-taken_off.ensures.fails)
