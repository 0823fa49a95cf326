use Rattle.std.proofs.Common.{[], ℕ, inl, inr, ◌∙◌, ap, refl}
use Rattle.std.specs.Prelude.{nat_eq, slice_set}
use Rattle.chi_machine_agenda.proofs.Lists.{on-err}
use Rattle.chi_machine_agenda.proofs.Watching.{watched-none}
use Rattle.chi_machine_agenda.proofs.joining.join.Goals as goal

pub returns-clause-ok : goal.returns-clause-ok
returns-clause-ok c =
    let e = c.in_ok-left.ensures.left in
    record {
      numbers = c.in_ok-set.ensures.ok;
      left = c.leave.ensures ∙ ap (slice_set c.args.joins.now.left.items c.args.pid) e;
      watched = c.watch.ensures.watched;
      sees = c.in_ok-left.ensures.seen;
      ready = c.tell.ensures ∙ ap (λ (n : ℕ). slice_set c.args.ready.now c.args.pid (nat_eq n 0)) e;
    }

pub returns-in_err-set-clause-err : goal.returns-in_err-set-clause-err
returns-in_err-set-clause-err c = on-err c.from_residual.result _ (record {
  row = [];
  either = inr refl;
  numbers = c.in_err-set.ensures.err;
  left = refl;
  watched = watched-none c.args.finished.now.items c.args.joins.now.watchers;
  ready = refl;
})

pub returns-in_err-left-clause-err : goal.returns-in_err-left-clause-err
returns-in_err-left-clause-err c = on-err c.from_residual-in_err-left.result _ (record {
  row = c.args.numbers.now;
  either = inl refl;
  numbers = c.in_ok-set.ensures.ok;
  left = refl;
  watched = c.watch.ensures.watched;
  ready = refl;
})
