use Rattle.std.proofs.Common.{List, ℕ, length, ap, sym, subst}
use Rattle.chi_plain.proofs.Mending.{RightBut, right-new}
use Rattle.chi_plain.proofs.watching.watch.Goals as goal

pub renew_all-requires-clause-right : goal.renew_all-requires-clause-right
renew_all-requires-clause-right c =
    subst (λ (l : List ℕ). RightBut c.args.configuration c.reserve.new.self l) (sym c.as_slice.ensures.value)
    (right-new c.args.configuration c.new-marks.result c.reserve.new.self c.in_ok-all.all.items (length c.instances-count.result.now)
    (ap length c.instances-count.ensures.instances) c.in_ok-all.ensures c.new-marks.ensures c.reserve.ensures.kept)
