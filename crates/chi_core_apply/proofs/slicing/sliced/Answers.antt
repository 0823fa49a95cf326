use Rattle.chi_core_apply.proofs.Bounding.{step_bound}
use Rattle.chi_core_apply.proofs.slicing.sliced.Goals as goal

pub next_bound-by-requires : goal.next_bound-by-requires
next_bound-by-requires c =
    step_bound c.args.given.0 c.args.given.1 c.args.given.2 c.args.a.now c.args.bounds.now c.args.view.now _ _ c.next_bound-first.ensures _ _ c.next_bound-last.ensures c.requires
