use Rattle.std.proofs.Common.{refl}
use Rattle.chi_tool.specs.Serving.{first, no_first}
use Rattle.chi_tool.proofs.TwoFiles.{beside_later}
use Rattle.chi_tool.proofs.pairs.serve_pair.Goals as goal

pub returns-in-Ok : goal.returns-in-Ok
returns-in-Ok g c =
    first c.in-Ok.source.items (rw (c.as_slice-name.ensures.same) at c.in-Ok.ensures.content)
    (beside_later c.args.pair.now c.in-Ok.source.items _ _ _ _ _ c.fetched.ensures.same c.fetched.ensures.count refl
    (rw (c.deref.ensures.value, c.in-Ok.ensures.out_stays, c.in-Ok.ensures.log_stays) at c.serve_beside.ensures))

pub returns-in-Err : goal.returns-in-Err
returns-in-Err g c = no_first (rw (c.as_slice-name.ensures.same) at c.in-Err.ensures.refusal)
