use Rattle.chi_tool.specs.Serving.{served, refused}
use Rattle.chi_tool.proofs.serve.serve.Goals as goal

pub returns-in-Ok : goal.returns-in-Ok
returns-in-Ok g c =
    served c.in-Ok.source.items (rw (c.as_slice-name.ensures.same) at c.in-Ok.ensures.content) (rw (c.deref.ensures.value, c.in-Ok.ensures.out_stays, c.in-Ok.ensures.log_stays) at c.tell.ensures)

pub returns-in-Err : goal.returns-in-Err
returns-in-Err g c = refused (rw (c.as_slice-name.ensures.same) at c.in-Err.ensures.refusal)
