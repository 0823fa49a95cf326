use Rattle.chi_tool.specs.Serving.{served, refused}
use Rattle.chi_tool.proofs.logs.serve_log.Goals as goal

pub returns-in-Ok : goal.returns-in-Ok
returns-in-Ok g c = served c.in-Ok.text.items c.in-Ok.ensures.content (rw (c.deref.ensures.value, c.in-Ok.ensures.out_stays, c.in-Ok.ensures.log_stays) at c.tell_log.ensures)

pub returns-in-Err : goal.returns-in-Err
returns-in-Err g c = refused c.in-Err.ensures.refusal
