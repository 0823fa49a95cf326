use Rattle.chi_tool.specs.Serving.{told}
use Rattle.chi_tool.specs.Refusals.{Report}
use Rattle.chi_tool.proofs.help.serve_help.Goals as goal

pub returns-in-Ok : goal.returns-in-Ok
returns-in-Ok g c =
    let report : Report = record { status = c.in-Ok.report.status; out = c.in-Ok.report.out.items; log = c.in-Ok.report.log.items } in
    told report c.in-Ok.ensures (rw (c.deref.ensures.value, c.deref-in-Ok.ensures.value) at c.deliver.ensures)
