use Rattle.std.proofs.Common.{ℕ, List, ap}
use Rattle.chi_tool.specs.Refusals.{Report}
use Rattle.chi_tool.specs.Report.{up}
use Rattle.chi_tool.proofs.Readings.{misfit_refused}
use Rattle.chi_tool.proofs.logs.report_of_log.Goals as goal

pub returns-in-Ok : goal.returns-in-Ok
returns-in-Ok c =
    let with_log : List ℕ → Report = λ log. record { status = 0; out = c.in-Ok.up.items; log = log } in
    up c.in-Ok.up.items c.in-Ok.ensures (ap with_log c.new.ensures.items)

pub returns-in-Err-Form : goal.returns-in-Err-Form
returns-in-Err-Form c = misfit_refused c.args.text.now c.in-Err-Form.field-0 c.in-Err-Form.number c.misfit.result c.in-Err-Form.field-0-is c.in-Err-Form.ensures c.misfit.ensures
