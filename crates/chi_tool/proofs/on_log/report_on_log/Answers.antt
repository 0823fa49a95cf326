use Rattle.std.proofs.Common.{subst}
use Rattle.chi_tool.specs.Readings.{AreReadAs}
use Rattle.chi_tool.specs.Report.{unfit, fit}
use Rattle.chi_tool.proofs.Runs.{if_ok}
use Rattle.chi_tool.proofs.on_log.report_on_log.Goals as goal

pub judged-requires-clause-arguments : goal.judged-requires-clause-arguments
judged-requires-clause-arguments c =
    let means = subst (AreReadAs c.args.core.now c.args.asked.now.texts) c.in-Fit.is (rw (c.as_slice.ensures.same) at c.in_ok-refusal.ensures) in means.1

pub returns-in-Unfit : goal.returns-in-Unfit
returns-in-Unfit c =
    let no = subst (AreReadAs c.args.core.now c.args.asked.now.texts) c.in-Unfit.is (rw (c.as_slice.ensures.same) at c.in_ok-refusal.ensures) in unfit no.0 no.1 no.2 no.3

pub returns-in-Fit : goal.returns-in-Fit
returns-in-Fit c =
    let means = subst (AreReadAs c.args.core.now c.args.asked.now.texts) c.in-Fit.is (rw (c.as_slice.ensures.same) at c.in_ok-refusal.ensures) in
    if_ok c.judged.result (λ r of. fit c.in-Fit.arguments.items means.0 of) c.judged.ensures
