use Rattle.std.proofs.Common.{subst}
use Rattle.chi_tool.specs.Readings.{AreFittedAs}
use Rattle.chi_tool.proofs.arguments.arguments_of.Goals as goal

pub returns-in_ok-refusal-in-Unfit : goal.returns-in_ok-refusal-in-Unfit
returns-in_ok-refusal-in-Unfit c =
    let misfits = subst (AreFittedAs c.args.core.now c.args.texts.now) c.in-Unfit.is c.in_ok-misfit.ensures in
    (c.in-Unfit.misfit.wanted, c.in-Unfit.misfit.fault, misfits, c.in_ok-refusal-in-Unfit.ensures)

pub returns-in-Fit : goal.returns-in-Fit
returns-in-Fit c = subst (AreFittedAs c.args.core.now c.args.texts.now) c.in-Fit.is c.in_ok-misfit.ensures
