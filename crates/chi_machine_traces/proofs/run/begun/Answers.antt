use Rattle.std.proofs.Common.{ℤ, Option, subst}
use Rattle.std.specs.Prelude.{IfOk}
use Rattle.chi_machine_told.specs.Below.chi_machine.specs.Calls.{StartsSo}
use Rattle.chi_machine_traces.proofs.run.begun.Goals as goal

pub returns : goal.returns
returns g c =
    let terms = c.args.terms.now in
    subst (λ (until : Option ℤ). IfOk c.begin.result (StartsSo c.args.code.now c.args.arguments.items terms.seed until terms.bound)) c.units_of_until-until.ensures c.begin.ensures
