use Rattle.chi_tool.proofs.Runs.{arguments_fit}
use Rattle.chi_tool.proofs.arguments.fitting_for.Goals as goal

pub returns-in-Ok : goal.returns-in-Ok
returns-in-Ok c =
    let read = rw (c.as_slice-params.ensures.same) at c.in-Ok.ensures.values in (
      record { model = c.args.model.now; is = c.requires.model; read = read },
      arguments_fit c.args.core.now c.args.texts.now c.args.model.now c.requires.model c.values_are_of_parameters.ensures c.in-Ok.arguments.items read,
    )
