use Rattle.chi_gen_parts.proofs.AddedTargets.{add_number}
use Rattle.chi_gen_parts.proofs.targets.step_index.Goals as goal

pub returns-in-Part : goal.returns-in-Part
returns-in-Part c = add_number c.args.step.now c.in-Part.field-0 c.args.code.now.items c.in-Part.is
