use Rattle.chi_plain.proofs.Running.{on_costs, on_steps}
use Rattle.chi_plain.proofs.progress.step_at.Goals as goal

pub overflow_sub-result : goal.overflow_sub-result
overflow_sub-result c =
    on_costs c.args.core.now c.args.watched c.args.label.now c.args.left c.args.out.now.items c.take.new.out.items c.in-Ok-On.field-0
    c.in-Ok-On.ensures.taken c.time_law.ensures.costs c.in-Ok-On.watched c.in-Ok-On.rest c.in-Ok-On.field-0-is

pub returns-in-Ok-On-clause-steps : goal.returns-in-Ok-On-clause-steps
returns-in-Ok-On-clause-steps c =
    on_steps c.args.core.now c.args.watched c.args.label.now c.args.left c.args.out.now.items c.take.new.out.items c.in-Ok-On.field-0
    c.in-Ok-On.ensures.taken c.time_law.ensures.costs c.in-Ok-On.watched c.in-Ok-On.rest c.in-Ok-On.field-0-is
