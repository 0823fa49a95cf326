use Rattle.std.proofs.Common.{refl}
use Rattle.chi_tool.proofs.laws.limits_law.Goals as goal

pub returns : goal.returns
returns c = record {
  of_a_run = c.limits_law.ensures.limits;
  of_instances = c.waiting_law.ensures.limits;
  source = refl;
  blocks = refl;
  expressions = refl;
  types = refl;
  steps = refl;
  most_steps = refl;
  shown = refl;
  log = refl;
  beside = refl;
  machines = refl;
  line_shown = refl;
  line_before = refl;
  explained = refl;
}
