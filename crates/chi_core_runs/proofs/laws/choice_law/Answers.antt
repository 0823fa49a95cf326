use Rattle.chi_core_runs.proofs.Bounds.{few_actors, few_options}
use Rattle.chi_core_runs.proofs.Choices.{option_picked, advance_picked, actor_has_option}
use Rattle.chi_core_runs.proofs.Picks.{picked-enabled}
use Rattle.chi_core_runs.proofs.laws.choice_law.Goals as goal

pub returns : goal.returns
returns c = record {
  option = option_picked;
  advance = advance_picked;
  may_come = picked-enabled;
  some = actor_has_option;
  few = λ core config kinded. (few_actors core config kinded, few_options core config kinded);
}
