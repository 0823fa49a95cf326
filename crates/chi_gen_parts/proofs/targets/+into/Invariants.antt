use Rattle.std.proofs.Common.{length, ◌+◌, ◌*◌}
use Rattle.chi_gen_parts.proofs.targets.+into.Given as goal

abbrev pub decreases-into : goal.decreases-into
decreases-into l = 2 * length l.steps.now

abbrev pub decreases-into_index : goal.decreases-into_index
decreases-into_index l = 2 * length l.steps.now + 1

abbrev pub decreases-into_part : goal.decreases-into_part
decreases-into_part l = 2 * length l.steps.now + 1
