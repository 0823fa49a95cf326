use Rattle.std.proofs.Common.{take, map, ◌≡◌}
use Rattle.chi_code.specs.Aims.{aim_of}
use Rattle.chi_gen_parts.proofs.targets.aims.Given as goal

abbrev pub invariant-loop-target : goal.invariant-loop-target
invariant-loop-target l = l.done.items ≡ map aim_of (take l.target-index l.targets)
