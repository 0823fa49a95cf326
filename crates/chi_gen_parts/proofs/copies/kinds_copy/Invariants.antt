use Rattle.std.proofs.Common.{take, ◌≡◌}
use Rattle.chi_gen_parts.proofs.copies.kinds_copy.Given as goal

abbrev pub invariant-loop-kind : goal.invariant-loop-kind
invariant-loop-kind l = l.copies.items ≡ take l.kind-index l.kinds
