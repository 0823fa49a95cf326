use Rattle.std.proofs.Common.{take, ◌≡◌}
use Rattle.chi_gen_parts.proofs.copies.kind_names_copy.Given as goal

abbrev pub invariant-loop-name : goal.invariant-loop-name
invariant-loop-name l = l.copies.items ≡ take l.name-index l.names
