use Rattle.std.proofs.Common.{◌≡◌, ◌++◌, map, drop}
use Rattle.chi_core.specs.Kinds.{nameless_parts}
use Rattle.chi_check_expr_parts.proofs.containers.part_types.Given as goal

abbrev pub invariant-loop-part : goal.invariant-loop-part
invariant-loop-part l =
    nameless_parts (map (λ m. m.ty) l.fn.parts) ≡ l.types.items ++ nameless_parts (map (λ m. m.ty) (drop l.part-index l.parts))
