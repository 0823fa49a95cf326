use Rattle.std.proofs.Common.{◌≡◌, ◌≢◌, None, drop}
use Rattle.std.specs.Prelude.{reverse}
use Rattle.chi_core_frame.specs.Bindings.{bound_parts}
use Rattle.chi_core_frame.proofs.variables.Variables.bind_parts.Given as goal

abbrev pub invariant-loop-slot : goal.invariant-loop-slot
invariant-loop-slot l =
    (bound_parts (drop l.slot-index l.slots) (reverse l.left.items) l.self ≢ None)
    × (bound_parts l.slots l.fn.parts.items l.fn.self ≡ bound_parts (drop l.slot-index l.slots) (reverse l.left.items) l.self)
