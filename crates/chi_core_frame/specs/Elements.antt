-- The elements of a container, and what is left of them. Private to proofs.
use Rattle.std.specs.Prelude.{ℕ, List, drop}
use Rattle.chi_value.specs.declared.value.Value.{Value}
use Rattle.chi_core_frame.specs.declared.elements.Held.{Held}
use Rattle.chi_core_frame.specs.declared.elements.Held.TheVariants as held

abbrev pub held_by : Held → List Value
held_by (held.List items) = items
held_by (held.Sorted items) = items

-- what is left once so many were taken
abbrev pub left : Held → ℕ → List Value
left h taken = drop taken (held_by h)
