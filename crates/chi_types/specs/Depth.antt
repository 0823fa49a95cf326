-- How deep a type is.
use Rattle.std.specs.Prelude.{ℕ, ◌+◌, max, List, [], ◌∷◌}
use Rattle.chi_types.specs.declared.ty.Ty.{Ty, Ty-F, fold-Ty}

-- the greatest of the parts' depths
abbrev pub deepest : List (List ℕ × ℕ) → ℕ
deepest [] = 0
deepest (part ∷ parts) = max part.1 (deepest parts)

abbrev pub depth_step : Ty-F ℕ → ℕ
depth_step (Ty-F.TupleOf parts) = 1 + deepest parts
depth_step (Ty-F.ListOf element) = 1 + element
depth_step (Ty-F.SetOf element) = 1 + element
depth_step (Ty-F.DictOf key value) = 1 + max key value
depth_step (Ty-F.Chan way element) = 1 + element
depth_step (Ty-F.Dist element) = 1 + element
depth_step _ = 1

-- 1 more than the greatest depth of the parts
abbrev pub depth : Ty → ℕ
depth = fold-Ty ℕ depth_step
