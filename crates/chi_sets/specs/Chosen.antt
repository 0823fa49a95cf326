-- The elements of one list that another has, or hasn't. Private to proofs.
use Rattle.std.specs.Prelude.{Bool, true, false, List, filter, not}
use Rattle.std.specs.List.{list_any}
use Rattle.std.specs.declared.cmp.Ordering.{Ordering}
use Rattle.chi_sets.specs.Ascending.{ties_by}

abbrev pub wanted : Bool → Bool → Bool
wanted true is_there = is_there
wanted false is_there = not is_there

-- those that the second list has, or those that it hasn't
abbrev pub chosen : {A : Type 0} → (A → A → Ordering) → Bool → List A → List A → List A
chosen by common xs ys = filter (λ x. wanted common (list_any (ties_by by x) ys)) xs
