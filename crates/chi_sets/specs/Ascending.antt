-- Lists that ascend by an order.
use Rattle.std.specs.Prelude.{Bool, true, List, [], ◌∷◌, ◌++◌, ◌&&◌, filter, fold}
use Rattle.std.specs.declared.cmp.Ordering.{Ordering}
use Rattle.std.specs.Ordering.{is_eq, is_lt}

abbrev pub below_by : {A : Type 0} → (A → A → Ordering) → A → A → Bool
below_by by a b = is_lt (by a b)

abbrev pub ties_by : {A : Type 0} → (A → A → Ordering) → A → A → Bool
ties_by by a b = is_eq (by a b)

-- each element is below the next
abbrev pub ascends : {A : Type 0} → (A → A → Ordering) → List A → Bool
ascends by [] = true
ascends by (x ∷ []) = true
ascends by (x ∷ (y ∷ ys)) = below_by by x y && ascends by (y ∷ ys)

-- an element in its place: after all that are below it, before all that it is below, and instead of what ties with it
abbrev pub placed : {A : Type 0} → (A → A → Ordering) → List A → A → List A
placed by xs x = filter (λ y. below_by by y x) xs ++ x ∷ filter (below_by by x) xs

-- the ascending list of elements, of which the later of two that tie stays
abbrev pub in_order : {A : Type 0} → (A → A → Ordering) → List A → List A
in_order by xs = fold (placed by) [] xs
