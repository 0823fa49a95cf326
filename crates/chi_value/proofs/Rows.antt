-- Comparisons of lists that are gone through by their places.
use Rattle.std.proofs.Common.{◌≡◌, refl, ◌<◌, List, [], ◌∷◌, map, length, drop, arith}
use Rattle.std.specs.Cmp.Lexicographic.{slice_cmp}
use Rattle.std.specs.declared.cmp.Ordering.TheVariants.{Less}
use Rattle.chi_value.specs.declared.value.Value.{Value}
use Rattle.chi_value.specs.Order.{order, against}

-- a list that ends first comes before what goes on
pub ends_first : (xs ys : List Value) → length xs < length ys → slice_cmp against (map order (drop (length xs) xs)) (drop (length xs) ys) ≡ Less
ends_first [] [] less = absurd (omega (arith, less))
ends_first [] (y ∷ ys) less = refl
ends_first (x ∷ xs) [] less = absurd (omega (arith, less))
ends_first (x ∷ xs) (y ∷ ys) less = ends_first xs ys (omega (arith, less))
