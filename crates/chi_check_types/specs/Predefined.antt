-- The predefined names, by the one table of them.
use Rattle.std.specs.Prelude.{ℕ, Bool, List, Option, map, is_some}
use Rattle.chi_check_types.specs.declared.predefined.Predefined.{Predefined}
use Rattle.chi_check_types.specs.declared.predefined.TheConstants.{PREDEFINED}
use Rattle.chi_check_types.specs.Names.{looked_up}

-- what a name stands for: that of the table's row with this name
unfoldable pub predefined_of : List ℕ → Option Predefined
predefined_of name = looked_up (map (λ row. (row.0.now, row.1)) PREDEFINED) name

abbrev pub is_predefined : List ℕ → Bool
is_predefined name = is_some (predefined_of name)
