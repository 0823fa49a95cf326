-- Plain types: those whose values can be compared, kept in sets and shown.
use Rattle.std.specs.Prelude.{ℕ, Bool, true, false, List, ◌&&◌}
use Rattle.std.specs.List.{list_all}
use Rattle.chi_types.specs.declared.ty.Ty.{Ty, Ty-F, fold-Ty}

-- what stands beside a part's name
abbrev pub holds : List ℕ × Bool → Bool
holds part = part.1

abbrev pub plain_step : Ty-F Bool → Bool
plain_step Ty-F.Bool = true
plain_step Ty-F.Int = true
plain_step Ty-F.Real = true
plain_step Ty-F.Text = true
plain_step (Ty-F.Choice k) = true
plain_step (Ty-F.TupleOf parts) = list_all holds parts
plain_step (Ty-F.ListOf element) = element
plain_step (Ty-F.SetOf element) = element
plain_step (Ty-F.DictOf key value) = key && value
plain_step _ = false

-- bool, int, real, string, enumerations, and containers and tuples of plain types
abbrev pub is_plain : Ty → Bool
is_plain = fold-Ty Bool plain_step
