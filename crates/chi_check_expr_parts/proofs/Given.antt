-- Private to proofs. The bounds of a slice that are given, one by one.
use Rattle.std.proofs.Common.{◌≡◌, [], ◌++◌, Option, Some, None, refl}
use Rattle.chi_check_types.specs.declared.meant.Made.{Made}
use Rattle.chi_check_expr_rules.specs.Parts.{if_given, given}

pub one_by_one : (from upto by : Option (Option Made)) → (([] ++ if_given from []) ++ if_given upto []) ++ if_given by [] ≡ given (record { from = from; upto = upto; by = by })
one_by_one None None None = refl
one_by_one None None (Some b) = refl
one_by_one None (Some u) None = refl
one_by_one None (Some u) (Some b) = refl
one_by_one (Some f) None None = refl
one_by_one (Some f) None (Some b) = refl
one_by_one (Some f) (Some u) None = refl
one_by_one (Some f) (Some u) (Some b) = refl
