-- What a tree comes to without its places: each broken rule is nowhere.
use Rattle.std.specs.Prelude.{List, map}
use Rattle.chi_tree.specs.View.{nowhere}
use Rattle.chi_check_types.specs.declared.fault.Fault.{Fault}
use Rattle.chi_check_types.specs.Faults.{fault}
use Rattle.chi_check_types.specs.Typed.{Typed}

abbrev pub unplaced_fault : Fault → Fault
unplaced_fault f = fault f.rule nowhere

abbrev pub unplaced_faults : List Fault → List Fault
unplaced_faults = map unplaced_fault

abbrev pub unplaced_typed : {A : Type 0} → Typed A → Typed A
unplaced_typed t = record { faults = unplaced_faults t.faults; made = t.made }
