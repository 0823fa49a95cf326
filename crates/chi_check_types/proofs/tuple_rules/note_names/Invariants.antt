use Rattle.std.proofs.Common.{◌≡◌, ◌&&◌, [], drop}
use Rattle.chi_check_types.specs.Faults.{first_of, are_none}
use Rattle.chi_check_types.specs.TypeRules.{names_rule}
use Rattle.chi_check_types.proofs.FieldNames.{names_in, names_of}
use Rattle.chi_check_types.proofs.tuple_rules.note_names.Given as goal

abbrev pub invariant-loop-field : goal.invariant-loop-field
invariant-loop-field l = record {
  noted : first_of l.fn.kept (names_rule [] (names_of l.fn.fields)) ≡ first_of l.kept (names_rule (names_in l.before) (names_of (drop l.field-index l.fields)));
  holding : are_none (names_rule [] (names_of l.fn.fields)) ≡ (l.holds && are_none (names_rule (names_in l.before) (names_of (drop l.field-index l.fields))));
}
