use Rattle.std.proofs.Common.{◌≡◌, [], ◌∷◌}
use Rattle.chi_check_types.specs.declared.rules.TheConstants.{JOINED_PARTS}
use Rattle.chi_check_types.specs.Faults.{fault}
use Rattle.chi_check_types.proofs.Firsts.{first_of_append}
use Rattle.chi_check_expr_rules.specs.Containers.{values_rule}
use Rattle.chi_check_expr_parts.proofs.Unjoined.{unjoined_faults}
use Rattle.chi_check_expr_parts.proofs.dictionaries.dict_joined.Goals as goal

-- what is amiss with the keys, and then with the values
pub returns-in-None-clause-noted : goal.returns-in-None-clause-noted
returns-in-None-clause-noted c =
    let e = unjoined_faults c.args.place c.args.keys c.args.values c.args.key c.args.value c.in-None.is in
    let a = first_of_append c.args.kept.now (fault JOINED_PARTS c.args.place ∷ []) (values_rule c.args.place c.args.value) in
    cc (e, a, c.note.ensures, c.note_values.ensures)
