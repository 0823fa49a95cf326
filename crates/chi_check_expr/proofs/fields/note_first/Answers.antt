use Rattle.std.proofs.Common.{[], map, refl, sym, ap, ◌∙◌}
use Rattle.std.proofs.lemmas.List.{nil_from_length}
use Rattle.chi_check_types.specs.Faults.{first_of}
use Rattle.chi_check_types.proofs.Firsts.{first_of_none}
use Rattle.chi_check_expr.specs.TypeTrees.{first_rule, placed_formal}
use Rattle.chi_check_expr.proofs.fields.note_first.Goals as goal

pub returns-in_default : goal.returns-in_default
returns-in_default c =
    sym (ap (λ fs. first_of c.args.kept.now (first_rule (map placed_formal fs))) (nil_from_length c.args.fields.now c.in_default.ensures.cases)
    ∙ first_of_none c.args.kept.now [] refl)
