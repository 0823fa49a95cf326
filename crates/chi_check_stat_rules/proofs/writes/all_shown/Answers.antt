use Rattle.std.proofs.Common.{◌≡◌, [], sym, ◌∙◌, arith}
use Rattle.std.proofs.lemmas.Grind.{common_steps}
use Rattle.chi_check_stat_rules.proofs.ShownValues.{shown_end}
use Rattle.chi_check_stat_rules.proofs.writes.all_shown.Goals as goal

pub returns-clause-noted : goal.returns-clause-noted
returns-clause-noted c =
    let h : c.loop-value.value-iterator.rest.items ≡ [] = first_of (grind (arith, common_steps), grind (arith, common_steps, c.in-None.ensures.goes), grind (arith, common_steps, c.in-None.ensures.steps)) in
    sym (c.loop-value.invariant.noted ∙ shown_end c.loop-value.kept c.loop-value.others.now c.loop-value.value-iterator.rest.items h)
