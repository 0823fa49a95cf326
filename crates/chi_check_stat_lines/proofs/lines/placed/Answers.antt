use Rattle.std.proofs.Common.{◌≡◌, [], sym, ◌∙◌, arith}
use Rattle.std.proofs.lemmas.Grind.{common_steps}
use Rattle.chi_check_stat_lines.proofs.Parts.{nothing_placed}
use Rattle.chi_check_stat_lines.proofs.lines.placed.Goals as goal

pub returns : goal.returns
returns c =
    let l = c.loop-value in
    let h : l.value-iterator.rest.items ≡ [] = first_of (grind (arith, common_steps), grind (arith, common_steps, c.in-None.ensures.goes), grind (arith, common_steps, c.in-None.ensures.steps)) in
    let e = nothing_placed l.others.now l.value-iterator.rest.items h in
    grind (arith, common_steps, l.invariant)
