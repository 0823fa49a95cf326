use Rattle.std.proofs.Common.{◌≡◌, sym, ◌∙◌, arith}
use Rattle.std.proofs.lemmas.Grind.{common_steps}
use Rattle.chi_check_stat_lines.specs.Values.{value_in}
use Rattle.chi_check_stat_lines.proofs.Parts.{each_made, each_noted, each_gone}
use Rattle.chi_check_stat_lines.proofs.values.values_in.Goals as goal

pub loop-e-preserved : goal.loop-e-preserved
loop-e-preserved c =
    let l = c.loop-e in
    let x = c.e-item.result in
    let r = c.in_ok-made.ensures in
    record {
      made = each_made (value_in c.args.home.now c.args.scope.now) c.args.es.now _ l.all.items _ l.e-index x _ l.invariant.made c.loop-e-test.true c.e-item.is r.made c.in_ok-push.ensures.items;
      noted = each_noted (value_in c.args.home.now c.args.scope.now) c.args.es.now _ l.kept _ l.e-index x l.invariant.noted c.loop-e-test.true c.e-item.is r.noted;
    }

pub returns-clause-noted : goal.returns-clause-noted
returns-clause-noted c =
    let l = c.loop-e in
    let e = each_gone (value_in c.args.home.now c.args.scope.now) c.args.es.now _ l.kept l.e-index l.invariant.noted (omega arith) in
    grind (arith, common_steps)
