use Rattle.std.proofs.Common.{◌≡◌, sym, ◌∙◌, arith}
use Rattle.std.proofs.lemmas.Grind.{common_steps}
use Rattle.chi_check_stat_lines.specs.Values.{target_in}
use Rattle.chi_check_stat_lines.proofs.Parts.{each_made, each_noted, each_gone}
use Rattle.chi_check_stat_lines.proofs.values.targets_in.Goals as goal

pub loop-target-preserved : goal.loop-target-preserved
loop-target-preserved c =
    let l = c.loop-target in
    let x = c.target-item.result in
    let r = c.in_ok-made.ensures in
    record {
      made = each_made (target_in c.args.home.now c.args.scope.now) c.args.targets.now _ l.all.items _ l.target-index x _ l.invariant.made c.loop-target-test.true c.target-item.is r.made c.in_ok-push.ensures.items;
      noted = each_noted (target_in c.args.home.now c.args.scope.now) c.args.targets.now _ l.kept _ l.target-index x l.invariant.noted c.loop-target-test.true c.target-item.is r.noted;
    }

pub returns-clause-noted : goal.returns-clause-noted
returns-clause-noted c =
    let l = c.loop-target in
    let e = each_gone (target_in c.args.home.now c.args.scope.now) c.args.targets.now _ l.kept l.target-index l.invariant.noted (omega arith) in
    grind (arith, common_steps)
