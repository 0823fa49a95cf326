use Rattle.std.proofs.Common.{◌-◌, get_or, sym, ◌∙◌, refl, arith}
use Rattle.chi_machine_agenda.proofs.Watching.{still-back, still-here, still-none}
use Rattle.chi_machine_agenda.proofs.joining.still.Goals as goal

pub loop-left-preserved : goal.loop-left-preserved
loop-left-preserved c =
    let left = c.loop-left.left in
    let w = c.loop-left.invariant.within in
    record {
      same = still-back c.args.finished.now.items c.args.numbers.now left (get_or c.args.numbers.now (left - 1) 0) c.loop-left-test.true
          (sym c.has_ended.ensures ∙ c.if-not-has_ended.false) refl ∙ c.loop-left.invariant.same;
      within = omega (arith, w);
    }

pub returns-then-not-has_ended : goal.returns-then-not-has_ended
returns-then-not-has_ended c =
    let left = c.loop-left.left in
    still-here c.args.finished.now.items c.args.numbers.now left (get_or c.args.numbers.now (left - 1) 0) c.loop-left-test.true
    (sym c.has_ended.ensures ∙ c.if-not-has_ended.true) refl ∙ c.loop-left.invariant.same

pub returns : goal.returns
returns c = sym (still-none c.args.finished.now.items c.args.numbers.now c.loop-left.left c.loop-left-test.false) ∙ c.loop-left.invariant.same
