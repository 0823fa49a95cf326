use Rattle.std.proofs.Common.{◌+◌, ℕ, List, Bool, get_or, drop, sym, ◌∙◌, ap, subst, arith}
use Rattle.chi_machine_agenda.specs.Joined.{lowered, freed, freed_by, AreLeft, AreRoomy}
use Rattle.chi_machine_agenda.proofs.Watching.{lowered-less, roomy-more, lowered-step, freed-step, lowered-end, freed-end}
use Rattle.chi_machine_agenda.proofs.joining.pass_all.Goals as goal

pub loop-pid-preserved : goal.loop-pid-preserved
loop-pid-preserved c =
    let ended = c.args.finished.now.items in
    let numbers = c.args.numbers.now in
    let ws = c.args.pids.now in
    let i = c.loop-pid.pid-index in
    let w = get_or ws i 0 in
    let left = c.loop-pid.left.items in
    let marks = c.loop-pid.ready in
    let inv = c.loop-pid.invariant in
    let h = c.loop-pid-test.true in
    let e = c.pass.ensures.left in
    let f = c.pass.ensures.ready in
    record {
      left = ap (lowered ended numbers (drop (i + 1) ws)) e ∙ sym (lowered-step ended numbers ws i left h) ∙ inv.left;
      ready = (λ j. freed ended numbers (drop (i + 1) ws) (e j) (f j)) ∙ sym (freed-step ended numbers ws i left marks h) ∙ inv.ready;
      within = subst (λ (l : List ℕ). AreLeft numbers l) (sym e) (λ p. let n = lowered-less ended numbers left w p in let m = inv.within p in omega (arith, n, m));
      room = subst (λ (m : List Bool). AreRoomy c.pass.new.left.items m) (sym f) (subst (λ (l : List ℕ). AreRoomy l (freed_by ended numbers w left marks)) (sym e) (roomy-more ended numbers left w marks inv.room));
    }

pub returns-clause-left : goal.returns-clause-left
returns-clause-left c =
    sym (lowered-end c.args.finished.now.items c.args.numbers.now c.args.pids.now c.loop-pid.pid-index c.loop-pid.left.items c.loop-pid-test.false) ∙ c.loop-pid.invariant.left

pub returns-clause-ready : goal.returns-clause-ready
returns-clause-ready c =
    sym (freed-end c.args.finished.now.items c.args.numbers.now c.args.pids.now c.loop-pid.pid-index c.loop-pid.left.items c.loop-pid.ready c.loop-pid-test.false) ∙ c.loop-pid.invariant.ready
