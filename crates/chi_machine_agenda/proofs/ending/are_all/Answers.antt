use Rattle.std.proofs.Common.{◌∙◌, sym}
use Rattle.chi_machine_agenda.proofs.Endings.{all-end, all-fails, all-goes}
use Rattle.chi_machine_agenda.proofs.ending.are_all.Goals as goal

pub loop-ended-preserved : goal.loop-ended-preserved
loop-ended-preserved c = all-goes c.args.finished.now c.loop-ended.ended-index c.loop-ended-test.true c.if-not-ended.false ∙ c.loop-ended.invariant

pub returns-then-not-ended : goal.returns-then-not-ended
returns-then-not-ended c = sym (all-fails c.args.finished.now c.loop-ended.ended-index c.loop-ended-test.true c.if-not-ended.true) ∙ c.loop-ended.invariant

pub returns : goal.returns
returns c = sym (all-end c.args.finished.now c.loop-ended.ended-index c.loop-ended-test.false) ∙ c.loop-ended.invariant
