use Rattle.chi_base.proofs.Parts.{one_gone}
use Rattle.chi_base.proofs.row.Row.behead.Goals as goal

pub loop-turn-preserved : goal.loop-turn-preserved
loop-turn-preserved g c = one_gone c.args.self.now c.loop-turn.self c.take_first.new.self c.loop-turn._turn c.in_ok-take_first.field-0 c.loop-turn.invariant c.in_ok-take_first.ensures.taken
