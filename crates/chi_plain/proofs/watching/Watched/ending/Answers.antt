use Rattle.chi_plain.proofs.Enabled.{ending-acts, ending-advances, ending-rests}
use Rattle.chi_plain.proofs.watching.Watched.ending.Goals as goal

pub returns-then-has_actor : goal.returns-then-has_actor
returns-then-has_actor c = ending-acts c.args.self.now _ c.has_actor.ensures c.if-has_actor.true

pub returns-then-advances : goal.returns-then-advances
returns-then-advances c =
    ending-advances c.args.self.now _ _ c.has_actor.ensures c.if-has_actor.false c.advances.ensures c.if-advances.true

pub returns : goal.returns
returns c =
    ending-rests c.args.self.now _ _ c.has_actor.ensures c.if-has_actor.false c.advances.ensures _ c.if-advances.false c.at_rest.ensures
