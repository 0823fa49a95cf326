use Rattle.chi_plain.proofs.Enabled.{advance-none, advance-some}
use Rattle.chi_plain.proofs.watching.Watched.can_advance.Goals as goal

pub returns-else-not-has_actor : goal.returns-else-not-has_actor
returns-else-not-has_actor c = advance-none c.args.self.now _ c.has_actor.ensures c.if-not-has_actor.false

pub returns-then-not-has_actor : goal.returns-then-not-has_actor
returns-then-not-has_actor c =
    advance-some c.args.self.now _ _ c.has_actor.ensures c.if-not-has_actor.true c.advances.ensures
