use Rattle.chi_xper.proofs.Tasks.{walk_put}
use Rattle.chi_xper.proofs.term.Term.put_walk.Goals as goal

pub returns : goal.returns
returns c = walk_put _ c.push.new.self.items c.args.self.now c.args.line c.args.slots c.args.elements c.args.block c.self.view_is c.in_ok-push.ensures.items
