use Rattle.chi_dist.proofs.Kept.{kept_after}
use Rattle.chi_dist.proofs.stream.Stream.after.Goals as goal

pub returns-clause-kept : goal.returns-clause-kept
returns-clause-kept c =
    kept_after c.args.seed c.args.number c.args.taken c.state.result c.new-words.result c.advance.new.self c.new-words.ensures
    c.advance.ensures c.state.ensures
