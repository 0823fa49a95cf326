use Rattle.std.proofs.Common.{arith, get_or}
use Rattle.chi_explain_labels.proofs.Placing.{rank_last}
use Rattle.chi_explain_labels.proofs.ranks.first_ranked.Goals as goal

pub returns : goal.returns
returns c = rank_last (λ q. get_or c.args.counts.now q 0) c.loop-pid.pid c.args.count _ c.loop-pid.invariant (omega arith) (omega arith)
