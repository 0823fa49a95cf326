use Rattle.std.proofs.Common.{arith, get_or}
use Rattle.std.specs.List.{slice_get}
use Rattle.chi_explain_labels.specs.LabelsText.{rank_told}
use Rattle.chi_explain_labels.proofs.Telling.{ranks-more}
use Rattle.chi_explain_labels.proofs.text.put_ranks.Goals as goal

pub loop-pid-preserved : goal.loop-pid-preserved
loop-pid-preserved c =
    ranks-more (λ p n. rank_told c.args.core.now p n (slice_get c.args.configuration.now.instances p)) (λ p. get_or c.args.counts.now p 0) c.args.ranks.now
    c.loop-pid.pid-index _ c.loop-pid.out.items _ _ c.loop-pid.invariant (omega arith) c.in_ok-put_rank.ensures c.count_of-count.ensures
