use Rattle.std.proofs.Common.{◌≡◌, get_or}
use Rattle.chi_explain_labels.specs.Labels.{first_ranked}
use Rattle.chi_explain_labels.proofs.ranks.first_ranked.Given as goal

abbrev pub invariant-loop-pid : goal.invariant-loop-pid
invariant-loop-pid l = l.ranks.items ≡ first_ranked (λ q. get_or l.fn.counts q 0) l.pid
