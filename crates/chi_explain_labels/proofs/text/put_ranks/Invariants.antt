use Rattle.std.proofs.Common.{◌≡◌, ◌++◌, get_or, drop}
use Rattle.chi_explain_labels.specs.LabelsText.{ranks_told}
use Rattle.chi_explain_labels.proofs.text.put_ranks.Given as goal

abbrev pub invariant-loop-pid : goal.invariant-loop-pid
invariant-loop-pid l =
    l.out.items ++ ranks_told l.core l.configuration (λ p. get_or l.counts p 0) (drop l.pid-index l.ranks)
    ≡ l.fn.out.items ++ ranks_told l.core l.configuration (λ p. get_or l.counts p 0) l.ranks
