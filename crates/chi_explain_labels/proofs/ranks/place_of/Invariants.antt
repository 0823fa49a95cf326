use Rattle.std.proofs.Common.{◌≡◌, ◌++◌, get_or, take, drop}
use Rattle.chi_explain_labels.specs.Labels.{placed}
use Rattle.chi_explain_labels.proofs.ranks.place_of.Given as goal

abbrev pub invariant-loop-place : goal.invariant-loop-place
invariant-loop-place l =
    take l.place l.ranks ++ placed (λ q. get_or l.counts q 0) l.pid (drop l.place l.ranks) ≡ placed (λ q. get_or l.counts q 0) l.pid l.ranks
