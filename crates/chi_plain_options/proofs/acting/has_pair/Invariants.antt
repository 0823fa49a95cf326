use Rattle.chi_plain_options.proofs.Havings.{NonePairs}
use Rattle.chi_plain_options.proofs.acting.has_pair.Given as goal

abbrev pub invariant-loop-other : goal.invariant-loop-other
invariant-loop-other l = NonePairs l.fn.config l.fn.pid l.fn.channel l.other-items l.other-index
