use Rattle.chi_trace.proofs.LogLaws.{ComesTo}
use Rattle.std.proofs.Common.{length}
use Rattle.chi_trace.proofs.log.log_up.Given as goal

abbrev pub invariant-line : goal.invariant-line
invariant-line l = ComesTo l.text l.up.items l.rest l.number

abbrev pub decreases-line : goal.decreases-line
decreases-line l = length l.rest
