use Rattle.std.proofs.Common.{length}
use Rattle.chi_picks.proofs.Lists.{Reads}
use Rattle.chi_picks.proofs.read.read_picks.Given as goal

abbrev pub invariant-line : goal.invariant-line
invariant-line l = Reads l.text l.picks.items l.rest

abbrev pub decreases-line : goal.decreases-line
decreases-line l = length l.rest
