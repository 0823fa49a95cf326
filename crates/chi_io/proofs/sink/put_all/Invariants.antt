use Rattle.std.proofs.Common.{length}
use Rattle.chi_io.proofs.Passed.{Putting}
use Rattle.chi_io.proofs.sink.put_all.Given as goal

abbrev pub invariant-loop-rest : goal.invariant-loop-rest
invariant-loop-rest g l = Putting g.S.Sink.taken g.S.Sink.faults g.S.Sink.stopped l.initial.sink l.sink l.bytes l.rest

abbrev pub decreases-loop-rest : goal.decreases-loop-rest
decreases-loop-rest g l = length l.rest
