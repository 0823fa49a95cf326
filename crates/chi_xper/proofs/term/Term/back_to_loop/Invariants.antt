use Rattle.std.proofs.Common.{◌≡◌, length}
use Rattle.chi_xper.specs.Items.{from_loop}
use Rattle.chi_xper.proofs.term.Term.back_to_loop.Given as goal

abbrev pub invariant-loop-self : goal.invariant-loop-self
invariant-loop-self l = from_loop l.fn.self ≡ from_loop l.self

abbrev pub decreases-loop-self : goal.decreases-loop-self
decreases-loop-self l = length l.self
