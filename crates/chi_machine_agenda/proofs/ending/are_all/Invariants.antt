use Rattle.std.proofs.Common.{◌≡◌, drop}
use Rattle.std.specs.List.{list_all}
use Rattle.chi_machine_agenda.proofs.ending.are_all.Given as goal

abbrev pub invariant-loop-ended : goal.invariant-loop-ended
invariant-loop-ended l = list_all (λ b. b) (drop l.ended-index l.finished) ≡ list_all (λ b. b) l.finished
