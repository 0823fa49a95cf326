use Rattle.std.proofs.Common.{◌≡◌, ◌+◌, drop}
use Rattle.chi_machine_laws.specs.Deeds.{shown_in}
use Rattle.chi_machine_runs.proofs.speaking.shown_in.Given as goal

abbrev pub invariant-loop-piece : goal.invariant-loop-piece
invariant-loop-piece l = l.count + shown_in (drop l.piece-index l.pieces) ≡ shown_in l.pieces
