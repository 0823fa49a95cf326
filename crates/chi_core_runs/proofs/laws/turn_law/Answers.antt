use Rattle.chi_core_runs.proofs.Turns.{way-begins, way-on, way-over, way-cut, way-rests}
use Rattle.chi_core_runs.proofs.laws.turn_law.Goals as goal

pub returns : goal.returns
returns c = record { begins = way-begins; on = way-on; over = way-over; cut_off = way-cut; at_rest = way-rests }
