use Rattle.std.proofs.Common.{length}
use Rattle.chi_value_tests.proofs.pieces.+may_render.Given as goal

abbrev pub decreases-may_render : goal.decreases-may_render
decreases-may_render l = length l.pieces.now
