use Rattle.std.proofs.Common.{rules}
use Rattle.chi_format.proofs.Pieces.{reads_all, reads_bad}
use Rattle.chi_format.proofs.reading.read_format.Goals as goal

pub returns-in_default-clause-refused : goal.returns-in_default-clause-refused
returns-in_default-clause-refused c =
    reads_bad c.args.text.now c.loop-left.left.now c.loop-left.so_far c.loop-left.invariant (search rules) c.in_default.ensures.read

pub returns-clause-means : goal.returns-clause-means
returns-clause-means c =
    reads_all c.args.text.now c.loop-left.left.now c.loop-left.so_far c.in_ok-finish.field-0.items c.loop-left.invariant (search rules) c.in_ok-finish.ensures
