use Rattle.std.proofs.Common.{ℕ, take, arith, length-take}
use Rattle.chi_io.proofs.Consumed.{ConsumesAtMost-append}
use Rattle.chi_io.proofs.disk_shelf.read_within.Goals as goal

pub returns-in-Ok-clause-most : goal.returns-in-Ok-clause-most
returns-in-Ok-clause-most g c =
    ConsumesAtMost-append _ _ _ c.loop-bytes.bytes.items (take c.in-Ok.n c.read.new.buf) _
    c.loop-bytes.invariant.1 c.in-Ok.ensures.bytes.0
    (omega (arith, c.in-Ok.ensures.bound, c.read.auto.buf, length-take {A = ℕ}))

pub returns-then-is_err-clause-most : goal.returns-then-is_err-clause-most
returns-then-is_err-clause-most g c =
    ConsumesAtMost-append _ _ _ c.loop-bytes.bytes.items (take c.in-Ok.n c.read.new.buf) _
    c.loop-bytes.invariant.1 c.in-Ok.ensures.bytes.0 (omega (arith, c.in-Ok.ensures.bound))
