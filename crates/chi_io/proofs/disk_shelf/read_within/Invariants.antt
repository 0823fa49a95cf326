use Rattle.std.proofs.Common.{◌≤◌, ◌-◌, vec_len}
use Rattle.std.specs.Io.KnownBytes.{Consumes}
use Rattle.chi_io.proofs.disk_shelf.read_within.Given as goal

-- the bytes so far are within the limit, and are what was consumed
abbrev pub invariant-loop-bytes : goal.invariant-loop-bytes
invariant-loop-bytes g l =
    (vec_len l.bytes ≤ l.limit)
    × Consumes (g.F.Read.remaining l.initial.file) (g.F.Read.remaining l.file) l.bytes.items

abbrev pub decreases-loop-bytes : goal.decreases-loop-bytes
decreases-loop-bytes g l = l.limit - vec_len l.bytes
