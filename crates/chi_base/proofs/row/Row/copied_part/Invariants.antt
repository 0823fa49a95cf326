use Rattle.std.proofs.Common.{◌≡◌, take, drop}
use Rattle.chi_base.proofs.row.Row.copied_part.Given as goal

abbrev pub invariant-loop-place : goal.invariant-loop-place
invariant-loop-place g l = l.copies.items ≡ take l.place (drop l.from l.self)
