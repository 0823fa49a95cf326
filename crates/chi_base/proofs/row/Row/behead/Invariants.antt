use Rattle.std.proofs.Common.{◌≡◌, drop}
use Rattle.chi_base.proofs.row.Row.behead.Given as goal

abbrev pub invariant-loop-turn : goal.invariant-loop-turn
invariant-loop-turn g l = l.self ≡ drop l._turn l.fn.self
