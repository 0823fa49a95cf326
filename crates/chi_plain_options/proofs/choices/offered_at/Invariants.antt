use Rattle.std.proofs.Common.{◌≡◌, ◌≤◌, length}
use Rattle.chi_plain_options.specs.Scanning.{offered_below}
use Rattle.chi_plain_options.proofs.choices.offered_at.Given as goal

abbrev pub invariant-loop-number : goal.invariant-loop-number
invariant-loop-number l = (l.seen ≡ length (offered_below l.fn.config l.fn.pid l.offers l.number)) × (l.seen ≤ l.fn.i)
