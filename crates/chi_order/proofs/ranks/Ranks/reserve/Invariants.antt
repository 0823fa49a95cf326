use Rattle.std.proofs.Common.{◌≡◌, ℕ, ◌<◌, ◌≤◌, false, length}
use Rattle.chi_order.specs.Marked.{is_marked}
use Rattle.chi_order.proofs.ranks.Ranks.reserve.Given as goal

abbrev pub invariant-loop-number : goal.invariant-loop-number
invariant-loop-number l = record {
  room : l.numbers ≤ length l.wider;
  more : l.old ≤ length l.wider;
  copied : (y : ℕ) → y < l.number → is_marked l.wider y ≡ is_marked l.fn.self y;
  rest : (y : ℕ) → l.number ≤ y → is_marked l.wider y ≡ false;
}
