use Rattle.std.proofs.Common.{◌≡◌, ◌≤◌, map, drop}
use Rattle.chi_value.specs.Default.{default, in_turn}
use Rattle.chi_value.proofs.Turns.{before}
use Rattle.chi_value.proofs.defaults.+make_default.Given as goal

abbrev pub invariant-make_tuple-loop-part : goal.invariant-make_tuple-loop-part
invariant-make_tuple-loop-part l = record {
  within : l.count ≤ 1_000_000;
  rest : in_turn (map default l.fn.parts) l.fn.channels ≡
      before l.made.items (in_turn (map default (drop l.part-index l.parts)) l.count);
}
