use Rattle.std.proofs.Common.{◌≡◌, ◌≤◌, length, drop, true}
use Rattle.chi_format.specs.Format.{rendered, may_render}
use Rattle.chi_format.proofs.Turns.{written}
use Rattle.chi_format.proofs.rendering.render.Given as goal

abbrev pub invariant-loop-piece : goal.invariant-loop-piece
invariant-loop-piece l = record {
  within : length l.text.items ≤ 4_194_304;
  fits : may_render l.names.kinds (drop l.piece-index l.pieces) (drop l.next l.values) ≡ true;
  rest : written l.text.items (rendered l.names.kinds (drop l.piece-index l.pieces) (drop l.next l.values)) ≡ rendered l.fn.names.kinds l.fn.pieces l.fn.values;
}
