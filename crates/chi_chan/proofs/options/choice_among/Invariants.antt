use Rattle.std.proofs.Common.{◌≡◌, ◌+◌, ◌-◌, ◌≤◌, length, drop}
use Rattle.std.specs.List.{slice_get}
use Rattle.chi_chan.specs.Kept.{choices_from}
use Rattle.chi_chan.proofs.options.choice_among.Given as goal

abbrev pub invariant-loop-number : goal.invariant-loop-number
invariant-loop-number l = record {
  total : l.seen + length (choices_from l.receivers l.clock l.pid l.number (drop l.number l.offers)) ≡ length (choices_from l.receivers l.clock l.pid 0 l.offers);
  seen : l.seen ≤ l.i;
  same : slice_get (choices_from l.receivers l.clock l.pid l.number (drop l.number l.offers)) (l.i - l.seen) ≡ slice_get (choices_from l.receivers l.clock l.pid 0 l.offers) l.i;
}
