use Rattle.std.proofs.Common.{◌≡◌, ◌+◌, ◌*◌, ◌≤◌, length, drop}
use Rattle.chi_chan.specs.Kept.{choices_from}
use Rattle.chi_chan.proofs.options.count_among.Given as goal

abbrev pub invariant-loop-offer : goal.invariant-loop-offer
invariant-loop-offer l = record {
  count : l.count + length (choices_from l.receivers l.clock l.pid l.offer-index (drop l.offer-index l.offers)) ≡ length (choices_from l.receivers l.clock l.pid 0 l.offers);
  few : l.count ≤ l.offer-index * 8589934592;
}
