use Rattle.std.proofs.Common.{◌≡◌, ◌++◌, drop}
use Rattle.chi_picks.specs.Lists.{spelled}
use Rattle.chi_picks.proofs.write.picks_text.Given as goal

abbrev pub invariant-loop-pick : goal.invariant-loop-pick
invariant-loop-pick l = l.text.items ++ spelled (drop l.pick-index l.picks) ≡ spelled l.picks
