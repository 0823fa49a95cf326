use Rattle.chi_tool.proofs.Replays.{own_picks}
use Rattle.chi_tool.proofs.laws.own_picks_law.Goals as goal

pub returns : goal.returns
returns c = own_picks c.own_numbers_law.ensures.picks
