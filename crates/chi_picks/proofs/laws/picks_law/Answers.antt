use Rattle.chi_picks.proofs.Lists.{answer, one_list, one_place, apart}
use Rattle.chi_picks.proofs.Written.{written}
use Rattle.chi_picks.proofs.laws.picks_law.Goals as goal

pub returns : goal.returns
returns c = record { some = answer; one_list = one_list; one_line = one_place; apart = apart; spelled = written }
