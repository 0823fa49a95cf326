use Rattle.chi_num.proofs.OneEach.{one_remainder, remainder_side}
use Rattle.chi_num.proofs.laws.remainder_laws.Goals as goal

pub returns : goal.returns
returns c = record { remainder = one_remainder; sign = remainder_side }
