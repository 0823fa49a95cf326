use Rattle.chi_chan_laws.proofs.Agreeing.{agree}
use Rattle.chi_chan_laws.proofs.laws.options_law.Goals as goal

pub returns : goal.returns
returns c = record { options = agree }
