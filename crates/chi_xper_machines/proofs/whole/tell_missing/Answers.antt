use Rattle.std.proofs.Common.{refl}
use Rattle.chi_xper_machines.proofs.Telling.{missing_told}
use Rattle.chi_xper_machines.proofs.whole.tell_missing.Goals as goal

pub returns : goal.returns
returns c = missing_told c.args.core.now _ refl c.new.ensures.items c.in_ok-log.ensures.items
