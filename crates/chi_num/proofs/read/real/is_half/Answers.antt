use Rattle.chi_num.proofs.Units.{half_tells}
use Rattle.chi_num.proofs.read.real.is_half.Goals as goal

pub returns-in-Some : goal.returns-in-Some
returns-in-Some c = record { tells = half_tells c.args.digits.now c.in-Some.first.now c.in-Some.field-0-1.now c.requires c.in-Some.ensures.cases.0 }
