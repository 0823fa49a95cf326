use Rattle.std.proofs.Common.{arith}
use Rattle.chi_trace.proofs.Reading.{past_told}
use Rattle.chi_trace.proofs.numeral.number.Goals as goal

pub returns-then-number-from : goal.returns-then-number-from
returns-then-number-from c = record { number = past_told c.args.digits.now c.in_ok-number.number c.in_ok-number.ensures.number (omega arith) }
