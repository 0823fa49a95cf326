use Rattle.std.proofs.Common.{arith}
use Rattle.chi_dist.proofs.Leading.{digit_more, digits_more, digits_last}
use Rattle.chi_dist.proofs.exponential.log_digits.Goals as goal

pub loop-digit-preserved : goal.loop-digit-preserved
loop-digit-preserved c =
    let l = c.loop-digit in
    let n = c.next_digit-digit in (
      digit_more _ l.digits l._digit l.rest n.result.0 n.result.1 (omega arith) n.ensures.digit n.ensures.rest l.invariant.0,
      digits_more l.digits l._digit n.result.0 l.rest n.ensures.digit l.invariant.1,
    )

pub returns-clause-digits : goal.returns-clause-digits
returns-clause-digits c = let l = c.loop-digit in digits_last _ l.digits l._digit l.rest (omega arith) l.invariant.0
