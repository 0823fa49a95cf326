use Rattle.std.proofs.Common.{arith}
use Rattle.std.proofs.lemmas.Nat.{one_shl}
use Rattle.chi_order.proofs.Words.{has-bit}
use Rattle.chi_order.proofs.bits.without_bit.Goals as goal

pub overflow_sub-result : goal.overflow_sub-result
overflow_sub-result c =
    let s = one_shl c.args.bit 64 c.requires.within in
    let n = has-bit c.args.word c.args.bit c.requires.set in omega (arith, s, n)
