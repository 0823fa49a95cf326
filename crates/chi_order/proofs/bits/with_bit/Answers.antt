use Rattle.std.proofs.Common.{arith}
use Rattle.std.proofs.lemmas.Nat.{one_shl}
use Rattle.chi_order.proofs.Words.{set-narrow}
use Rattle.chi_order.proofs.bits.with_bit.Goals as goal

pub overflow_add-result : goal.overflow_add-result
overflow_add-result c =
    let s = one_shl c.args.bit 64 c.requires.within in
    let n = set-narrow 64 c.args.word c.args.bit c.ranges.word.fits c.requires.within c.requires.unset in omega (arith, s, n)
