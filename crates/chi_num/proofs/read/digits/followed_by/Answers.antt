use Rattle.std.proofs.Common.{◌≡◌, ◌∙◌, sym, arith}
use Rattle.chi_num.specs.Decimal.{followed_by}
use Rattle.chi_num.proofs.Decimal.{followed_by_done}
use Rattle.chi_num.proofs.read.digits.followed_by.Goals as goal

-- No digits are left, so the number so far is the whole.
pub returns : goal.returns
returns c =
    let all : c.loop-digit.whole ≡ followed_by c.args.number c.args.digits.now =
    sym (followed_by_done c.loop-digit.whole c.args.digits.now c.loop-digit.digit-index c.loop-digit-test.false)
    ∙ c.loop-digit.invariant.0
    in
    record { value = (omega (arith, all, c.loop-digit.invariant.1), all) }
