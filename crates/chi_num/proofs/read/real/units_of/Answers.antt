-- What 64 bits don't hold of a part, they don't hold of the whole.
use Rattle.std.proofs.Common.{◌≡◌, ◌*◌, ◌^◌, ◌-◌, ◌+◌, ◌++◌, true, false, arith, length}
use Rattle.chi_num.specs.Decimal.{followed_by, number_of}
use Rattle.chi_num.specs.Nearest.{nearest}
use Rattle.chi_num.proofs.Units.{units_cut, kept_units}
use Rattle.chi_num.proofs.read.real.units_of.Goals as goal

pub returns-in_err-followed_by : goal.returns-in_err-followed_by
returns-in_err-followed_by c =
    let units = units_cut c.args.whole.now c.args.fraction.now c.split_at.result.0.now c.split_at.result.1.now c.min.result c.requires.fraction c.split_at.ensures.by_index.0 c.split_at.ensures.front_len c.min.ensures in
    let past = c.in_err-followed_by.ensures.value in
    rw c.from_residual.ensures (record { value = λ h. past (omega (arith, units.above_whole)) })

pub returns-in_err-number : goal.returns-in_err-number
returns-in_err-number c =
    let units = units_cut c.args.whole.now c.args.fraction.now c.split_at.result.0.now c.split_at.result.1.now c.min.result c.requires.fraction c.split_at.ensures.by_index.0 c.split_at.ensures.front_len c.min.ensures in
    let past = rw c.in_ok-followed_by.ensures.value.1 at c.in_err-number.ensures.value in
    rw c.from_residual-in_err-number.ensures (record { value = λ h. past (omega (arith, h, units.above_number)) })

pub returns-in_err-units : goal.returns-in_err-units
returns-in_err-units c =
    let units = units_cut c.args.whole.now c.args.fraction.now c.split_at.result.0.now c.split_at.result.1.now c.min.result c.requires.fraction c.split_at.ensures.by_index.0 c.split_at.ensures.front_len c.min.ensures in
    let made = kept_units c.in_ok-number.number c.pow.result c.in_ok-followed_by.field-0 (followed_by 0 c.args.whole.now) c.split_at.result.0.now (9 - length c.split_at.result.0.now) c.in_ok-number.ensures.value.1 c.in_ok-followed_by.ensures.value.1 c.pow.ensures in
    let past = rw made at c.in_err-units.ensures in
    rw c.from_residual-in_err-units.ensures (record { value = λ h. past (omega (arith, h, units.least)) })

pub returns-then-is_half : goal.returns-then-is_half
returns-then-is_half c =
    let units = units_cut c.args.whole.now c.args.fraction.now c.split_at.result.0.now c.split_at.result.1.now c.min.result c.requires.fraction c.split_at.ensures.by_index.0 c.split_at.ensures.front_len c.min.ensures in
    let made = kept_units c.in_ok-number.number c.pow.result c.in_ok-followed_by.field-0 (followed_by 0 c.args.whole.now) c.split_at.result.0.now (9 - length c.split_at.result.0.now) c.in_ok-number.ensures.value.1 c.in_ok-followed_by.ensures.value.1 c.pow.ensures in
    let value = units.value true c.if-is_half.ensures.tells in
    let whole : c.in_ok-units.units + 1 ≡ nearest (number_of (c.args.whole.now ++ c.args.fraction.now) * 1_000_000_000) (10 ^ length c.args.fraction.now) =
    omega (arith, c.in_ok-units.ensures.1, made, value)
    in
    record { value = rw whole at c.checked_add.ensures }

pub returns-else-is_half : goal.returns-else-is_half
returns-else-is_half c =
    let units = units_cut c.args.whole.now c.args.fraction.now c.split_at.result.0.now c.split_at.result.1.now c.min.result c.requires.fraction c.split_at.ensures.by_index.0 c.split_at.ensures.front_len c.min.ensures in
    let made = kept_units c.in_ok-number.number c.pow.result c.in_ok-followed_by.field-0 (followed_by 0 c.args.whole.now) c.split_at.result.0.now (9 - length c.split_at.result.0.now) c.in_ok-number.ensures.value.1 c.in_ok-followed_by.ensures.value.1 c.pow.ensures in
    let value = units.value false c.if-is_half.ensures.tells in
    let held = c.in_ok-units.ensures in
    record { value = (omega (arith, held.0, made, value), omega (arith, held.1, made, value)) }
