-- Each answer is that of the one number that the text means.
use Rattle.chi_num.proofs.OfTexts.{real_tells}
use Rattle.chi_num.proofs.Reading.{real_means, reads_none, reads_number, reads_number_past, reads_size_past}
use Rattle.chi_num.proofs.read.real.read_real.Goals as goal

pub returns-in_default : goal.returns-in_default
returns-in_default c = reads_none _ _ _ (real_tells c.args.text.now) c.in_default.ensures.parts

pub returns-in_default-units_of : goal.returns-in_default-units_of
returns-in_default-units_of c =
    reads_size_past _ _ _ (real_tells c.args.text.now) c.in-Some.numeral.minus _ (real_means _ _ _ _ c.in-Some.ensures.parts)
    c.in_default-units_of.ensures.value

pub returns-in-Some-signed : goal.returns-in-Some-signed
returns-in-Some-signed c =
    rw c.from_units.ensures.same
    (reads_number _ _ _ (real_tells c.args.text.now) c.in-Some.numeral.minus _ _ _ (real_means _ _ _ _ c.in-Some.ensures.parts)
    c.in-Some-units_of.ensures.value.1 c.in-Some-signed.ensures.value.0 c.in-Some-signed.ensures.value.1)

pub returns-in-None : goal.returns-in-None
returns-in-None c =
    reads_number_past _ _ _ (real_tells c.args.text.now) c.in-Some.numeral.minus _ _ (real_means _ _ _ _ c.in-Some.ensures.parts)
    c.in-Some-units_of.ensures.value.1 c.in-None.ensures.value
