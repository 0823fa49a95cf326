-- Each answer is that of the one number that the text means.
use Rattle.chi_num.proofs.OfTexts.{int_tells}
use Rattle.chi_num.proofs.Reading.{int_means, reads_none, reads_number, reads_number_past, reads_size_past}
use Rattle.chi_num.proofs.read.int.read_int.Goals as goal

pub returns-in_default : goal.returns-in_default
returns-in_default c = reads_none _ _ _ (int_tells c.args.text.now) c.in_default.ensures.parts

pub returns-in_default-followed_by : goal.returns-in_default-followed_by
returns-in_default-followed_by c =
    reads_size_past _ _ _ (int_tells c.args.text.now) c.in-Some.minus _ (int_means _ _ _ c.in-Some.ensures.parts) c.in_default-followed_by.ensures.value

pub returns-in-Some-signed : goal.returns-in-Some-signed
returns-in-Some-signed c =
    reads_number _ _ _ (int_tells c.args.text.now) c.in-Some.minus _ _ _ (int_means _ _ _ c.in-Some.ensures.parts)
    c.in-Some-followed_by.ensures.value.1 c.in-Some-signed.ensures.value.0 c.in-Some-signed.ensures.value.1

pub returns-in-None : goal.returns-in-None
returns-in-None c =
    reads_number_past _ _ _ (int_tells c.args.text.now) c.in-Some.minus _ _ (int_means _ _ _ c.in-Some.ensures.parts)
    c.in-Some-followed_by.ensures.value.1 c.in-None.ensures.value
