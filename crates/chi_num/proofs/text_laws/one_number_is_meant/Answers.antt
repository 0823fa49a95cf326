use Rattle.chi_num.proofs.Reading.{int_means, real_means}
use Rattle.chi_num.proofs.Spelling.{one_int, one_real}
use Rattle.chi_num.proofs.text_laws.one_number_is_meant.Goals as goal

pub returns-clause-some_int : goal.returns-clause-some_int
returns-clause-some_int c = λ text (minus, (whole, i)). (_, int_means text minus whole i)

pub returns-clause-one_int : goal.returns-clause-one_int
returns-clause-one_int c = one_int

pub returns-clause-some_real : goal.returns-clause-some_real
returns-clause-some_real c = λ text (minus, (whole, (fraction, i))). (_, real_means text minus whole fraction i)

pub returns-clause-one_real : goal.returns-clause-one_real
returns-clause-one_real c = one_real
