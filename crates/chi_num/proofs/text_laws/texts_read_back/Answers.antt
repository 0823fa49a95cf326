use Rattle.chi_num.proofs.ReadBack.{decimal_means, real_text_means, fixed_text_means}
use Rattle.chi_num.proofs.text_laws.texts_read_back.Goals as goal

pub returns-clause-int : goal.returns-clause-int
returns-clause-int c = decimal_means

pub returns-clause-real : goal.returns-clause-real
returns-clause-real c = real_text_means

pub returns-clause-fixed : goal.returns-clause-fixed
returns-clause-fixed c = fixed_text_means
