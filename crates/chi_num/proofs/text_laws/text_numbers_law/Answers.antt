use Rattle.chi_num.proofs.OfTexts.{int_tells, real_tells}
use Rattle.chi_num.proofs.text_laws.text_numbers_law.Goals as goal

pub returns : goal.returns
returns c = record {
  int = λ text. (int_tells text).value;
  int_form = λ text. (int_tells text).form;
  int_range = λ text. (int_tells text).range;
  real = λ text. (real_tells text).value;
  real_form = λ text. (real_tells text).form;
  real_range = λ text. (real_tells text).range;
}
