use Rattle.chi_dist.proofs.Between.{between_least, between_most}
use Rattle.chi_dist.proofs.Period.{draw_again}
use Rattle.chi_dist.proofs.SampledLaws.{same_streams, wrong_told}
use Rattle.chi_dist.proofs.laws.draws_law.Goals as goal

pub returns : goal.returns
returns c = record {
  again = draw_again;
  between = λ a b word below less. (between_least a b word, between_most a b word below less);
  streams = same_streams;
  there = wrong_told;
}
