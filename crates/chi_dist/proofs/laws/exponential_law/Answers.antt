use Rattle.chi_dist.proofs.ExponentialOrder.{exponent_of_draw, exponential_order, exponential_least, exponential_most}
use Rattle.chi_dist.proofs.laws.exponential_law.Goals as goal

pub returns : goal.returns
returns c = record {
  exponent = exponent_of_draw;
  order = exponential_order;
  least = exponential_least;
  most = exponential_most;
}
