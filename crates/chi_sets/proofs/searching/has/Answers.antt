use Rattle.std.proofs.Common.{◌∙◌}
use Rattle.chi_value.proofs.OrderLaws.{order_total}
use Rattle.chi_value.specs.Order.{order}
use Rattle.chi_sets.proofs.Searches.{found, tied_either_way}
use Rattle.chi_sets.proofs.searching.has.Goals as goal

pub returns : goal.returns
returns c = record {
  value = c.is_ok.ensures.value
      ∙ found (λ y. y) order order_total _ _ _ c.requires.ascending c.search.ensures.bound c.search.ensures.place
      ∙ tied_either_way order order_total _ _;
}
