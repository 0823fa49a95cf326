use Rattle.std.proofs.Common.{◌∙◌, ap, slice_get, option_and_then}
use Rattle.chi_value.proofs.OrderLaws.{order_total}
use Rattle.chi_value.specs.Order.{order}
use Rattle.chi_sets.proofs.Searches.{found_one, found_either_way}
use Rattle.chi_sets.proofs.searching.find.Goals as goal

pub returns-clause-value : goal.returns-clause-value
returns-clause-value c =
    ap (option_and_then (slice_get c.args.items.now)) c.ok.ensures.value
    ∙ found_one (λ y. y) order order_total _ _ _ c.requires.ascending c.search.ensures.bound c.search.ensures.place
    ∙ found_either_way order order_total _ _
