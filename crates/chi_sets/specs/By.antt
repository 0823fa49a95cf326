-- The orders by which lists ascend. Private to proofs.
use Rattle.std.specs.declared.cmp.Ordering.{Ordering}
use Rattle.chi_value.specs.declared.value.Value.{Value}
use Rattle.chi_value.specs.Order.{order}
use Rattle.chi_sets.specs.declared.order.By.{By}
use Rattle.chi_sets.specs.declared.order.By.TheVariants as by
use Rattle.chi_sets.specs.Dictionaries.{by_key}

abbrev pub order_by : By → Value → Value → Ordering
order_by by.Itself = order
order_by by.Key = by_key
