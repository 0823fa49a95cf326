-- The orders by which lists ascend are total.
use Rattle.std.proofs.Common.{Ordering}
use Rattle.std.specs.Cmp.{IsTotalOrder}
use Rattle.std.specs.Cmp.Lexicographic.{options_total}
use Rattle.std.specs.Option.{option_cmp}
use Rattle.std.proofs.lemmas.Cmp.{on_total}
use Rattle.chi_value.proofs.OrderLaws.{order_total}
use Rattle.chi_value.specs.Order.{order}
use Rattle.chi_sets.specs.By.{order_by}
use Rattle.chi_sets.specs.Dictionaries.{by_key, key_of}
use Rattle.chi_sets.specs.declared.order.By.{By}
use Rattle.chi_sets.specs.declared.order.By.TheVariants as by

pub keys_total : IsTotalOrder (option_cmp order)
keys_total = options_total order_total

pub by_key_total : IsTotalOrder by_key
by_key_total = on_total key_of keys_total

pub order_by_total : (b : By) → IsTotalOrder (order_by b)
order_by_total by.Itself = order_total
order_by_total by.Key = by_key_total
