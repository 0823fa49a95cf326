use Rattle.std.proofs.Common.{◌∙◌, Some}
use Rattle.std.specs.Option.{option_cmp}
use Rattle.chi_value.specs.Order.{order}
use Rattle.chi_sets.specs.Dictionaries.{key_of}
use Rattle.chi_sets.proofs.Orders.{keys_total}
use Rattle.chi_sets.proofs.Searches.{found}
use Rattle.chi_sets.proofs.searching.has_key.Goals as goal

pub returns : goal.returns
returns c = record {
  value = c.is_ok.ensures.value
      ∙ found key_of (option_cmp order) keys_total (Some c.args.key.now) _ _ c.requires.ascending c.search_key.ensures.bound c.search_key.ensures.place;
}
