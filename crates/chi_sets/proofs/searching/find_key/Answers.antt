use Rattle.std.proofs.Common.{◌∙◌, ap, Some, slice_get, option_and_then}
use Rattle.std.specs.Option.{option_cmp}
use Rattle.chi_value.specs.Order.{order}
use Rattle.chi_sets.specs.Dictionaries.{key_of}
use Rattle.chi_sets.proofs.Orders.{keys_total}
use Rattle.chi_sets.proofs.Searches.{found_one}
use Rattle.chi_sets.proofs.searching.find_key.Goals as goal

pub returns-clause-value : goal.returns-clause-value
returns-clause-value c =
    ap (option_and_then (slice_get c.args.entries.now)) c.ok.ensures.value
    ∙ found_one key_of (option_cmp order) keys_total (Some c.args.key.now) _ _ c.requires.ascending c.search_key.ensures.bound c.search_key.ensures.place
