use Rattle.std.proofs.Common.{◌∙◌, refl, ap, sym, length, Some, option_and_then, slice_get}
use Rattle.std.proofs.lemmas.Option.{slice_get_read}
use Rattle.std.specs.Option.{option_cmp}
use Rattle.std.specs.Result.{result_ok}
use Rattle.chi_value.specs.Order.{order}
use Rattle.chi_sets.specs.Dictionaries.{key_of, value_of}
use Rattle.chi_sets.proofs.Orders.{keys_total}
use Rattle.chi_sets.proofs.Searches.{found_one}
use Rattle.chi_sets.proofs.searching.value_at.Goals as goal

pub returns-in-Ok : goal.returns-in-Ok
returns-in-Ok c =
    let one = found_one key_of (option_cmp order) keys_total (Some c.args.key.now) _ _ c.requires.ascending c.search_key.ensures.bound c.search_key.ensures.place in
    let read = slice_get_read c.args.entries.now (length c.args.entries.now) c.in-Ok.at _ refl c.in-Ok.ensures.bound c.index-entries-at.is in
    record {
      value = c.value_of.ensures.value
          ∙ ap (option_and_then value_of) (sym read ∙ ap (λ r. option_and_then (slice_get c.args.entries.now) (result_ok r)) (sym c.in-Ok.is) ∙ one);
    }

pub returns-in-Err : goal.returns-in-Err
returns-in-Err c =
    let one = found_one key_of (option_cmp order) keys_total (Some c.args.key.now) _ _ c.requires.ascending c.search_key.ensures.bound c.search_key.ensures.place in
    record {
      value = ap (option_and_then value_of) (ap (λ r. option_and_then (slice_get c.args.entries.now) (result_ok r)) (sym c.in-Err.is) ∙ one);
    }
