use Rattle.std.proofs.Common.{◌≡◌, true, ◌∙◌, sym, ap, slice_set, insert}
use Rattle.std.specs.Option.{option_cmp}
use Rattle.chi_value.specs.Order.{order}
use Rattle.chi_sets.specs.Dictionaries.{key_of, ascending_by_key, with_entry}
use Rattle.chi_sets.proofs.Orders.{keys_total}
use Rattle.chi_sets.proofs.Searches.{placed_found, placed_at_gap}
use Rattle.chi_sets.proofs.searching.with_entry.Goals as goal

pub returns-in_ok-of-in-Ok : goal.returns-in_ok-of-in-Ok
returns-in_ok-of-in-Ok c =
    let same = c.as_slice.ensures.same in
    let up : ascending_by_key c.as_slice.result.now ≡ true = ap ascending_by_key same ∙ c.requires.ascending in
    let placed = placed_found key_of (option_cmp order) keys_total c.args.entry _ _ up c.in-Ok.ensures.bound c.in-Ok.ensures.place in
    record {
      value = c.in_ok-of-in-Ok.ensures.same
          ∙ c.replaced.ensures.value
          ∙ ap (λ es. slice_set es c.in-Ok.at c.args.entry) (c.in_ok-items.ensures.same ∙ sym same)
          ∙ sym placed
          ∙ ap (λ es. with_entry es c.args.entry) same;
    }

pub returns-in_ok-of-in-Err : goal.returns-in_ok-of-in-Err
returns-in_ok-of-in-Err c =
    let same = c.as_slice.ensures.same in
    let up : ascending_by_key c.as_slice.result.now ≡ true = ap ascending_by_key same ∙ c.requires.ascending in
    let placed = placed_at_gap key_of (option_cmp order) keys_total c.args.entry c.as_slice.result.now c.in-Err.at up c.in-Err.ensures.place in
    record {
      value = c.in_ok-of-in-Err.ensures.same
          ∙ c.in_ok-insert-in-Err.ensures.items
          ∙ ap (λ es. insert es c.in-Err.at c.args.entry) (c.in_ok-items.ensures.same ∙ sym same)
          ∙ sym placed
          ∙ ap (λ es. with_entry es c.args.entry) same;
    }
