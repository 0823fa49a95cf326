use Rattle.std.proofs.Common.{rules, ◌∙◌, subst, Ordering, is_lt, is_eq}
use Rattle.std.proofs.lemmas.Fn.{always_returns_same, dedup_same}
use Rattle.std.proofs.lemmas.List.Sorted.{ranks_by}
use Rattle.std.specs.List.Sorted.{IsStableBy}
use Rattle.chi_value.specs.declared.value.Value.{Value}
use Rattle.chi_sets.specs.By.{order_by}
use Rattle.chi_sets.proofs.Orders.{order_by_total}
use Rattle.chi_sets.proofs.Repeats.{sorted_in_order}
use Rattle.chi_sets.proofs.sorting.sorted.Goals as goal

pub returns : goal.returns
returns c =
    let by : Value → Value → Ordering = order_by c.args.by in
    let o = order_by_total c.args.by in
    let rank = ranks_by o (λ y. y) in
    let up = c.in_ok-sort_by.ensures.sorted (λ x y. is_lt (by x y)) rank (always_returns_same _ _ _ (λ a r f called. search rules)) in
    let stable = c.in_ok-sort_by.ensures.stable (λ x y. is_lt (by x y)) rank (always_returns_same _ _ _ (λ a r f called. search rules)) in
    let left = dedup_same _ (λ x y. is_eq (by x y)) _ (λ x y b f' x' y' k. search rules) _ _ c.dedup_by.ensures.filtered in
    record {
      value = left
          ∙ sorted_in_order by o c.args.values.items c.sort_by.new.self.items up (subst (λ xs. IsStableBy (λ x y. is_lt (by x y)) xs c.sort_by.new.self.items) c.reverse.ensures.items stable);
    }
