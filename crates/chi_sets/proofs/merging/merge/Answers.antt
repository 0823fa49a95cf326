use Rattle.std.proofs.lemmas.List.{nil_from_length}
use Rattle.chi_sets.proofs.Orders.{order_by_total}
use Rattle.chi_sets.proofs.Turns.{merged_left, merged_right, merged_less, merged_equal, merged_greater, left_rest, right_rest}
use Rattle.chi_sets.proofs.merging.merge.Goals as goal

pub loop-x-preserved-in-Less : goal.loop-x-preserved-in-Less
loop-x-preserved-in-Less c =
    let o = order_by_total c.args.by in
    let l = c.in-Some.ensures.cases.0 in
    let r = c.in-Some-split_first.ensures.cases.0 in
    let now = c.loop-x.invariant in
    record {
      whole = merged_less o _ _ _ _ _ _ l r now.left_up now.right_up _ _ _ c.in-Less.ensures.value now.whole c.in_ok-push_copy-in-Less.ensures.pushed;
      left_up = left_rest o _ _ _ _ _ _ l r now.left_up now.right_up;
      right_up = now.right_up;
    }

pub loop-x-preserved-in-Equal : goal.loop-x-preserved-in-Equal
loop-x-preserved-in-Equal c =
    let o = order_by_total c.args.by in
    let l = c.in-Some.ensures.cases.0 in
    let r = c.in-Some-split_first.ensures.cases.0 in
    let now = c.loop-x.invariant in
    record {
      whole = merged_equal o _ _ _ _ _ _ l r now.left_up now.right_up _ _ _ c.in-Equal.ensures.value now.whole c.in_ok-push_copy-in-Equal.ensures.pushed;
      left_up = left_rest o _ _ _ _ _ _ l r now.left_up now.right_up;
      right_up = right_rest o _ _ _ _ _ _ l r now.left_up now.right_up;
    }

pub loop-x-preserved : goal.loop-x-preserved
loop-x-preserved c =
    let o = order_by_total c.args.by in
    let l = c.in-Some.ensures.cases.0 in
    let r = c.in-Some-split_first.ensures.cases.0 in
    let now = c.loop-x.invariant in
    record {
      whole = merged_greater o _ _ _ _ _ _ l r now.left_up now.right_up _ _ _ c.in-Greater.ensures.value now.whole c.in_ok-push_copy-in-Greater.ensures.pushed;
      left_up = now.left_up;
      right_up = right_rest o _ _ _ _ _ _ l r now.left_up now.right_up;
    }

pub returns-in_default-split_first : goal.returns-in_default-split_first
returns-in_default-split_first c =
    let none = nil_from_length _ c.in_default-split_first.ensures.cases in
    let now = c.loop-x.invariant in
    record { value = merged_left (order_by_total c.args.by) _ _ _ _ _ none now.left_up now.whole c.in_ok-push_copies.ensures.pushed }

pub returns : goal.returns
returns c =
    let none = nil_from_length _ c.in_default.ensures.cases in
    let now = c.loop-x.invariant in
    record { value = merged_right (order_by_total c.args.by) _ _ _ _ _ none now.right_up now.whole c.in_ok-push_copies-2.ensures.pushed }
