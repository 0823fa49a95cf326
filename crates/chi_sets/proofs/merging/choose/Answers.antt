use Rattle.std.proofs.lemmas.List.{nil_from_length}
use Rattle.chi_value.proofs.OrderLaws.{order_total}
use Rattle.chi_sets.proofs.Turns.{chosen_left, chosen_less, chosen_equal, chosen_greater, left_rest, right_rest}
use Rattle.chi_sets.proofs.merging.choose.Goals as goal

pub loop-x-preserved-in-Less : goal.loop-x-preserved-in-Less
loop-x-preserved-in-Less c =
    let l = c.in-Some.ensures.cases.0 in
    let r = c.in-Some-split_first.ensures.cases.0 in
    let now = c.loop-x.invariant in
    record {
      whole = chosen_less order_total _ _ _ _ _ _ l r now.left_up now.right_up c.args.common _ _ _ c.in-Less.ensures.value now.whole c.in_ok-push_copy_if-in-Less.ensures.pushed;
      left_up = left_rest order_total _ _ _ _ _ _ l r now.left_up now.right_up;
      right_up = now.right_up;
    }

pub loop-x-preserved-in-Equal : goal.loop-x-preserved-in-Equal
loop-x-preserved-in-Equal c =
    let l = c.in-Some.ensures.cases.0 in
    let r = c.in-Some-split_first.ensures.cases.0 in
    let now = c.loop-x.invariant in
    record {
      whole = chosen_equal order_total _ _ _ _ _ _ l r now.left_up now.right_up c.args.common _ _ _ c.in-Equal.ensures.value now.whole c.in_ok-push_copy_if-in-Equal.ensures.pushed;
      left_up = left_rest order_total _ _ _ _ _ _ l r now.left_up now.right_up;
      right_up = right_rest order_total _ _ _ _ _ _ l r now.left_up now.right_up;
    }

pub loop-x-preserved : goal.loop-x-preserved
loop-x-preserved c =
    let l = c.in-Some.ensures.cases.0 in
    let r = c.in-Some-split_first.ensures.cases.0 in
    let now = c.loop-x.invariant in
    record {
      whole = chosen_greater order_total _ _ _ _ _ _ l r now.left_up now.right_up c.args.common _ _ c.in-Greater.ensures.value now.whole;
      left_up = now.left_up;
      right_up = right_rest order_total _ _ _ _ _ _ l r now.left_up now.right_up;
    }

pub returns-in_default-split_first : goal.returns-in_default-split_first
returns-in_default-split_first c =
    let none = nil_from_length _ c.in_default-split_first.ensures.cases in
    record { value = chosen_left order_total _ _ c.args.common _ _ _ none c.loop-x.invariant.whole c.in_ok-push_copies_if.ensures.pushed }
