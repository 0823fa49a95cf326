use Rattle.chi_value.proofs.OrderLaws.{order_total}
use Rattle.chi_sets.proofs.Turns.{within_less, within_equal, within_greater, left_rest, right_rest}
use Rattle.chi_sets.proofs.merging.is_subset.Goals as goal

pub returns-in-Less : goal.returns-in-Less
returns-in-Less c =
    let now = c.loop-x.invariant in
    record {
      value = within_less order_total _ _ _ _ _ _ c.in-Some.ensures.cases.0 c.in-Some-split_first.ensures.cases.0 now.left_up now.right_up _ c.in-Less.ensures.value now.whole;
    }

pub loop-x-preserved-in-Equal : goal.loop-x-preserved-in-Equal
loop-x-preserved-in-Equal c =
    let l = c.in-Some.ensures.cases.0 in
    let r = c.in-Some-split_first.ensures.cases.0 in
    let now = c.loop-x.invariant in
    record {
      whole = within_equal order_total _ _ _ _ _ _ l r now.left_up now.right_up _ c.in-Equal.ensures.value now.whole;
      left_up = left_rest order_total _ _ _ _ _ _ l r now.left_up now.right_up;
      right_up = right_rest order_total _ _ _ _ _ _ l r now.left_up now.right_up;
    }

pub loop-x-preserved : goal.loop-x-preserved
loop-x-preserved c =
    let l = c.in-Some.ensures.cases.0 in
    let r = c.in-Some-split_first.ensures.cases.0 in
    let now = c.loop-x.invariant in
    record {
      whole = within_greater order_total _ _ _ _ _ _ l r now.left_up now.right_up _ c.in-Greater.ensures.value now.whole;
      left_up = now.left_up;
      right_up = right_rest order_total _ _ _ _ _ _ l r now.left_up now.right_up;
    }
