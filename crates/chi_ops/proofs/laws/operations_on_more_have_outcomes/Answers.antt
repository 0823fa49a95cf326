use Rattle.chi_ops.proofs.NeverWrong.{join_right, union_right, meet_right, minus_right, minus_keys_right, sub_some, range_right, build_right}
use Rattle.chi_ops.proofs.StoreRight.{put_right}
use Rattle.chi_ops.proofs.laws.operations_on_more_have_outcomes.Goals as goal

pub returns-clause-join : goal.returns-clause-join
returns-clause-join c = join_right

pub returns-clause-union : goal.returns-clause-union
returns-clause-union c = union_right

pub returns-clause-meet : goal.returns-clause-meet
returns-clause-meet c = meet_right

pub returns-clause-minus : goal.returns-clause-minus
returns-clause-minus c = minus_right

pub returns-clause-minus_keys : goal.returns-clause-minus_keys
returns-clause-minus_keys c = minus_keys_right

pub returns-clause-sub : goal.returns-clause-sub
returns-clause-sub c = sub_some

pub returns-clause-range : goal.returns-clause-range
returns-clause-range c = range_right

pub returns-clause-build : goal.returns-clause-build
returns-clause-build c = build_right

pub returns-clause-put : goal.returns-clause-put
returns-clause-put c = put_right
