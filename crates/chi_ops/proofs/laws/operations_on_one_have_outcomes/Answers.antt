use Rattle.chi_ops.proofs.NeverWrong.{index_right, slice_right, lookup_right, insert_at_right, del_right, pop_right, enumerate_right, keys_right, values_right, size_some, has_some}
use Rattle.chi_ops.proofs.laws.operations_on_one_have_outcomes.Goals as goal

pub returns-clause-index : goal.returns-clause-index
returns-clause-index c = index_right

pub returns-clause-slice : goal.returns-clause-slice
returns-clause-slice c = slice_right

pub returns-clause-lookup : goal.returns-clause-lookup
returns-clause-lookup c = lookup_right

pub returns-clause-insert_at : goal.returns-clause-insert_at
returns-clause-insert_at c = insert_at_right

pub returns-clause-del : goal.returns-clause-del
returns-clause-del c = del_right

pub returns-clause-pop : goal.returns-clause-pop
returns-clause-pop c = pop_right

pub returns-clause-enumerate : goal.returns-clause-enumerate
returns-clause-enumerate c = enumerate_right

pub returns-clause-keys : goal.returns-clause-keys
returns-clause-keys c = keys_right

pub returns-clause-values : goal.returns-clause-values
returns-clause-values c = values_right

pub returns-clause-size : goal.returns-clause-size
returns-clause-size c = size_some

pub returns-clause-has : goal.returns-clause-has
returns-clause-has c = has_some
