use Rattle.chi_ops.proofs.Halves.{halves}
use Rattle.chi_ops.proofs.laws.slices_at_one_bound_join.Goals as goal

pub returns-clause-lists : goal.returns-clause-lists
returns-clause-lists c = λ items bound. halves items bound

pub returns-clause-strings : goal.returns-clause-strings
returns-clause-strings c = λ bytes bound. halves bytes bound
