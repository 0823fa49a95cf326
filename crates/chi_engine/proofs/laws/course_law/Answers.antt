use Rattle.chi_engine.proofs.Picked.{some_course, one_course}
use Rattle.chi_engine.proofs.laws.course_law.Goals as goal

pub returns-clause-some : goal.returns-clause-some
returns-clause-some c = some_course c.picked_law.ensures.always c.picked_law.ensures.derived c.trace_law.ensures.some

pub returns-clause-one : goal.returns-clause-one
returns-clause-one c = one_course c.picked_law.ensures.once c.trace_law.ensures.one
