use Rattle.chi_check_laws.proofs.WholeFills.{statements_grow, unwinds_own}
use Rattle.chi_check_laws.proofs.statement_laws.slots_are_new.Goals as goal

pub returns-clause-grows : goal.returns-clause-grows
returns-clause-grows c home loop steps s whole = statements_grow home loop steps s whole

pub returns-clause-unwinds : goal.returns-clause-unwinds
returns-clause-unwinds c home loop steps s body whole slots made count = unwinds_own home loop steps s body whole slots made count
