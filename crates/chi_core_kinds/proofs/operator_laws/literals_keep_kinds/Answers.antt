use Rattle.chi_core_kinds.proofs.Stated.{lists, sets, dictionaries}
use Rattle.chi_core_kinds.proofs.operator_laws.literals_keep_kinds.Goals as goal

pub returns-clause-lists : goal.returns-clause-lists
returns-clause-lists c = lists

pub returns-clause-sets : goal.returns-clause-sets
returns-clause-sets c = sets

pub returns-clause-dictionaries : goal.returns-clause-dictionaries
returns-clause-dictionaries c = dictionaries
