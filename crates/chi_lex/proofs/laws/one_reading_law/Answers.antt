use Rattle.chi_lex.proofs.LawLemmas.{some_reading, one_list, one_fault, never_both}
use Rattle.chi_lex.proofs.laws.one_reading_law.Goals as goal

pub returns-clause-some : goal.returns-clause-some
returns-clause-some c = some_reading

pub returns-clause-one_list : goal.returns-clause-one_list
returns-clause-one_list c = one_list

pub returns-clause-one_fault : goal.returns-clause-one_fault
returns-clause-one_fault c = one_fault

pub returns-clause-never_both : goal.returns-clause-never_both
returns-clause-never_both c = never_both
