use Rattle.chi_format.proofs.Readings.{a_reading, one_list, one_offset, list_or_bad}
use Rattle.chi_format.proofs.laws.one_reading_is_meant.Goals as goal

pub returns-clause-some : goal.returns-clause-some
returns-clause-some c = a_reading

pub returns-clause-one_list : goal.returns-clause-one_list
returns-clause-one_list c = one_list

pub returns-clause-one_offset : goal.returns-clause-one_offset
returns-clause-one_offset c = one_offset

pub returns-clause-not_both : goal.returns-clause-not_both
returns-clause-not_both c = list_or_bad
