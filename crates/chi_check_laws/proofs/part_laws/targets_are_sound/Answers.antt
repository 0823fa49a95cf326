use Rattle.chi_check_laws.proofs.Targets.{aim_takes, target_field_sound, target_index_sound, target_name_sound}
use Rattle.chi_check_laws.proofs.part_laws.targets_are_sound.Goals as goal

pub returns-clause-of_names : goal.returns-clause-of_names
returns-clause-of_names c = target_name_sound

pub returns-clause-of_indexes : goal.returns-clause-of_indexes
returns-clause-of_indexes c = target_index_sound

pub returns-clause-of_fields : goal.returns-clause-of_fields
returns-clause-of_fields c = target_field_sound

pub returns-clause-taken : goal.returns-clause-taken
returns-clause-taken c = aim_takes
