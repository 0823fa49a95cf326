use Rattle.chi_cli.proofs.Misfits.{kind_number, text_numbers, none_for_memory}
use Rattle.chi_cli.proofs.laws.faults_of_arguments_name_them.Goals as goal

pub returns-clause-kind : goal.returns-clause-kind
returns-clause-kind c = kind_number

pub returns-clause-text : goal.returns-clause-text
returns-clause-text c = text_numbers

pub returns-clause-memory : goal.returns-clause-memory
returns-clause-memory c = none_for_memory
