use Rattle.chi_machine_agenda.proofs.timing.go_to_next.Given as goal

abbrev pub ghosts-wake_all : goal.ghosts-wake_all
ghosts-wake_all a = record { name = a.blank.name; parts = a.blank.parts }
