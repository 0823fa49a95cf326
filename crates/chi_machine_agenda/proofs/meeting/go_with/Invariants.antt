use Rattle.chi_machine_agenda.proofs.meeting.go_with.Given as goal

abbrev pub ghosts-undate : goal.ghosts-undate
ghosts-undate a = record { name = a.blank.name; parts = a.blank.parts }
