use Rattle.chi_machine_agenda.proofs.meeting.come_with.Given as goal

abbrev pub ghosts-date : goal.ghosts-date
ghosts-date a = record { name = a.blank.name; parts = a.blank.parts }
