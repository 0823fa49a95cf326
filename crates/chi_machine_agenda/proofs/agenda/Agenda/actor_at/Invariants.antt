use Rattle.chi_machine_agenda.proofs.agenda.Agenda.actor_at.Given as goal

abbrev pub ghosts-ready_at : goal.ghosts-ready_at
ghosts-ready_at a = record { name = a.blank.name; parts = a.blank.parts }
