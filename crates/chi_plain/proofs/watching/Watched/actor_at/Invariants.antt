use Rattle.chi_plain.proofs.watching.Watched.actor_at.Given as goal

abbrev pub ghosts-marked_at : goal.ghosts-marked_at
ghosts-marked_at a = record { name = a.blank.name; parts = a.blank.parts }
