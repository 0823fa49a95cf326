use Rattle.chi_chan_tests.proofs.ranks.each_rank_has_its_number.Given as goal

abbrev pub ghosts-all_numbers : goal.ghosts-all_numbers
ghosts-all_numbers a b = record { name = b.blank.name; parts = b.blank.parts }
