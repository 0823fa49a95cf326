use Rattle.chi_chan_tests.proofs.dues.the_least_is_that_of_a_sorted_vector.Given as goal

abbrev pub ghosts-random_calls : goal.ghosts-random_calls
ghosts-random_calls a b = record { name = b.blank.name; parts = b.blank.parts }
