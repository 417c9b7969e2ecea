use Rattle.col_tests_numbers.proofs.counted.look_up.Given as goal

abbrev pub ghosts-look_up_from_no_step : goal.ghosts-look_up_from_no_step
ghosts-look_up_from_no_step a = record { name = a.blank.name; parts = a.blank.parts }
