use Rattle.col_index.proofs.search.narrow.Given as goal

abbrev pub ghosts-narrow_by : goal.ghosts-narrow_by
ghosts-narrow_by a = record { name = a.blank.name; parts = a.blank.parts }
