use Rattle.col_codecs.proofs.bitpacked.BitpackedReaderColumnValuesU64.get_row_ids_between.Given as goal

abbrev pub ghosts-find_row_ids : goal.ghosts-find_row_ids
ghosts-find_row_ids a = record { name = a.blank.name; parts = a.blank.parts }
