use Rattle.col_writer_file.proofs.numbers.numbers_fit.Goals as goal

pub returns : goal.returns
returns c k = (c.type_inv.numbers k).fits
