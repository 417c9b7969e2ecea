use Rattle.col_index.proofs.RankLaws.{rows_rise}
use Rattle.col_index.proofs.HeldLaws.{rows-ranked}
use Rattle.col_index.proofs.optional_index.OptionalIndexSetRowId.ranks_are_undone.Goals as goal

pub returns : goal.returns
returns c = rows-ranked c.args.self.now.rows (rows_rise c.args.self.now c.rows_rise.ensures)
