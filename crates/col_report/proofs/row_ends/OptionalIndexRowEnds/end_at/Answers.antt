use Rattle.col_report.proofs.EndLemmas.{end-of_set}
use Rattle.col_report.proofs.row_ends.OptionalIndexRowEnds.end_at.Goals as goal

pub returns : goal.returns
returns c = end-of_set c.args.self.now c.rows_rise.ensures c.args.rank c.args.row c.requires.row
