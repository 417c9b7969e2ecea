use Rattle.col_report.proofs.EndLemmas.{end-of_each}
use Rattle.col_report.proofs.row_ends.EachRowRowEnds.end_at.Goals as goal

pub returns : goal.returns
returns c = end-of_each c.args.self.now.num_rows c.args.rank c.args.row c.requires.row
