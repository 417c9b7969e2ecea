use Rattle.col_index.proofs.RankLaws.{rows_rise}
use Rattle.col_index.proofs.SetLemmas.{holds_place}
use Rattle.col_index.proofs.listed_rows.ListedRows.is_at.Goals as goal

pub returns : goal.returns
returns c =
    let p = c.args.place in
    holds_place c.args.self.now.rows p.at p.next p.target (rows_rise c.args.self.now c.rows_rise.ensures)
    c.requires.place.count c.requires.place.first c.requires.row
