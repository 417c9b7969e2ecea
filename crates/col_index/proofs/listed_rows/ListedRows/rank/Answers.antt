use Rattle.std.proofs.Common.{ap, ◌∙◌}
use Rattle.col_model.specs.Index.{RowSet}
use Rattle.col_model.specs.Positions.{rank}
use Rattle.col_numbers.specs.Readers.{list_of}
use Rattle.col_index.proofs.RankedLemmas.{rank_past}
use Rattle.col_index.proofs.listed_rows.ListedRows.rank.Goals as goal

pub returns-then-row_id-self : goal.returns-then-row_id-self
returns-then-row_id-self c =
    c.num_vals.ensures ∙ rank_past (record { num_rows = c.self.inside.num_rows; rows = list_of c.self.inside.rows })
    c.args.row_id c.self.invariant.rows c.if-row_id-self.true
    ∙ ap (λ (s : RowSet). rank s.rows c.args.row_id) c.self.view_is
