use Rattle.std.proofs.Common.{ap, ◌∙◌}
use Rattle.col_common.specs.Reading.{only_if}
use Rattle.col_model.specs.Index.{RowSet}
use Rattle.col_model.specs.Positions.{rank}
use Rattle.col_numbers.specs.Readers.{list_of}
use Rattle.col_index.specs.Sets.{holds}
use Rattle.col_index.proofs.RankedLemmas.{missed_past}
use Rattle.col_index.proofs.listed_rows.ListedRows.rank_if_exists.Goals as goal

pub returns-then-row_id-self : goal.returns-then-row_id-self
returns-then-row_id-self c =
    missed_past (record { num_rows = c.self.inside.num_rows; rows = list_of c.self.inside.rows }) c.args.row_id
    c.self.invariant.rows c.if-row_id-self.true
    ∙ ap (λ (s : RowSet). only_if (holds s.rows c.args.row_id) (rank s.rows c.args.row_id)) c.self.view_is
