use Rattle.std.proofs.Common.{slice_get, sym, ap, ◌∙◌, arith}
use Rattle.std.proofs.lemmas.Option.{slice_get_past}
use Rattle.col_index.proofs.RankLaws.{rows_rise, next_row-rank}
use Rattle.col_index.proofs.optional_index.OptionalIndex.next_non_null_doc.Goals as goal

pub returns-then-rank-num_non_nulls : goal.returns-then-rank-num_non_nulls
returns-then-rank-num_non_nulls c =
    let s = c.args.self.now in
    sym (next_row-rank s.rows c.args.target (rows_rise s c.rows_rise.ensures)
    ∙ ap (slice_get s.rows) (sym c.rank-rank.ensures) ∙ c.select.ensures)

pub returns-else-rank-num_non_nulls : goal.returns-else-rank-num_non_nulls
returns-else-rank-num_non_nulls c =
    let s = c.args.self.now in
    sym (next_row-rank s.rows c.args.target (rows_rise s c.rows_rise.ensures)
    ∙ ap (slice_get s.rows) (sym c.rank-rank.ensures) ∙ slice_get_past s.rows c.rank-rank.result (omega arith))
