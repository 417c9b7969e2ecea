use Rattle.std.proofs.Common.{◌≡◌, ◌∙◌, ap, arith}
use Rattle.std.specs.Prelude.{max}
use Rattle.col_index.specs.Indexes.{shape_of}
use Rattle.col_model.specs.Positions.{start_in}
use Rattle.col_merge_column.proofs.CountLemmas.{start-total}
use Rattle.col_merge_column.proofs.cell_counts.num_in_rows.Goals as goal

pub returns : goal.returns
returns c =
    let s = shape_of c.args.column_index.now in
    let n = c.args.num_rows in
    let same : max 0 n ≡ n = omega arith in
    c.docid_range_to_rowids.ensures.end ∙ ap (start_in s) same ∙ start-total n s c.requires
