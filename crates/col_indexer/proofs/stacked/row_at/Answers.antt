use Rattle.std.proofs.Common.{slice_get, ap, sym, ◌∙◌}
use Rattle.std.specs.List.{range_with_len}
use Rattle.col_model.specs.Positions.{rank}
use Rattle.col_index.proofs.CountLaws.{set_counts-rows}
use Rattle.col_indexer.proofs.UniformLemmas.{rows_as, rows-zeros, rows-ones}
use Rattle.col_indexer.proofs.stacked.row_at.Goals as goal

pub row_of-requires : goal.row_of-requires
row_of-requires c =
    let rows = rows_as c.args.num_rows c.args.column_index.now _ _ c.in-Optional.is
    (set_counts-rows c.in-Optional.index c.rows_rise.ensures) in
    ap (λ all. rank all c.args.from) (c.iter_non_null_docs.ensures ∙ sym rows) ∙ c.requires

pub returns-in-Empty : goal.returns-in-Empty
returns-in-Empty c =
    sym (ap (λ rows. slice_get rows c.args.place)
    (rows_as c.args.num_rows c.args.column_index.now _ _ c.in-Empty.is (rows-zeros c.args.num_rows)))

pub returns-in-Full : goal.returns-in-Full
returns-in-Full c =
    c.number_below.ensures
    ∙ ap (λ n. slice_get (range_with_len 0 n) c.args.place) c.from.ensures
    ∙ sym (ap (λ rows. slice_get rows c.args.place)
    (rows_as c.args.num_rows c.args.column_index.now _ _ c.in-Full.is (rows-ones c.args.num_rows)))

pub returns-in-Optional : goal.returns-in-Optional
returns-in-Optional c =
    c.row_of.ensures
    ∙ ap (λ rows. slice_get rows c.args.place) c.iter_non_null_docs.ensures
    ∙ sym (ap (λ rows. slice_get rows c.args.place) (rows_as c.args.num_rows c.args.column_index.now _ _
    c.in-Optional.is (set_counts-rows c.in-Optional.index c.rows_rise.ensures)))
