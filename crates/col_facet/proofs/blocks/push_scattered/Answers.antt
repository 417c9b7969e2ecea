use Rattle.std.proofs.Common.{◌++◌, ◌∙◌, ap}
use Rattle.col_index.specs.Offsets.{positions_of, positions_of_rows}
use Rattle.col_facet.proofs.blocks.push_scattered.Goals as goal
use Rattle.col_facet.proofs.DocLemmas.{positions-fit, positions-added}

pub push_positions-requires : goal.push_positions-requires
push_positions-requires g c =
    positions-fit c.args.column.now.shape (g.V.ColumnValues.values c.args.column.now.values) _ c.args.docs.now _
    (ap g.V.ColumnValues.values c.values.ensures) c.values_are_counted.ensures c.requires
    (c.as_slice.ensures.value ∙ c.in-Ok.ensures.ok.rows
    ∙ ap (λ rows. rows ++ positions_of (positions_of_rows c.args.column.now.shape c.args.docs.now)) c.new-row_ids.ensures.items)

pub returns-in-Ok : goal.returns-in-Ok
returns-in-Ok g c =
    positions-added c.push_positions.result c.args.column.now.shape (g.V.ColumnValues.values c.args.column.now.values) _
    c.args.values.now.items c.push_positions.new.values.items c.args.docs.now _
    (ap g.V.ColumnValues.values c.values.ensures) c.values_are_counted.ensures c.requires
    (c.as_slice.ensures.value ∙ c.in-Ok.ensures.ok.rows
    ∙ ap (λ rows. rows ++ positions_of (positions_of_rows c.args.column.now.shape c.args.docs.now)) c.new-row_ids.ensures.items)
    c.push_positions.ensures
