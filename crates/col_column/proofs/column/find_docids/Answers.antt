use Rattle.std.proofs.Common.{◌≡◌, ◌∙◌}
use Rattle.col_indexer.specs.Indexes.{shape_of}
use Rattle.col_model.specs.Positions.{rows_in}
use Rattle.col_values.specs.Values.{is_between}
use Rattle.col_column.specs.Columns.{rows_by}
use Rattle.col_column.specs.Lookups.{docs_passing}
use Rattle.col_column.proofs.LookupLemmas.{lookup, found_rise, found_from, found_inside}
use Rattle.col_column.proofs.column.find_docids.Goals as goal

pub select_batch_in_place-requires-clause-rising : goal.select_batch_in_place-requires-clause-rising
select_batch_in_place-requires-clause-rising g c =
    let rows = c.docid_range_to_rowids-row_ids in
    rw c.in_ok-get_row_ids_between.ensures
    (found_rise (is_between g.T.PartialOrd.partial_cmp _ _) (g.V.ColumnValues.values c.args.values.now) rows.result.start rows.result.end)

pub select_batch_in_place-requires-clause-inside : goal.select_batch_in_place-requires-clause-inside
select_batch_in_place-requires-clause-inside g c =
    let rows = c.docid_range_to_rowids-row_ids in
    rw c.in_ok-get_row_ids_between.ensures
    (found_inside (is_between g.T.PartialOrd.partial_cmp _ _) (g.V.ColumnValues.values c.args.values.now)
    rows.result.start rows.result.end (shape_of c.args.index.now) c.requires)

pub select_batch_in_place-requires-clause-start : goal.select_batch_in_place-requires-clause-start
select_batch_in_place-requires-clause-start g c =
    let rows = c.docid_range_to_rowids-row_ids in
    rw (c.in_ok-get_row_ids_between.ensures, ← rows.ensures.start)
    (found_from (is_between g.T.PartialOrd.partial_cmp _ _) (g.V.ColumnValues.values c.args.values.now) rows.result.start rows.result.end)

pub returns : goal.returns
returns g c =
    let rows = c.docid_range_to_rowids-row_ids in
    let test = is_between g.T.PartialOrd.partial_cmp c.into_inner-low.result.0 c.into_inner-low.result.1 in
    let xs = g.V.ColumnValues.values c.args.values.now in
    let s = shape_of c.args.index.now in
    let docs = c.args.docs in
    c.select_batch_in_place.ensures
    ∙ (let e : rows_in s c.get_row_ids_between.new.hits.items ≡ docs_passing test (rows_by s xs) docs.start docs.«end» =
    rw (c.in_ok-get_row_ids_between.ensures, rows.ensures.start, rows.ensures.«end»)
    (lookup test s xs docs.start docs.«end» c.requires) in e)
    ∙ (λ i. docs_passing (is_between g.T.PartialOrd.partial_cmp (c.into_inner-low.ensures.start i)
    (c.into_inner-low.ensures.«end» i)) (rows_by s xs) docs.start docs.«end»)
