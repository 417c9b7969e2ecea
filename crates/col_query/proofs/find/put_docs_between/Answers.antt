use Rattle.std.proofs.Common.{[], subst, ◌∙◌}
use Rattle.std.specs.Range.{range_inclusive_start, range_inclusive_end}
use Rattle.col_common.specs.Replacing.{Replaces}
use Rattle.col_column.specs.Columns.{content_seen}
use Rattle.col_model.specs.Lookup.{docs_between}
use Rattle.col_query.proofs.find.put_docs_between.Goals as goal

pub returns : goal.returns
returns g c =
    let a = c.args in
    let cell = g.T.HasAssociatedColumnType.cell in
    let xs = g.V.ColumnValues.values a.column.now.values in
    let ends = c.new.ensures in
    let same = c.lookups_are_those_of_cells.ensures [] a.column.now.shape xs (range_inclusive_start c.new.result)
    (range_inclusive_end c.new.result) a.selected.start a.selected.«end»
    ∙ (λ i. docs_between (content_seen [] cell a.column.now.shape xs) (cell (ends.start i))
    (cell (ends.«end» i)) a.selected.start a.selected.«end») in
    subst (Replaces c.get_docids_for_value_range.result c.get_docids_for_value_range.new.doc_ids.items) same
    c.get_docids_for_value_range.ensures.ok
