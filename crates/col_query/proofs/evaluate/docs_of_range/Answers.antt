use Rattle.std.proofs.Common.{bytes_eq, ◌&&◌, sym, ◌∙◌}
use Rattle.std.specs.List.{list_any}
use Rattle.col_dynamic.specs.Dynamic.{content_of}
use Rattle.col_model.specs.ColumnType.{same_type}
use Rattle.col_model.specs.Lookup.{is_between, row_of}
use Rattle.col_program.specs.Queries.{range, cell_of, holds}
use Rattle.col_query.specs.Sets.{IsSetOf}
use Rattle.col_query.proofs.LeafLemmas.{ok_then, found-rows, range-open, range-none}
use Rattle.col_query.proofs.evaluate.docs_of_range.Goals as goal
use Rattle.col_questions.specs.Steps.{end_of}
use Rattle.col_types.specs.Kinds.{kind_of}

pub returns-in-Some : goal.returns-in-Some
returns-in-Some g c =
    λ t opened.
    let a = c.args in
    let kind = kind_of a.column_type in
    let lo = end_of a.lo.now in
    let hi = end_of a.hi.now in
    let content = content_of c.in-Some.column.now in
    let n = c.num_docs.result in
    let same = opened.row_count ∙ sym c.num_docs.ensures in
    let e = c.in-Some.ensures.column t opened in
    ok_then (IsSetOf n (λ d. list_any (is_between (cell_of lo) (cell_of hi)) (row_of content d)))
    (IsSetOf t.row_count (holds t (range a.name.now kind lo hi))) c.docs_between.result
    (λ s is. range-open t a.name.now kind lo hi n content s same c.requires e is)
    (c.docs_between.ensures (found-rows t.row_count
    (λ c. bytes_eq c.name a.name.now && same_type c.column_type kind) t.columns content opened.rows e ∙ same))

pub returns-in-None : goal.returns-in-None
returns-in-None g c =
    λ t opened.
    let a = c.args in
    range-none t a.name.now (kind_of a.column_type) (end_of a.lo.now) (end_of a.hi.now) c.no_column.result c.requires
    (c.in-None.ensures.column t opened) (c.no_column.ensures t.row_count)
