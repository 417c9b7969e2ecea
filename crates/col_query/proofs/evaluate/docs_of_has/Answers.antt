use Rattle.std.proofs.Common.{nat_lt, length, sym, ◌∙◌}
use Rattle.col_dynamic.specs.Dynamic.{content_of}
use Rattle.col_model.specs.ColumnType.{same_type}
use Rattle.col_model.specs.Lookup.{row_of}
use Rattle.col_program.specs.Queries.{has, holds}
use Rattle.col_query.specs.Sets.{IsSetOf}
use Rattle.col_query.proofs.LeafLemmas.{ok_then, found-rows, has-open, has-none}
use Rattle.col_query.proofs.evaluate.docs_of_has.Goals as goal
use Rattle.col_types.specs.Kinds.{kind_of}
use Rattle.std.proofs.Common.{bytes_eq, ◌&&◌}

pub returns-in-Some : goal.returns-in-Some
returns-in-Some g c =
    λ t opened.
    let a = c.args in
    let kind = kind_of a.column_type in
    let content = content_of c.in-Some.column.now in
    let n = c.num_docs.result in
    let same = opened.row_count ∙ sym c.num_docs.ensures in
    let e = c.in-Some.ensures.column t opened in
    ok_then (IsSetOf n (λ d. nat_lt 0 (length (row_of content d)))) (IsSetOf t.row_count (holds t (has a.name.now kind)))
    c.docs_with_value.result (λ s is. has-open t a.name.now kind n content s same e is)
    (c.docs_with_value.ensures (found-rows t.row_count
    (λ c. bytes_eq c.name a.name.now && same_type c.column_type kind) t.columns content opened.rows e ∙ same))

pub returns-in-None : goal.returns-in-None
returns-in-None g c =
    λ t opened.
    has-none t c.args.name.now (kind_of c.args.column_type) c.no_column.result (c.in-None.ensures.column t opened)
    (c.no_column.ensures t.row_count)
