use Rattle.std.proofs.Common.{◌≡◌, ◌+◌, ◌<◌, ◌^◌, length, slice_get, IfSome, sym, ap, ◌∙◌, subst, arith}
use Rattle.col_common.specs.Ascending.{differences}
use Rattle.col_model.specs.Positions.{rank, rows_with_value}
use Rattle.col_index.specs.Walked.{rows_found, IsRanked32}
use Rattle.col_index.proofs.IndexedLaws.{set_of_counts, counts-are_rows}
use Rattle.col_index.proofs.OldRowLemmas.{valued_next}
use Rattle.col_index.proofs.WalkLemmas.{row-behind, row-few}
use Rattle.col_index.proofs.row_by_row.RowByRow.row_from.Goals as goal

pub returns-in-Listed-clause-behind : goal.returns-in-Listed-clause-behind
returns-in-Listed-clause-behind c =
    let s = c.in-Listed.rows.now in
    let same : s.rows ≡ rows_found c.args.self = sym (ap rows_found c.in-Listed.is) in
    subst (λ rows. IfSome c.row_at.result (λ row. IsRanked32 rows (row + 1) (c.args.place + 1))) same
    (row-behind s c.rows_rise.ensures (omega (arith, c.num_docs-num_docs.ensures, c.num_docs-num_docs.type_inv))
    c.args.place c.row_at.result c.row_at.ensures)

pub returns-in-Listed-clause-few : goal.returns-in-Listed-clause-few
returns-in-Listed-clause-few c =
    row-few c.in-Listed.rows.now c.rows_rise.ensures
    (omega (arith, c.num_docs-num_docs.ensures, c.num_docs-num_docs.type_inv))
    c.args.place c.row_at.result c.row_at.ensures

pub returns-in-ByOffsets-clause-row : goal.returns-in-ByOffsets-clause-row
returns-in-ByOffsets-clause-row c =
    let counts = differences c.in-ByOffsets.index.now in
    let same : rows_with_value counts ≡ rows_found c.args.self = sym (ap rows_found c.in-ByOffsets.is) in
    c.next_non_null_doc.ensures
    ∙ valued_next counts c.args.from
    ∙ ap (λ rows. slice_get rows (rank rows c.args.from)) same
    ∙ ap (slice_get (rows_found c.args.self)) c.requires

pub returns-in-ByOffsets-clause-behind : goal.returns-in-ByOffsets-clause-behind
returns-in-ByOffsets-clause-behind c =
    let counts = differences c.in-ByOffsets.index.now in
    let same : rows_with_value counts ≡ rows_found c.args.self = sym (ap rows_found c.in-ByOffsets.is) in
    let small : length counts < 2 ^ 32 =
    omega (arith, c.num_docs-num_docs-in-ByOffsets.ensures, c.num_docs-num_docs-in-ByOffsets.type_inv) in
    subst (λ rows. IfSome c.next_non_null_doc.result (λ row. IsRanked32 rows (row + 1) (c.args.place + 1))) same
    (row-behind (set_of_counts counts) (counts-are_rows counts) small c.args.place c.next_non_null_doc.result
    (c.next_non_null_doc.ensures ∙ valued_next counts c.args.from
    ∙ ap (slice_get (rows_with_value counts)) (ap (λ rows. rank rows c.args.from) same ∙ c.requires)))

pub returns-in-ByOffsets-clause-few : goal.returns-in-ByOffsets-clause-few
returns-in-ByOffsets-clause-few c =
    let counts = differences c.in-ByOffsets.index.now in
    let same : rows_with_value counts ≡ rows_found c.args.self = sym (ap rows_found c.in-ByOffsets.is) in
    let small : length counts < 2 ^ 32 =
    omega (arith, c.num_docs-num_docs-in-ByOffsets.ensures, c.num_docs-num_docs-in-ByOffsets.type_inv) in
    row-few (set_of_counts counts) (counts-are_rows counts) small c.args.place c.next_non_null_doc.result
    (c.next_non_null_doc.ensures ∙ valued_next counts c.args.from
    ∙ ap (slice_get (rows_with_value counts)) (ap (λ rows. rank rows c.args.from) same ∙ c.requires))
