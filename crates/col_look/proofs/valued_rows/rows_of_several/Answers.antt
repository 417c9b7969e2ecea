-- There is a start more than rows with a value.
use Rattle.std.proofs.Common.{◌≡◌, ◌-◌, length, sym, ◌∙◌, ap, arith}
use Rattle.col_model.specs.Index.{offset_counts}
use Rattle.col_model.specs.Positions.{rows_with_value}
use Rattle.col_index.specs.MultiValues.{value_counts_of}
use Rattle.col_look.proofs.ValuedLemmas.{starts-valued, valued-few}
use Rattle.col_look.proofs.valued_rows.rows_of_several.Goals as goal

pub count_rows-requires : goal.count_rows-requires
count_rows-requires c =
    let few = valued-few (value_counts_of c.args.index.now) in
    omega (arith, ap length c.iter_non_null_docs.ensures, few, c.num_docs-count.ensures)

pub overflow_sub-result : goal.overflow_sub-result
overflow_sub-result c =
    let more = starts-valued (offset_counts c.in-MultiValueIndexV2.index) in
    omega (arith, ap length c.start_index_column.ensures.counts, more, c.num_vals.ensures)

pub returns-in-MultiValueIndexV2 : goal.returns-in-MultiValueIndexV2
returns-in-MultiValueIndexV2 c =
    let more = starts-valued (offset_counts c.in-MultiValueIndexV2.index) in
    let own : c.num_vals.result - 1 ≡ length (rows_with_value (offset_counts c.in-MultiValueIndexV2.index)) =
    omega (arith, ap length c.start_index_column.ensures.counts, more, c.num_vals.ensures) in
    own ∙ ap (λ i. length (rows_with_value (value_counts_of i))) (sym c.in-MultiValueIndexV2.is)
