use Rattle.std.proofs.Common.{◌^◌, arith}
use Rattle.std.proofs.lemmas.Option.{get_or_from_slice_get, slice_get_within}
use Rattle.col_index.specs.MultiValues.{value_counts_of}
use Rattle.col_numbers.specs.Readers.{list_of}
use Rattle.col_index.proofs.RankLaws.{below_at}
use Rattle.col_indexer.proofs.ChangeLemmas.{some-stored, last-stored}
use Rattle.col_indexer.proofs.stacked.last_start.Goals as goal

pub overflow_sub-num_vals : goal.overflow_sub-num_vals
overflow_sub-num_vals c =
    omega (
      arith,
      some-stored (value_counts_of c.args.index.now) _ c.get_start_index_column-starts.ensures.counts,
      c.num_vals.ensures,
    )

pub get_val-requires : goal.get_val-requires
get_val-requires c =
    omega (
      arith,
      some-stored (value_counts_of c.args.index.now) _ c.get_start_index_column-starts.ensures.counts,
      c.num_vals.ensures,
    )

pub overflow_cast-result : goal.overflow_cast-result
overflow_cast-result c =
    let starts = list_of c.get_start_index_column-starts.result.now in
    let within = slice_get_within starts _ c.get_val.result c.get_val.ensures in
    let small = below_at (2 ^ 32) starts _ c.get_start_index_column-starts.ensures.fits within in
    omega (arith, small, get_or_from_slice_get starts _ c.get_val.result 0 c.get_val.ensures)

pub returns : goal.returns
returns c =
    last-stored (value_counts_of c.args.index.now) _ c.num_vals.result c.get_val.result
    c.get_start_index_column-starts.ensures.counts c.num_vals.ensures c.get_val.ensures
