use Rattle.std.proofs.Common.{drop, length, ◌+◌}
use Rattle.col_merge_texts.specs.Taking.{TakesRow}
use Rattle.col_merge_texts.proofs.IdLemmas.{TakesIds}
use Rattle.col_merge_texts.proofs.take_terms.take_row.Given as goal

abbrev pub invariant-loop-ord : goal.invariant-loop-ord
invariant-loop-ord l = record {
  takes : TakesRow l.bytes_columns l.order.addresses (drop (l.row + 1) l.order.addresses) l.segment l.ords l.noted;
  ids : TakesIds l.bytes_columns l.order.addresses l.row l.segment l.ords l.noted l.ids.items;
}

abbrev pub decreases-loop-ord : goal.decreases-loop-ord
decreases-loop-ord l = length l.ords
