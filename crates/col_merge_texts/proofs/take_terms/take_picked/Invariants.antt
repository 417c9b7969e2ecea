use Rattle.std.proofs.Common.{drop, take}
use Rattle.col_merge_texts.specs.Ids.{AreIds, places_of}
use Rattle.col_merge_texts.specs.Taking.{IsPicked, AreNoted}
use Rattle.col_merge_texts.proofs.take_terms.take_picked.Given as goal

abbrev pub invariant-loop-row : goal.invariant-loop-row
invariant-loop-row l = record {
  noted : AreNoted l.bytes_columns (IsPicked l.bytes_columns l.order.addresses)
      (IsPicked l.bytes_columns (drop l.row l.order.addresses)) l.noted;
  ids : AreIds l.noted.ids (places_of l.bytes_columns (take l.row l.order.addresses)) l.ids.items;
}
