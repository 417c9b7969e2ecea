use Rattle.std.proofs.Common.{◌≡◌, take}
use Rattle.col_merge_texts.specs.Items.{lists_of}
use Rattle.col_merge_texts.specs.Noting.{ids_of, ords_by}
use Rattle.col_merge_texts.proofs.noted_terms.all_ords.Given as goal

abbrev pub invariant-loop-column_ids : goal.invariant-loop-column_ids
invariant-loop-column_ids l =
    lists_of l.ords.items ≡ ords_by l.mapping (ids_of (take l.column_ids-index l.ids))
