use Rattle.std.proofs.Common.{◌≡◌, take}
use Rattle.col_merge_texts.specs.Items.{terms_of}
use Rattle.col_merge_texts.specs.Noting.{ids_of, no_ids_of}
use Rattle.col_merge_texts.proofs.noted_terms.no_ids.Given as goal

abbrev pub invariant-loop-column : goal.invariant-loop-column
invariant-loop-column l =
    ids_of l.ids.items ≡ no_ids_of (terms_of (take l.column-index l.bytes_columns))
