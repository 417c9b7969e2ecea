use Rattle.std.proofs.Common.{◌≡◌, drop}
use Rattle.col_merge_texts.specs.Items.{lists_of}
use Rattle.col_sort_rows.specs.Keys.{added, rows_of_all}
use Rattle.col_sort.specs.Texts.{all_term_keys}
use Rattle.col_sort.proofs.segment_texts.push_texts.Given as goal

abbrev pub invariant-loop-segment : goal.invariant-loop-segment
invariant-loop-segment l =
    added l.rows (rows_of_all l.segment (all_term_keys (drop l.segment l.texts) (lists_of (drop l.segment l.places))))
    ≡ added l.fn.rows (rows_of_all 0 (all_term_keys l.texts (lists_of l.places)))
