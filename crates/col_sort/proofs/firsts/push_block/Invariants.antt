use Rattle.std.proofs.Common.{◌≡◌, ◌+◌, map, drop}
use Rattle.std.specs.Prelude.{option_map}
use Rattle.col_sort_rows.specs.Keys.{added, rows_from}
use Rattle.col_sort.proofs.firsts.push_block.Given as goal

abbrev pub invariant-loop-at : goal.invariant-loop-at
invariant-loop-at g l =
    let ks = map (option_map (g.M.KeyOf.key l.keys)) l.firsts in
    added l.rows (rows_from l.segment_ord (l.start + l.at) (drop l.at ks)) ≡ added l.fn.rows (rows_from l.segment_ord l.start ks)
