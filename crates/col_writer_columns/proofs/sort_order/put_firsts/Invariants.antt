use Rattle.std.proofs.Common.{◌≡◌, map, take, true}
use Rattle.std.specs.List.{range_with_len, zip}
use Rattle.col_writer_columns.specs.Sorting.{first_key}
use Rattle.col_writer_columns.proofs.FirstLemmas.{are_above}
use Rattle.col_writer_columns.proofs.sort_order.put_firsts.Given as goal

abbrev pub invariant-loop-place : goal.invariant-loop-place
invariant-loop-place g l =
    let ps = take l.place (zip l.fn.docs (g.K.SortKeys.keys l.fn.keys)) in
    record {
      firsts : l.firsts ≡ map (first_key ps) (range_with_len 0 l.fn.num_docs);
      above : are_above ps ≡ true;
    }
