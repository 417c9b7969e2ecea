use Rattle.std.proofs.Common.{◌≡◌, ◌++◌, take}
use Rattle.col_index.specs.Sets.{held, held_ranks}
use Rattle.col_index.proofs.optional_walks.push_ranks_by.Given as goal

abbrev pub invariant-loop-doc : goal.invariant-loop-doc
invariant-loop-doc g l =
    let rows = g.R.RankNear.rows l.rows in
    let front = take l.doc-index l.docs in
    record {
      place : g.R.RankNear.IsPlace l.rows l.place;
      docs : l.docs_out.items ≡ l.fn.docs_out.items ++ held rows front;
      rows : l.rows_out.items ≡ l.fn.rows_out.items ++ held_ranks rows front;
    }
