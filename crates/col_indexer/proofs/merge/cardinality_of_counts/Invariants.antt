use Rattle.std.proofs.Common.{◌≡◌, map, take}
use Rattle.col_model.specs.Positions.{picked_counts}
use Rattle.col_indexer.specs.Counted.{tightest_of}
use Rattle.col_index.specs.Indexes.{shape_of}
use Rattle.col_index.specs.Versions.{cardinality_of}
use Rattle.col_indexer.proofs.TightestLemmas.{AreFew}
use Rattle.col_indexer.proofs.merge.cardinality_of_counts.Given as goal

-- none of the rows that were passed has more than one value
abbrev pub invariant-loop-addr : goal.invariant-loop-addr
invariant-loop-addr l =
    let passed = take l.addr-index (picked_counts (map shape_of l.indexes) l.order.addresses) in
    record {
      few : AreFew passed;
      tight : cardinality_of l.tightest ≡ tightest_of passed;
    }
