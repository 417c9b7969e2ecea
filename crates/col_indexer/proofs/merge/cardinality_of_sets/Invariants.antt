use Rattle.std.proofs.Common.{◌≡◌, ◌==◌, true, map, take}
use Rattle.std.specs.List.{list_all}
use Rattle.col_model.specs.Positions.{picked_counts}
use Rattle.col_index.specs.Indexes.{shape_of}
use Rattle.col_indexer.proofs.merge.cardinality_of_sets.Given as goal

-- each of the rows that were passed has one value
abbrev pub invariant-loop-addr : goal.invariant-loop-addr
invariant-loop-addr l =
    list_all (λ c. c == 1)
    (take l.addr-index (picked_counts (map shape_of l.indexes) l.order.addresses)) ≡ true
