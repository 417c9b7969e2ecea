use Rattle.std.proofs.Common.{◌≡◌, ◌==◌, drop}
use Rattle.std.specs.List.{sum_by}
use Rattle.col_model.specs.Keys.{total_length}
use Rattle.col_keys.specs.KeyTables.{all_keyed}
use Rattle.col_keys.proofs.key_table.take_all.Given as goal

abbrev pub invariant-loop-entry : goal.invariant-loop-entry
invariant-loop-entry l =
    (sum_by (λ k. k.num_bytes) (drop l.entry-index l.keys) == l.left)
    ≡ (total_length (all_keyed l.keys) == l.num_bytes)
