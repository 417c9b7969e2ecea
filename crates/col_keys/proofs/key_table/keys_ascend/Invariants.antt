use Rattle.std.proofs.Common.{◌≡◌, ◌-◌, map, drop}
use Rattle.col_common.specs.Ascending.{is_ascending}
use Rattle.col_model.specs.Keys.{key_bytes}
use Rattle.col_keys.specs.KeyTables.{key_seen, keys_seen}
use Rattle.col_keys.proofs.key_table.keys_ascend.Given as goal

abbrev pub invariant-loop-i : goal.invariant-loop-i
invariant-loop-i l =
    is_ascending (map (λ k. key_bytes (key_seen k.key)) (drop (l.i - 1) l.keys))
    ≡ is_ascending (map key_bytes (keys_seen l.keys))
