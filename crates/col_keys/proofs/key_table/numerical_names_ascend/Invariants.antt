use Rattle.std.proofs.Common.{◌≡◌, map, filter, drop, option_map}
use Rattle.col_common.specs.Ascending.{is_ascending}
use Rattle.col_model.specs.ColumnType.{is_numerical}
use Rattle.col_keys.specs.KeyTables.{keys_seen}
use Rattle.col_keys.proofs.KeyLemmas.{ascends_from, names_of}
use Rattle.col_keys.proofs.key_table.numerical_names_ascend.Given as goal

abbrev pub invariant-loop-entry : goal.invariant-loop-entry
invariant-loop-entry l = ascends_from (option_map (λ name. name.now) l.last) (names_of (drop l.entry-index l.keys))
    ≡ is_ascending (map (λ k. k.name) (filter (λ k. is_numerical k.column_type) (keys_seen l.keys)))
