use Rattle.std.proofs.Common.{◌≡◌, ◌-◌}
use Rattle.col_common.specs.Reading.{items}
use Rattle.col_model.specs.Keys.{keyed_length}
use Rattle.col_keys.specs.KeyTables.{all_keyed}
use Rattle.col_keys.proofs.ItemLemmas.{with_front}
use Rattle.col_keys.proofs.key_table.parse_keyed_lengths.Given as goal

abbrev pub invariant-loop : goal.invariant-loop
invariant-loop l =
    with_front (all_keyed l.found.items) (items keyed_length (l.count - l.counter) l.rest)
    ≡ items keyed_length l.count l.bytes
