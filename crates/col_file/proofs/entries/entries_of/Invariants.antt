use Rattle.std.proofs.Common.{◌≡◌, length}
use Rattle.std.specs.Vec.Iter.{into_iter_items, into_iter_len}
use Rattle.col_file.specs.Entries.{entries_seen}
use Rattle.col_file.proofs.PlaceLemmas.{IsPlaced}
use Rattle.col_file.proofs.entries.entries_of.Given as goal

abbrev pub invariant-loop-column : goal.invariant-loop-column
invariant-loop-column l = IsPlaced (entries_seen l.entries.items) l.start (into_iter_items l.column-iterator) l.fn.columns.items
    × (into_iter_len l.column-iterator ≡ length (into_iter_items l.column-iterator))
