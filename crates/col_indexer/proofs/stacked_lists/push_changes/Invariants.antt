use Rattle.std.proofs.Common.{◌≡◌, ◌+◌, ◌++◌, map, drop}
use Rattle.col_index.specs.Offsets.{changes_behind}
use Rattle.col_numbers.specs.Readers.{list_of}
use Rattle.col_indexer.proofs.stacked_lists.push_changes.Given as goal

-- what was appended and what is left are all changes
abbrev pub invariant-loop-at : goal.invariant-loop-at
invariant-loop-at l =
    l.starts.items ++ map (λ offset. l.before + offset) (changes_behind l.last (drop l.at (list_of l.offsets)))
    ≡ l.initial.starts.items ++ map (λ offset. l.before + offset) (changes_behind 0 (list_of l.offsets))
