use Rattle.std.proofs.Common.{◌≡◌, ◌+◌, ◌++◌, map, length, drop}
use Rattle.col_file.specs.Handles.{listed}
use Rattle.col_opened.specs.Chosen.{chosen}
use Rattle.col_opened.specs.Opened.{seen_listed}
use Rattle.col_opened.proofs.wanted.wanted_entries.Given as goal

abbrev pub invariant-loop-name : goal.invariant-loop-name
invariant-loop-name g l = (goal.iterator-loop-name g).can_next l.name-iterator
    × (goal.iterator-loop-name g).is_finite l.name-iterator
    × (map seen_listed l.found.items ++ chosen (drop l.place l.wanted) l.name-iterator
    ≡ chosen l.wanted (map listed l.reader.keys.entries))
    × (l.place + length l.name-iterator ≡ length l.wanted)
