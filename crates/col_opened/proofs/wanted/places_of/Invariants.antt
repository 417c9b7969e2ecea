use Rattle.std.proofs.Common.{◌≡◌, ◌≤◌, ◌++◌, drop}
use Rattle.col_opened.specs.Chosen.{places_from}
use Rattle.col_opened.proofs.wanted.places_of.Given as goal

abbrev pub invariant-loop-is_wanted : goal.invariant-loop-is_wanted
invariant-loop-is_wanted l =
    (l.places.items ++ places_from l.next (drop l.is_wanted-index l.wanted) ≡ places_from 0 l.wanted)
    × (l.next ≤ l.is_wanted-index)
