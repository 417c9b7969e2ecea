use Rattle.std.proofs.Common.{◌≡◌, ◌-◌}
use Rattle.col_indexer.specs.Shuffles.{StandsAtPick, picks_to_give}
use Rattle.col_indexer.proofs.shuffled.ShuffledRowIdsIterableRowId.next.Given as goal

-- none of the picks that were passed has a value
abbrev pub invariant-loop-at : goal.invariant-loop-at
invariant-loop-at l =
    record {
      stands : StandsAtPick l.self l.at;
      left : picks_to_give l.self l.at ≡ picks_to_give l.fn.self l.fn.at;
    }

abbrev pub decreases-loop-at : goal.decreases-loop-at
decreases-loop-at l = l.count - l.at.place
