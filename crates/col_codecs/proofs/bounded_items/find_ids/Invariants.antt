use Rattle.std.proofs.Common.{◌≡◌, ◌≤◌, ◌-◌, max}
use Rattle.col_codecs.specs.BoundedItems.{ids_by}
use Rattle.col_codecs.proofs.bounded_items.find_ids.Given as goal

-- what is found are the ids of the blocks so far; with reversed ends there is no block
abbrev pub invariant-loop-from : goal.invariant-loop-from
invariant-loop-from g l =
    let start = l.fn.ids.start in
    record {
      found : l.hits.items ≡ ids_by (g.I.BoundedItems.item l.items) l.low l.high start (l.from - start);
      begun : start ≤ l.from;
      within : l.from ≤ max start l.ids.end;
    }

abbrev pub decreases-loop-from : goal.decreases-loop-from
decreases-loop-from g l = l.ids.end - l.from
