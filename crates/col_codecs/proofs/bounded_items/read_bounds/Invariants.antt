use Rattle.std.proofs.Common.{◌≡◌, ◌≤◌, ◌<◌, ◌-◌, ◌*◌, length, map}
use Rattle.std.specs.List.{range_with_len}
use Rattle.col_codecs.specs.ColumnStats.{collected_of}
use Rattle.col_codecs.specs.BlockBounds.{Enclose}
use Rattle.col_codecs.proofs.bounded_items.read_bounds.Given as goal

-- the bounds are those of whole blocks, until the last one is read
abbrev pub invariant-loop-from : goal.invariant-loop-from
invariant-loop-from g l = record {
  within : l.from ≤ l.count;
  collected : l.collector ≡ collected_of (map (g.I.BoundedItems.item l.items) (range_with_len 0 l.from));
  placed : l.from < l.count → l.from ≡ 1024 * length l.bounds.items;
  enclosed : Enclose l.bounds.items (g.I.BoundedItems.item l.items) l.from;
}

abbrev pub decreases-loop-from : goal.decreases-loop-from
decreases-loop-from g l = l.count - l.from
