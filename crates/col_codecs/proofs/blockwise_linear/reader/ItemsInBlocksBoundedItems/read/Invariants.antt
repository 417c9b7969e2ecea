use Rattle.std.proofs.Common.{◌≡◌, ◌-◌, ◌≤◌, length, map, take}
use Rattle.std.specs.List.{range_with_len}
use Rattle.col_codecs.specs.ColumnStats.{stats_seen}
use Rattle.col_codecs.proofs.BlockRangeLemmas.{own_item}
use Rattle.col_codecs.proofs.blockwise_linear.reader.ItemsInBlocksBoundedItems.read.Given as goal

-- the front of the output are the items so far
abbrev pub invariant-loop-filled : goal.invariant-loop-filled
invariant-loop-filled l =
    record {
      room : length l.output ≡ length l.fn.output;
      within : l.filled ≤ length l.output;
      held : take l.filled l.output
          ≡ map (own_item (stats_seen l.self.stats) l.self.blocks.now l.self.bytes.now)
          (range_with_len l.start l.filled);
    }

abbrev pub decreases-loop-filled : goal.decreases-loop-filled
decreases-loop-filled l = length l.output - l.filled
