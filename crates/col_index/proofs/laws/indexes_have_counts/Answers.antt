use Rattle.std.proofs.Common.{sym}
use Rattle.col_index.proofs.CountLaws.{set_counts-rows, set_counts-start, offset_counts-rows, offset_counts-starts}
use Rattle.col_index.proofs.RepeatLaws.{old-without_repeats}
use Rattle.col_index.proofs.laws.indexes_have_counts.Goals as goal

pub returns : goal.returns
returns c =
    record {
      set_rows = set_counts-rows;
      set_starts = set_counts-start;
      offset_rows = offset_counts-rows;
      offset_starts = offset_counts-starts;
      old_starts = λ o old. sym (old-without_repeats o old);
    }
