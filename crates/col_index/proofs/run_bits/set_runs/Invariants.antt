use Rattle.std.proofs.Common.{◌≡◌, length, take, slice_index}
use Rattle.col_common.specs.Ascending.{differences}
use Rattle.col_model.specs.Index.{run_rows}
use Rattle.col_index.specs.Ranks.{HasFlags}
use Rattle.col_index.proofs.run_bits.set_runs.Given as goal

-- the bits are those of the rows before a run
abbrev pub invariant-loop-number : goal.invariant-loop-number
invariant-loop-number l =
    record {
      long : length l.words ≡ length l.fn.words;
      flags : HasFlags (take (slice_index l.before l.number) (run_rows l.starts.rows (differences l.before))) l.words;
    }
