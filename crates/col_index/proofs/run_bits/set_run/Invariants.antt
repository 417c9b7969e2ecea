use Rattle.std.proofs.Common.{◌≡◌, ◌+◌, ◌-◌, ◌≤◌, length, take}
use Rattle.col_common.specs.Ascending.{differences}
use Rattle.col_model.specs.Index.{run_rows}
use Rattle.col_index.specs.Ranks.{HasFlags}
use Rattle.col_index.proofs.run_bits.set_run.Given as goal

-- the bits are those of the rows before a row of the run
abbrev pub invariant-loop-inside : goal.invariant-loop-inside
invariant-loop-inside l =
    record {
      upto : l.inside ≤ l.run.len;
      long : length l.words ≡ length l.fn.words;
      flags : HasFlags (take (l.run.before + l.inside) (run_rows l.starts.rows (differences l.before))) l.words;
    }

abbrev pub decreases-loop-inside : goal.decreases-loop-inside
decreases-loop-inside l = l.run.len - l.inside
