-- What a run leaves in its two sinks, the output and the report.
use Rattle.std.specs.Prelude.{◌≡◌, ◌<◌, ℕ, List, length, take}
use Rattle.col_common.specs.Outside.{SeenSink, Appends}
use Rattle.col_program.specs.Outcome.{Output, IsOutput}

-- The output grew by what goes to it, as a file that stands for the table, and the report by these
-- lines.
pub record Merged
    (output output' report report' : SeenSink) (made : Output) (lines : List ℕ) : Type 0 where
  pub file : List ℕ
  pub stands : IsOutput made file
  pub in_output : Appends output output' file
  pub in_report : Appends report report' lines

-- The output grew by the front of what goes to it, and the report by the front of these lines, but
-- only behind all that goes to the output.
pub record CutShort
    (output output' report report' : SeenSink) (made : Output) (lines : List ℕ) : Type 0 where
  pub file : List ℕ
  pub stands : IsOutput made file
  pub of_file : ℕ
  pub of_lines : ℕ
  pub in_output : Appends output output' (take of_file file)
  pub in_report : Appends report report' (take of_lines lines)
  pub in_order : of_file < length file → of_lines ≡ 0

-- The output grew by what goes to it.
pub record WholeFile (output output' : SeenSink) (made : Output) (lines : List ℕ) : Type 0 where
  pub file : List ℕ
  pub stands : IsOutput made file
  pub in_output : Appends output output' file
