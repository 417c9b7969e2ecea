use Rattle.std.proofs.Common.{◌≡◌, ◌-◌, drop}
use Rattle.col_common.specs.Ascending.{all_adjacent}
use Rattle.col_csv_import.proofs.HeadingLemmas.{headings_rise}
use Rattle.col_csv_import.proofs.headings.are_keys.Given as goal

abbrev pub invariant-loop-place : goal.invariant-loop-place
invariant-loop-place l =
    all_adjacent headings_rise (drop (l.place - 1) l.headings) ≡ all_adjacent headings_rise l.headings
