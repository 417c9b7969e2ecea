use Rattle.std.proofs.Common.{◌≡◌, map, List}
use Rattle.col_program.specs.Outcome.{segment_table}
use Rattle.col_program.specs.Script.{Segment}
use Rattle.col_script.specs.Segments.{filled, segment_of}
use Rattle.col_outcome.proofs.MadeFileLemmas.{HaveMade}
use Rattle.col_model.specs.File.{StandsFor}
use Rattle.col_outcome.proofs.segments.segment_files.Given as goal

abbrev pub invariant-loop-place : goal.invariant-loop-place
invariant-loop-place l = (ss : List Segment) → map filled ss ≡ map segment_of l.segments →
    HaveMade StandsFor segment_table ss l.place l.files.items
