-- Lines as pairs of numbers, and heights of values above a line.
use Rattle.std.specs.Prelude.{ℕ, ◌+◌, ◌%◌, ◌^◌, List, map}
use Rattle.col_model.specs.Line.{line}
use Rattle.col_model.specs.Training.{less_wrapped}
use Rattle.col_model.specs.U64List.{LinearParams as LineAndWidth}
use Rattle.col_codecs.specs.declared.line.Line.{Line}

-- slope and intercept
abbrev pub line_seen : Line → ℕ × ℕ
line_seen l = (l.slope, l.intercept)

-- a line and the width of the offsets from it
abbrev pub with_width : Line → ℕ → LineAndWidth
with_width l w = record { slope = l.slope; intercept = l.intercept; offset_width = w }

-- an offset at its position, above the line
abbrev pub raised : ℕ → ℕ → ℕ × ℕ → ℕ
raised slope intercept p = (line slope intercept p.0 + p.1) % 2 ^ 64

-- how far a value at its position lies above the line from 0 on, and that above a mark,
-- modulo 2 ^ 64
abbrev pub distance : ℕ → ℕ → ℕ × ℕ → ℕ
distance slope mark p = less_wrapped (less_wrapped p.1 (line slope 0 p.0)) mark

-- the same of each value
abbrev pub distances : ℕ → ℕ → List (ℕ × ℕ) → List ℕ
distances slope mark ps = map (distance slope mark) ps
