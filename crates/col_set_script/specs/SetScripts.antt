-- Scripts of a set: segments, drops, compactions and lookups, line by line.
use Rattle.std.specs.Prelude.{ℕ, List, [], ◌∷◌, ◌++◌, find, codes, bytes_eq, Option, Some, None}
use Rattle.std.specs.Str.{is_utf8}
use Rattle.serde_json.specs.Data.{Data}
use Rattle.serde_json.specs.Read.{read}
use Rattle.serde_json.specs.Find.{as_str}
use Rattle.col_common.specs.Reading.{◌>>=◌, only_if}
use Rattle.col_model.specs.ColumnType.{ColumnType}
use Rattle.col_model.specs.File.{for_each}
use Rattle.col_model.specs.Recording.{Call}
use Rattle.col_model.specs.Table.{Cell}
use Rattle.col_program.specs.Script.{Segment, shapes, line_among, pieces_of}
use Rattle.col_program.specs.Script as script
use Rattle.col_program.specs.Values.{as_u32, as_list, as_type, as_cell}

-- a lookup: a column's name and type, and the ends of the values
pub record Lookup : Type 0 where
  pub name : List ℕ
  pub column_type : ColumnType
  pub lo : Cell
  pub hi : Cell

-- what a line says
pub data SetLine : Type 0 where
  start : ℕ → SetLine
  call : Call → SetLine
  drop : List ℕ → SetLine
  compact : SetLine
  look : Lookup → SetLine

-- what a line of other scripts says, where it is one of a segment
abbrev pub of_line : script.Line → Option SetLine
of_line (script.segment n) = Some (start n)
of_line (script.call c) = Some (call c)
of_line (script.require r) = None
of_line (script.order rows) = None
of_line (script.ask q) = None

-- ["drop",[ids]]
abbrev pub drop_line : List Data → Option SetLine
drop_line (ids ∷ []) = as_list ids >>= for_each as_u32 >>= λ ids. Some (drop ids)
drop_line _ = None

-- ["compact"]
abbrev pub compact_line : List Data → Option SetLine
compact_line [] = Some compact
compact_line _ = None

-- ["find",name,t,lo,hi]
abbrev pub look_line : List Data → Option SetLine
look_line (name ∷ t ∷ lo ∷ hi ∷ []) = do
  name ← as_str name
  t ← as_type t
  lo ← as_cell t lo
  hi ← as_cell t hi
  Some (look (record { name = name; column_type = t; lo = lo; hi = hi }))
look_line _ = None

-- what reads the items behind the first word of a line, by that word
abbrev pub SetShape : Type 0
SetShape = List ℕ × (List Data → Option SetLine)

-- the shapes of lines that only a set's scripts have
abbrev pub set_shapes : List SetShape
set_shapes = (codes "drop", drop_line) ∷ (codes "compact", compact_line)
    ∷ (codes "find", look_line) ∷ []

-- the line of this shape; where there is none, a line of a segment as other scripts have it
abbrev pub line_shaped : Option SetShape → Data → List Data → Option SetLine
line_shaped (Some shape) d ds = shape.1 ds
line_shaped None d ds = line_among shapes (d ∷ ds) >>= of_line

-- the line of an array, by the word that it begins with
abbrev pub set_line_among : List Data → Option SetLine
set_line_among [] = None
set_line_among (d ∷ ds) =
    as_str d >>= λ word. line_shaped (find (λ shape. bytes_eq shape.0 word) set_shapes) d ds

-- the line that a piece spells
unfoldable pub set_line_spelled : List ℕ → Option SetLine
set_line_spelled piece = only_if (is_utf8 piece) piece >>= read >>= as_list >>= set_line_among

-- what is done, in order
pub data SetStep : Type 0 where
  add : Segment → SetStep
  drop_rows : List ℕ → SetStep
  merge_all : SetStep
  find_rows : Lookup → SetStep

-- some steps behind the segment that is current
abbrev pub closed : Option Segment → List SetStep → List SetStep
closed None steps = steps
closed (Some s) steps = add s ∷ steps

-- with one record call more
abbrev pub with_call : Call → Segment → Segment
with_call c s = record { count = s.count; calls = s.calls ++ c ∷ [] }

-- The steps of lines, where a segment is current or none is. It is added when a line comes that is
-- no record line, or the end; a record line where none is current makes no script.
abbrev pub steps_from : Option Segment → List SetLine → Option (List SetStep)
steps_from o [] = Some (closed o [])
steps_from o (start n ∷ ls) =
    steps_from (Some (record { count = n; calls = [] })) ls >>= λ steps. Some (closed o steps)
steps_from o (call c ∷ ls) = o >>= λ s. steps_from (Some (with_call c s)) ls
steps_from o (drop ids ∷ ls) =
    steps_from None ls >>= λ steps. Some (closed o (drop_rows ids ∷ steps))
steps_from o (compact ∷ ls) = steps_from None ls >>= λ steps. Some (closed o (merge_all ∷ steps))
steps_from o (look l ∷ ls) =
    steps_from None ls >>= λ steps. Some (closed o (find_rows l ∷ steps))

-- The steps that the bytes spell; none where they are no script.
unfoldable pub set_script_of : List ℕ → Option (List SetStep)
set_script_of bytes = for_each set_line_spelled (pieces_of bytes) >>= steps_from None
