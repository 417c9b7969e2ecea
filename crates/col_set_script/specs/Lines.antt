-- What the lines of a set's script say.
use Rattle.std.specs.Prelude.{ℕ, List, Option}
use Rattle.serde_json.specs.Data.{Data}
use Rattle.col_common.specs.Reading.{◌>>=◌}
use Rattle.col_model.specs.File.{for_each}
use Rattle.col_program.specs.Values.{as_u32, as_list}
use Rattle.col_lines.specs.Lines.{call_of}
use Rattle.col_set_script.specs.SetScripts as model
use Rattle.col_set_script.specs.Steps.{lookup_of}
use Rattle.col_set_script.specs.declared.set_line.SetLine.{SetLine}
use Rattle.col_set_script.specs.declared.set_line.SetLine.TheVariants as lines

-- the line
abbrev pub set_line_of : SetLine → model.SetLine
set_line_of (lines.Segment n) = model.start n
set_line_of (lines.Record c) = model.call (call_of c)
set_line_of (lines.Drop ids) = model.drop ids.items
set_line_of lines.Compact = model.compact
set_line_of (lines.Find l) = model.look (lookup_of l)

-- the ids of a list of numbers
abbrev pub ids_as : Data → Option (List ℕ)
ids_as d = as_list d >>= for_each as_u32
