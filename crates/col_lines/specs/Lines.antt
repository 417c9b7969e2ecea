-- What lines say.
use Rattle.std.specs.Prelude.{true, false, [], ◌∷◌, codes, String, string_bytes}
use Rattle.std.specs.declared.alloc.Global.{Global}
use Rattle.col_model.specs.ColumnType.{ColumnType}
use Rattle.col_model.specs.ColumnType as types
use Rattle.col_model.specs.Merge.{Required}
use Rattle.col_model.specs.Recording.{recorded, typed, tied}
use Rattle.col_model.specs.Recording as recording
use Rattle.col_program.specs.Script as script
use Rattle.col_program.specs.Script.{Shapes, segment_line, type_line, sorted_line, tie_line, require_line, order_line, sort_line, find_line, facet_line, query_line}
use Rattle.col_types.specs.Kinds.{kind_of}
use Rattle.col_types.specs.declared.column_type.ColumnType as declared_types
use Rattle.col_questions.specs.Questions.{question_of}
use Rattle.col_questions.specs.Values.{typed_cell}
use Rattle.col_lines.specs.RowOrders.{row_order_of}
use Rattle.col_lines.specs.declared.term_type.TermType.{TermType}
use Rattle.col_lines.specs.declared.term_type.TermType.TheVariants as terms
use Rattle.col_lines.specs.declared.line.Call.{Call}
use Rattle.col_lines.specs.declared.line.Call.TheVariants as calls
use Rattle.col_lines.specs.declared.line.Line.{Line}
use Rattle.col_lines.specs.declared.line.Line.TheVariants as lines

-- the type
abbrev pub terms_type : TermType → ColumnType
terms_type terms.Bytes = types.bytes
terms_type terms.Str = types.str

-- the call
abbrev pub call_of : Call → recording.Call
call_of (calls.Value doc name value) =
    recorded doc (string_bytes name) (typed_cell value).0 (typed_cell value).1
call_of (calls.Type name t) = typed (string_bytes name) (kind_of t) false
call_of (calls.Sorted name t) = typed (string_bytes name) (terms_type t) true
call_of (calls.Tie name start) = tied (string_bytes name) start

-- the required column
abbrev pub required_column_of : String Global × declared_types.ColumnType → Required
required_column_of p = record { name = string_bytes p.0; column_type = kind_of p.1 }

-- the line
abbrev pub script_line_of : Line → script.Line
script_line_of (lines.Segment n) = script.segment n
script_line_of (lines.Record c) = script.call (call_of c)
script_line_of (lines.Require name t) = script.require (required_column_of (name, t))
script_line_of (lines.Order o) = script.order (row_order_of o)
script_line_of (lines.Ask q) = script.ask (question_of q)

-- the shapes of lines but those of values
abbrev pub control_shapes : Shapes
control_shapes = (codes "segment", segment_line) ∷ (codes "type", type_line)
    ∷ (codes "sorted", sorted_line) ∷ (codes "tie", tie_line)
    ∷ (codes "require", require_line) ∷ (codes "order", order_line)
    ∷ (codes "sort", sort_line) ∷ (codes "find", find_line) ∷ (codes "facet", facet_line)
    ∷ (codes "query", query_line) ∷ []
