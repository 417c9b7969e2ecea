-- Scripts: segments to be made, required columns, an order and questions. States docs/RULES.md,
-- Scripts.
use Rattle.std.specs.Prelude.{ℕ, ◌==◌, ◌&&◌, nat_lt, nat_le, Bool, true, false, List, [], ◌∷◌, map, filter, filter_map, find, length, slice_get, codes, bytes_eq, Option, Some, None}
use Rattle.std.specs.List.{slice_split}
use Rattle.std.specs.Str.{is_utf8}
use Rattle.serde_json.specs.Data.{Data}
use Rattle.serde_json.specs.Read.{read}
use Rattle.serde_json.specs.Find.{as_number, as_str, as_bool, as_i64}
use Rattle.col_common.specs.Reading.{◌>>=◌, only_if}
use Rattle.col_model.specs.ColumnType.{ColumnType, type_name, has_terms}
use Rattle.col_model.specs.Table.{Cell}
use Rattle.col_model.specs.Recording.{Call, recorded, typed, tied}
use Rattle.col_model.specs.Merge.{Required}
use Rattle.col_model.specs.File.{for_each}
use Rattle.col_program.specs.Queries.{Query, query_of}
use Rattle.col_program.specs.Values.{all_types, as_list, as_u32, as_type, as_cell}

-- a segment to be made: its documents, and its record calls in order
pub record Segment : Type 0 where
  pub count : ℕ
  pub calls : List Call

-- a lookup: column, ends of the values, documents
pub record Find : Type 0 where
  pub name : List ℕ
  pub column_type : ColumnType
  pub lo : Cell
  pub hi : Cell
  pub from : ℕ
  pub to : ℕ

-- what is asked of the merged table: the documents of a lookup, how often each cell of a column
-- stands, the documents of a query
pub data Question : Type 0 where
  lookup : Find → Question
  facet : List ℕ → ColumnType → Question
  query : Query → Question

-- the column by whose values rows are sorted, rising or falling
pub record SortKey : Type 0 where
  pub name : List ℕ
  pub column_type : ColumnType
  pub reversed : Bool

-- the rows, by segment and row; or all of them, sorted
pub data RowOrder : Type 0 where
  named : List (ℕ × ℕ) → RowOrder
  sorted : SortKey → RowOrder

-- without an order the merge is a stack
pub record Script : Type 0 where
  pub segments : List Segment
  pub required : List Required
  pub order : Option RowOrder
  pub questions : List Question

-- what a line says
pub data Line : Type 0 where
  segment : ℕ → Line
  call : Call → Line
  require : Required → Line
  order : RowOrder → Line
  ask : Question → Line

-- ["segment",n]
abbrev pub segment_line : List Data → Option Line
segment_line (n ∷ []) = as_u32 n >>= λ n. Some (segment n)
segment_line _ = None

-- ["type",name,t]
abbrev pub type_line : List Data → Option Line
type_line (name ∷ t ∷ []) = as_str name >>= λ name. as_type t >>= λ t.
    Some (call (typed name t false))
type_line _ = None

-- ["sorted",name,t], of str or bytes
abbrev pub sorted_line : List Data → Option Line
sorted_line (name ∷ t ∷ []) = as_str name >>= λ name. as_type t >>= λ t.
    only_if (has_terms t) (call (typed name t true))
sorted_line _ = None

-- ["tie",name,start]
abbrev pub tie_line : List Data → Option Line
tie_line (name ∷ start ∷ []) = as_str name >>= λ name. as_number start >>= as_i64 >>= λ z.
    Some (call (tied name z))
tie_line _ = None

-- [t,d,name,v]
abbrev pub value_line : ColumnType → List Data → Option Line
value_line t (d ∷ name ∷ v ∷ []) = as_u32 d >>= λ d. as_str name >>= λ name.
    as_cell t v >>= λ cell. Some (call (recorded d name t cell))
value_line t _ = None

-- ["require",name,t]
abbrev pub require_line : List Data → Option Line
require_line (name ∷ t ∷ []) = as_str name >>= λ name. as_type t >>= λ t.
    Some (require (record { name = name; column_type = t }))
require_line _ = None

-- [s,r]
abbrev pub as_address : Data → Option (ℕ × ℕ)
as_address d = as_list d >>= pair
  where
    pair : List Data → Option (ℕ × ℕ)
    pair (s ∷ r ∷ []) = as_u32 s >>= λ s. as_u32 r >>= λ r. Some (s, r)
    pair _ = None

-- ["order",[[s,r],..]]
abbrev pub order_line : List Data → Option Line
order_line (rows ∷ []) =
    as_list rows >>= for_each as_address >>= λ rows. Some (order (named rows))
order_line _ = None

-- ["sort",name,t,reversed]
abbrev pub sort_line : List Data → Option Line
sort_line (name ∷ t ∷ reversed ∷ []) = as_str name >>= λ name. as_type t >>= λ t.
    as_bool reversed >>= λ reversed.
    Some (order (sorted (record { name = name; column_type = t; reversed = reversed })))
sort_line _ = None

-- ["find",name,t,lo,hi,from,to]
abbrev pub find_line : List Data → Option Line
find_line (name ∷ t ∷ lo ∷ hi ∷ from ∷ to ∷ []) = do
  name ← as_str name
  t ← as_type t
  lo ← as_cell t lo
  hi ← as_cell t hi
  from ← as_u32 from
  to ← as_u32 to
  Some (ask (lookup (record { name = name; column_type = t; lo = lo; hi = hi; from = from; to = to })))
find_line _ = None

-- ["facet",name,t]
abbrev pub facet_line : List Data → Option Line
facet_line (name ∷ t ∷ []) = as_str name >>= λ name. as_type t >>= λ t. Some (ask (facet name t))
facet_line _ = None

-- ["query",q]
abbrev pub query_line : List Data → Option Line
query_line (q ∷ []) = query_of q >>= λ q. Some (ask (query q))
query_line _ = None

-- what reads the items behind the first word of a line, by that word
abbrev pub Shapes : Type 0
Shapes = List (List ℕ × (List Data → Option Line))

-- the shapes of a script's lines
abbrev pub shapes : Shapes
shapes = (codes "segment", segment_line) ∷ (codes "type", type_line)
    ∷ (codes "sorted", sorted_line) ∷ (codes "tie", tie_line)
    ∷ (codes "require", require_line) ∷ (codes "order", order_line)
    ∷ (codes "sort", sort_line) ∷ (codes "find", find_line) ∷ (codes "facet", facet_line) ∷ (codes "query", query_line)
    ∷ map (λ t. (type_name t, value_line t)) all_types

-- the line of an array that begins with the word of one of the shapes
abbrev pub line_among : Shapes → List Data → Option Line
line_among known [] = None
line_among known (d ∷ ds) = do
  word ← as_str d
  shape ← find (λ shape. bytes_eq shape.0 word) known
  shape.1 ds

-- the line that a piece spells: a JSON text of one of these shapes
unfoldable pub line_spelled_by : Shapes → List ℕ → Option Line
line_spelled_by known piece =
    only_if (is_utf8 piece) piece >>= read >>= as_list >>= line_among known

-- the line that a piece spells
abbrev pub line_spelled : List ℕ → Option Line
line_spelled piece = line_spelled_by shapes piece

-- the pieces between line feeds that aren't empty
abbrev pub pieces_of : List ℕ → List (List ℕ)
pieces_of bytes = filter (λ piece. nat_lt 0 (length piece)) (slice_split (λ b. b == 10) bytes)

-- the record calls before the first segment line, and the segments, each with the calls up to the
-- next one
abbrev pub segments_in : List Line → List Call × List Segment
segments_in [] = ([], [])
segments_in (l ∷ ls) = with_line l (segments_in ls)
  where
    with_line : Line → List Call × List Segment → List Call × List Segment
    with_line (segment n) p = ([], record { count = n; calls = p.0 } ∷ p.1)
    with_line (call c) p = (c ∷ p.0, p.1)
    with_line (require r) p = p
    with_line (order o) p = p
    with_line (ask q) p = p

-- the required column of a line
abbrev pub required_in : Line → Option Required
required_in (require r) = Some r
required_in (segment n) = None
required_in (call c) = None
required_in (order o) = None
required_in (ask q) = None

-- the order of a line
abbrev pub order_in : Line → Option RowOrder
order_in (order o) = Some o
order_in (segment n) = None
order_in (call c) = None
order_in (require r) = None
order_in (ask q) = None

-- the question of a line
abbrev pub question_in : Line → Option Question
question_in (ask q) = Some q
question_in (segment n) = None
question_in (call c) = None
question_in (require r) = None
question_in (order o) = None

-- The script of some lines: each record call has a segment line before it, and at most one line
-- is an order.
abbrev pub script_of_lines : List Line → Option Script
script_of_lines ls =
    let orders = filter_map order_in ls in
    only_if ((length (segments_in ls).0 == 0) && nat_le (length orders) 1)
    (record {
      segments = (segments_in ls).1;
      required = filter_map required_in ls;
      order = slice_get orders 0;
      questions = filter_map question_in ls;
    })

-- The script that the bytes spell.
unfoldable pub script_of : List ℕ → Option Script
script_of bytes = for_each line_spelled (pieces_of bytes) >>= script_of_lines
