-- What is read of a script: what the lines so far say, and what those to come make of it.
use Rattle.std.specs.Prelude.{◌≡◌, ℕ, ◌==◌, ◌&&◌, nat_le, nat_lt, Bool, true, false, List, [], ◌∷◌, ◌++◌, map, filter, filter_map, length, slice_get, Option, Some, None, option_map}
use Rattle.std.specs.Borrow.{Bor}
use Rattle.std.specs.Option.{option_map_or, option_to_list}
use Rattle.std.specs.List.{slice_split}
use Rattle.col_common.specs.Reading.{◌>>=◌, only_if}
use Rattle.col_model.specs.File.{for_each}
use Rattle.col_model.specs.Merge.{Required}
use Rattle.col_model.specs.Recording.{Call}
use Rattle.col_program.specs.Script.{Question, Line, RowOrder, segments_in, required_in, order_in, question_in, line_spelled}
use Rattle.col_program.specs.Script as script
use Rattle.col_questions.specs.Questions.{question_of}
use Rattle.col_lines.specs.Lines.{required_column_of}
use Rattle.col_lines.specs.RowOrders.{row_order_of}
use Rattle.col_script.specs.Segments.{Filled, filled, segment_of, after_calls}
use Rattle.col_script.specs.declared.draft.Draft.{Draft}
use Rattle.col_script.specs.declared.script.Script.{Script}

-- a script whose segments are filled
pub record Summary : Type 0 where
  pub segments : List Filled
  pub required : List Required
  pub order : Option RowOrder
  pub questions : List Question

-- a script with its segments filled
abbrev pub summary : script.Script → Summary
summary s = record {
  segments = map filled s.segments;
  required = s.required;
  order = s.order;
  questions = s.questions;
}

-- what a script that was read holds
abbrev pub summary_of : Script → Summary
summary_of s = record {
  segments = map segment_of s.segments.items;
  required = map required_column_of s.required.items;
  order = option_map row_order_of s.order;
  questions = map question_of s.questions.items;
}

-- the segments hold what their record calls come to; all else is the same
pub record IsScript (expected : script.Script) (found : Script) : Type 0 where
  pub segments : map filled expected.segments ≡ map segment_of found.segments.items
  pub required : expected.required ≡ map required_column_of found.required.items
  pub order : expected.order ≡ option_map row_order_of found.order
  pub questions : expected.questions ≡ map question_of found.questions.items

-- the script, where there is one
abbrev pub IsScriptOf : Option script.Script → Option Script → Type 0
IsScriptOf expected None = expected ≡ None
IsScriptOf None (Some found) = ⊥
IsScriptOf (Some expected) (Some found) = IsScript expected found

-- what lines say: the segments before the last one, the last one, and the rest
pub record DraftParts : Type 0 where
  pub earlier : List Filled
  pub last : Option Filled
  pub required : List Required
  pub orders : List RowOrder
  pub questions : List Question

-- before any line
abbrev pub no_parts : DraftParts
no_parts = record { earlier = []; last = None; required = []; orders = []; questions = [] }

-- the parts that a draft holds
abbrev pub draft_parts : Draft → DraftParts
draft_parts d = record {
  earlier = map segment_of d.earlier.items;
  last = option_map segment_of d.last;
  required = map required_column_of d.required.items;
  orders = option_to_list (option_map row_order_of d.order);
  questions = map question_of d.questions.items;
}

-- the last segment with more calls
abbrev pub last_with : Option Filled → List Call → List Filled
last_with None calls = []
last_with (Some f) calls = after_calls f calls ∷ []

-- each call has a segment before it
abbrev pub has_segment : Option Filled → List Call → Bool
has_segment None calls = length calls == 0
has_segment (Some f) calls = true

-- what these come to, where there is at most one order
abbrev pub summary_from : Bool → List Filled → List Required → List RowOrder → List Question
    → Option Summary
summary_from has segments required orders questions = only_if (has && nat_le (length orders) 1)
    (record { segments = segments; required = required; order = slice_get orders 0; questions = questions })

-- what some parts and the lines behind them come to
unfoldable pub summary_with : DraftParts → List Line → Option Summary
summary_with p ls =
    let more = segments_in ls in
    summary_from (has_segment p.last more.0)
    (p.earlier ++ (last_with p.last more.0 ++ map filled more.1))
    (p.required ++ filter_map required_in ls) (p.orders ++ filter_map order_in ls)
    (p.questions ++ filter_map question_in ls)

-- what some parts and the pieces behind them come to, among which empty ones count for nothing
abbrev pub summary_behind : DraftParts → List (List ℕ) → Option Summary
summary_behind p pieces =
    for_each line_spelled (filter (λ piece. nat_lt 0 (length piece)) pieces) >>= summary_with p

-- what comes of it, where a line was taken
abbrev pub if_taken : Bool → Option Summary → Option Summary
if_taken true s = s
if_taken false s = None

-- the line is in the new draft; where it isn't taken, no script goes on with it
abbrev pub TakesLine : Line → Draft → Draft → Bool → Type 0
TakesLine line old new taken = (ls : List Line)
    → summary_with (draft_parts old) (line ∷ ls)
    ≡ if_taken taken (summary_with (draft_parts new) ls)

-- the draft comes to the same with one piece less behind it;
-- where it isn't taken, that is no script
abbrev pub TakesPiece : List ℕ → Draft → Draft → Bool → Type 0
TakesPiece piece old new taken = (pieces : List (List ℕ))
    → summary_behind (draft_parts old) (piece ∷ pieces)
    ≡ if_taken taken (summary_behind (draft_parts new) pieces)

-- the pieces of what is left
abbrev pub pieces_left : Option (Bor (List ℕ)) → List (List ℕ)
pieces_left rest = option_map_or (λ bytes. slice_split (λ b. b == 10) bytes.now) rest []
