-- What the program answers, whatever its words ask for. States docs/RULES.md, The command line and
-- Statuses.
use Rattle.std.specs.Prelude.{◌≡◌, ℕ, ◌^◌, ◌==◌, ◌&&◌, ◌||◌, not, nat_lt, nat_le, Bool, true, false, List, [], ◌∷◌, ◌++◌, map, length, slice_index, codes, bytes_eq, if◌then◌else◌, Option, Some, None, Result, Ok, Err}
use Rattle.std.specs.Str.{all_ascii_digits}
use Rattle.std.specs.Str.Parse.{digits_value}
use Rattle.col_common.specs.Reading.{only_if}
use Rattle.col_program.specs.Check.{check_report}
use Rattle.col_program.specs.GenScript.{gen_script}
use Rattle.col_model.specs.Table.{Table}
use Rattle.col_model.specs.File.{Part, StandsFor, parts_of, part_of_table}
use Rattle.col_model.specs.Written.{written}
use Rattle.col_model.specs.Recording.{content_after_all}
use Rattle.col_model.specs.Order.{Order, stack, shuffle}
use Rattle.col_model.specs.Merge.{merged, row_counts}
use Rattle.col_model.specs.SortedOrder.{sorted_order}
use Rattle.col_model.specs.Category.{slot_of}
use Rattle.col_program.specs.Script.{Script, Segment, RowOrder, named, sorted, script_of}
use Rattle.col_program.specs.Report.{report_of}
use Rattle.col_model.specs.Refusal.{Refusal, ◌>>=◌, or_refuse, each_ok, invalid_data, status_of}

-- what goes to the output: a file that stands for a table, a text, or nothing
pub data Output : Type 0 where
  as_file : Table → Output
  as_text : List ℕ → Output
  nothing : Output

-- the bytes are such an output
abbrev pub IsOutput : Output → List ℕ → Type 0
IsOutput (as_file table) bytes = StandsFor table bytes
IsOutput (as_text text) bytes = bytes ≡ text
IsOutput nothing bytes = bytes ≡ []

-- what goes to the output, with the report's bytes, or the status of a refusal
pub data Outcome : Type 0 where
  done : Output → List ℕ → Outcome
  refused : ℕ → Outcome

-- The outcome is an output and a report, of which P holds.
abbrev pub IsDone : Outcome → (Output → List ℕ → Type 0) → Type 0
IsDone (done output lines) P = P output lines
IsDone (refused status) P = ⊥

-- the status that a program ends with, where nothing fails
abbrev pub outcome_status : Outcome → ℕ
outcome_status (done output lines) = 0
outcome_status (refused status) = status

-- ---- scripts

-- the table of a script's segment, or its first refusal
abbrev pub segment_table : Segment → Result Table Refusal
segment_table s = content_after_all [] s.calls >>= λ w. written w s.count None

-- the order over these segments, or its first refusal
abbrev pub order_over : Option RowOrder → List Part → Result Order Refusal
order_over None parts = Ok (stack (row_counts parts))
order_over (Some (named rows)) parts = Ok (shuffle (row_counts parts) rows)
order_over (Some (sorted k)) parts = sorted_order parts (slot_of k.name k.column_type) k.reversed

-- The merged table of the inputs followed by the script's segments, or the first refusal:
-- segments in order, inputs in order, the order of the rows, the merge.
abbrev pub script_table : List (List ℕ) → Script → Result Table Refusal
script_table inputs s = do
  tables ← each_ok segment_table s.segments
  parts ← each_ok (λ bytes. or_refuse (parts_of bytes) invalid_data) inputs
  let all = parts ++ map part_of_table tables
  order ← order_over s.order all
  merged all s.required order

-- what a merged table or a refusal comes to
abbrev pub with_report : Bool → Script → Result Table Refusal → Outcome
with_report short s (Ok t) = done (as_file t) (report_of t s.questions short)
with_report short s (Err e) = refused (status_of e)

-- the greatest length of a script, in bytes
abbrev pub max_script_length : ℕ
max_script_length = 16777216

-- what a script comes to; none is a bad one
abbrev pub script_outcome : Bool → List (List ℕ) → Option Script → Outcome
script_outcome short inputs None = refused 20
script_outcome short inputs (Some s) = with_report short s (script_table inputs s)

-- ---- words

-- `merge OUT [IN ..]`, with as many inputs, at most 65535
abbrev pub are_merge_words : List (List ℕ) → ℕ → Bool
are_merge_words [] inputs = false
are_merge_words (_ ∷ []) inputs = false
are_merge_words (merge ∷ out ∷ ins) inputs =
    bytes_eq merge (codes "merge") && (length ins == inputs) && nat_lt inputs (2 ^ 16)

-- The outcome where the words aren't those of `gen`: 2 if they aren't those of `merge` either, 21
-- for a longer script, 20 for a bad one, else the first refusal's status, or the table and its
-- report.
unfoldable pub outcome_of_merge : List (List ℕ) → List (List ℕ) → List ℕ → Outcome
outcome_of_merge words inputs script =
    let read = script_outcome false inputs (script_of script) in
    if not (are_merge_words words (length inputs)) then refused 2
    else if nat_lt max_script_length (length script) then refused 21
    else read

-- the number of decimal digits without a leading zero, below 2 ^ 64
abbrev pub number_word : List ℕ → Option ℕ
number_word s = only_if (all_ascii_digits s && nat_lt 0 (length s)
    && (nat_le (length s) 1 || not (slice_index s 0 == 48)) && nat_lt (digits_value 10 s) (2 ^ 64))
    (digits_value 10 s)

-- `gen OUT N` without inputs: the number
abbrev pub gen_number : List (List ℕ) → ℕ → Option ℕ
gen_number (gen ∷ out ∷ n ∷ []) inputs =
    if bytes_eq gen (codes "gen") && (inputs == 0) then number_word n else None
gen_number _ inputs = None

-- The outcome of `gen` and `merge`: `gen` reads the script of its number, and its report is short.
unfoldable pub outcome_of_script : List (List ℕ) → List (List ℕ) → List ℕ → Outcome
outcome_of_script words inputs script = by_number (gen_number words (length inputs))
  where
    by_number : Option ℕ → Outcome
    by_number None = outcome_of_merge words inputs script
    by_number (Some n) = script_outcome true [] (script_of (gen_script n))

-- `check IN`, with one input
abbrev pub are_check_words : List (List ℕ) → ℕ → Bool
are_check_words (check ∷ in_ ∷ []) inputs = bytes_eq check (codes "check") && (inputs == 1)
are_check_words _ inputs = false

-- what a check of a file comes to: 6 where the file has no key table, else a report alone
abbrev pub checked : Option Part → Outcome
checked None = refused 6
checked (Some p) = done nothing (check_report p)

-- The outcome of `check`, which has one input.
abbrev pub outcome_of_check : List (List ℕ) → Outcome
outcome_of_check (bytes ∷ []) = checked (parts_of bytes)
outcome_of_check _ = refused 2

-- The outcome of all words. A check reads no script.
unfoldable pub outcome : List (List ℕ) → List (List ℕ) → List ℕ → Outcome
outcome words inputs script =
    if are_check_words words (length inputs) then outcome_of_check inputs
    else outcome_of_script words inputs script
