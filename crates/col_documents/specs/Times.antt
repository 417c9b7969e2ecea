-- Times as texts. States docs/RULES.md, Documents.
use Rattle.std.specs.Prelude.{ℕ, ◌==◌, List, Result, Ok, Err, if◌then◌else◌, ℤ}
use Rattle.std.specs.List.{list_any}
use Rattle.jiff.specs.Words.{parse_timestamp, parse_datetime}
use Rattle.jiff_core.specs.declared.error.Error.{Error}
use Rattle.jiff_fmt.specs.Temporal.{DateParts, TimeParts, parts_nanos}
use Rattle.col_documents.specs.Numbers.{time_of_nanos}
use Rattle.col_documents.specs.Values.{Taken}
use Rattle.col_documents.specs.declared.refusal.Reason.TheVariants as reasons

-- '[', in front of a zone's name
abbrev pub opening_bracket : ℕ
opening_bracket = 91

-- the time in UTC of a date and a time of day
abbrev pub time_of_parts : Result (DateParts × TimeParts) Error → Taken
time_of_parts (Ok (date, time)) = time_of_nanos (parts_nanos date time)
time_of_parts (Err e) = Err reasons.Form

-- a time, or a date alone, which is its day's start; in UTC, but for one that names a zone
abbrev pub civil_time : List ℕ → Taken
civil_time s =
    if list_any (λ b. b == opening_bracket) s then Err reasons.Form
    else time_of_parts (parse_datetime s)

-- the time that was read with its offset, else another one
abbrev pub time_of_instant : Result ℤ Error → Taken → Taken
time_of_instant (Ok z) other = time_of_nanos z
time_of_instant (Err e) other = other

-- the time that a text writes
abbrev pub time_of_text : List ℕ → Taken
time_of_text s = time_of_instant (parse_timestamp s) (civil_time s)
