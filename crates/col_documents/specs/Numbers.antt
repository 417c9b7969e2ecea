-- Numbers of documents: whole ones, and those of a scale as whole ones. States docs/RULES.md,
-- Documents.
use Rattle.std.specs.Prelude.{ℕ, ℤ, pos, ◌+◌, ◌-◌, ◌*ℤ◌, ◌==◌, ◌&&◌, nat_lt, nat_le, Bool, List, [], ◌++◌, take, drop, length, position, replicate, cond, if◌then◌else◌, Option, Some, None, Ok, Err}
use Rattle.std.specs.Char.{is_ascii_digit}
use Rattle.std.specs.List.{list_all}
use Rattle.std.specs.Str.Parse.{signed_digits_value, starts_with_minus}
use Rattle.col_model.specs.ColumnType as types
use Rattle.col_model.specs.Limits.{is_of_type}
use Rattle.col_model.specs.Table.{number}
use Rattle.col_documents.specs.Values.{Taken}
use Rattle.col_documents.specs.declared.refusal.Reason.TheVariants.{Fraction, TooLarge}

-- '.'
abbrev pub point : ℕ
point = 46

-- '0'
abbrev pub zero_digit : ℕ
zero_digit = 48

-- how many nanoseconds a millisecond has
abbrev pub nanos_a_milli : ℕ
nanos_a_milli = 1000000

-- each is a digit
abbrev pub are_digits : List ℕ → Bool
are_digits s = list_all is_ascii_digit s

-- digits, at least one, with a minus in front of them or none
abbrev pub is_whole : List ℕ → Bool
is_whole s = let digits = drop (cond (starts_with_minus s) 1 0) s in
    nat_lt 0 (length digits) && are_digits digits

-- what stands before a place, and what behind it
abbrev pub parts_at : List ℕ → Option ℕ → List ℕ × List ℕ
parts_at s None = (s, [])
parts_at s (Some i) = (take i s, drop (i + 1) s)

-- what stands before the first point, and what behind it
abbrev pub parts_of : List ℕ → List ℕ × List ℕ
parts_of s = parts_at s (position (λ b. b == point) s)

-- the digits before and behind the point, and as many zeros as the scale has places more
abbrev pub scaled_digits : ℕ → List ℕ × List ℕ → List ℕ
scaled_digits scale (whole, fraction) =
    whole ++ fraction ++ replicate (scale - length fraction) zero_digit

-- a whole number, as i64 where it is one, else as u64
abbrev pub typed_number : ℤ → Taken
typed_number z =
    if is_of_type types.i64 (number z) then Ok (types.i64, number z)
    else if is_of_type types.u64 (number z) then Ok (types.u64, number z)
    else Err TooLarge

-- the number of these parts at a scale
abbrev pub number_of_parts : ℕ → List ℕ × List ℕ → Taken
number_of_parts scale p =
    if is_whole p.0 && are_digits p.1 && nat_le (length p.1) scale
    then typed_number (signed_digits_value 10 (scaled_digits scale p))
    else Err Fraction

-- the number that a numeral is, where so many digits may stand behind its point
abbrev pub number_at : ℕ → List ℕ → Taken
number_at scale s = number_of_parts scale (parts_of s)

-- a time in nanoseconds
abbrev pub time_of_nanos : ℤ → Taken
time_of_nanos z =
    if is_of_type types.datetime (number z) then Ok (types.datetime, number z) else Err TooLarge

-- the time of so many milliseconds
abbrev pub time_of_millis : List ℕ → Taken
time_of_millis s =
    if is_whole s then time_of_nanos (signed_digits_value 10 s *ℤ pos nanos_a_milli)
    else Err Fraction
