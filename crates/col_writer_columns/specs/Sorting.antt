-- Documents in the order of their first values.
use Rattle.std.specs.Prelude.{ℕ, ◌+◌, ◌-◌, ◌^◌, ◌==◌, nat_le, Bool, List, map, filter, length, slice_get, slice_set, get_or, unwrap_or, if◌then◌else◌, Result, Ok}
use Rattle.std.specs.List.{list_any, zip, range_with_len}
use Rattle.col_model.specs.ColumnType.{ColumnType}
use Rattle.col_model.specs.ColumnType as types
use Rattle.col_model.specs.Sorted.{sorted_items}
use Rattle.col_model.specs.SortOrder.{docs_by}
use Rattle.col_model.specs.Written.{Record}
use Rattle.col_model.specs.Refusal.{Refusal, ◌>>=◌, refuse_if, doc_out_of_range}
use Rattle.col_writer_columns.specs.Values.{unsigned_of}

-- the documents 0 to n - 1 by the first values of some records, or a refusal where a record's
-- document isn't below n
abbrev pub sorted_docs : List Record → ℕ → Bool → Result (List ℕ) Refusal
sorted_docs records n reversed =
    refuse_if (list_any (λ r. nat_le n r.doc) records) doc_out_of_range
    >>= λ _. Ok (docs_by reversed records n)

-- ---- by keys

-- the key of a document's first value, 0 where it has none
unfoldable pub first_key : List (ℕ × ℕ) → ℕ → ℕ
first_key ps d = unwrap_or (slice_get (map (λ p. p.1) (filter (λ p. p.0 == d) ps)) 0) 0

-- the documents 0 to n - 1 by the first of their keys
abbrev pub docs_by_keys : Bool → List (ℕ × ℕ) → ℕ → List ℕ
docs_by_keys reversed ps n = sorted_items
    (λ a b. if reversed then nat_le (first_key ps b) (first_key ps a)
    else nat_le (first_key ps a) (first_key ps b)) (range_with_len 0 n)

-- the same, or a refusal
abbrev pub docs_after : List (ℕ × ℕ) → ℕ → Bool → Result (List ℕ) Refusal
docs_after ps n reversed =
    refuse_if (list_any (λ p. nat_le n p.0) ps) doc_out_of_range
    >>= λ _. Ok (docs_by_keys reversed ps n)

-- the numbers with a document's first key
abbrev pub with_first : List ℕ → ℕ → ℕ → List ℕ
with_first firsts d key = if get_or firsts d 0 == 0 then slice_set firsts d key else firsts

-- a number, or its place from the greatest u128 down
abbrev pub turned : Bool → ℕ → ℕ
turned reversed n = if reversed then 2 ^ 128 - 1 - n else n

-- the places of a list by their numbers, or by falling ones
abbrev pub docs_by_number : Bool → List ℕ → List ℕ
docs_by_number reversed ns = sorted_items
    (λ a b. if reversed then nat_le (get_or ns b 0) (get_or ns a 0)
    else nat_le (get_or ns a 0) (get_or ns b 0)) (range_with_len 0 (length ns))

-- ---- keys of values

-- of a number with a type and a code: how far it is above the least i64, from 1 on
abbrev pub number_key : ColumnType → ℕ → ℕ
number_key types.u64 code = unsigned_of code + 2 ^ 63 + 1
number_key types.i64 code = code + 1
number_key types.bytes code = code + 1
number_key types.str code = code + 1
number_key types.bool code = code + 1
number_key types.ip code = code + 1
number_key types.datetime code = code + 1

-- of numbers
unfoldable pub number_keys : List ColumnType → List ℕ → List ℕ
number_keys ts codes = map (λ (p : ColumnType × ℕ). number_key p.0 p.1) (zip ts codes)

-- of points in time, by their codes
unfoldable pub time_keys : List ℕ → List ℕ
time_keys codes = map (λ code. code + 1) codes

-- of texts, by the ordinals of their ids
unfoldable pub text_keys : List ℕ → List ℕ → List ℕ
text_keys ords ids = map (λ id. unwrap_or (slice_get ords id) 0 + 1) ids
