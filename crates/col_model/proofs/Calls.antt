-- Worked rows of single calls, computed.
use Rattle.std.specs.Prelude.{◌≡◌, ℕ, List, [], ◌∷◌, Some, None, Result, Ok, refl, map, codes, pos, true, false, Bool, ◌++◌, ◌^◌, ◌-◌, length, replicate, flat_map, option_map, Option}
use Rattle.std.specs.Int.{w64, to_le_bytes}
use Rattle.std.specs.List.{range_with_len}
use Rattle.col_model.proofs.OnLiterals.{col_model_on_literals}
use Rattle.col_model.specs.ColumnType as types
use Rattle.col_model.specs.Table.{number, full, optional}
use Rattle.col_model.specs.Recording.{recorded, content_after_all}
use Rattle.col_model.specs.Refusal.{Refusal, ◌>>=◌}
use Rattle.col_model.specs.SortOrder.{sort_order}
use Rattle.col_model.specs.CodeHits.{exact, next, after_last, code_hit, ranges_before}
use Rattle.col_model.specs.AddressList.{AddressFooter, code_count, address_footer_at, address_footer, ranges_at, header_at}
use Rattle.col_common.specs.VInt.{vint_bytes}
use Rattle.col_model.specs.Index.{RowSet, row_set, runs_of, are_in_runs, counts, offset_counts_v1}
use Rattle.col_model.specs.Version.{version_of, version_bytes}
use Rattle.col_model.specs.Images.{images64, is_image_of_bool, is_image_of_u32}
use Rattle.col_model.specs.U64List.{bitpacked_bytes}
use Rattle.col_model.specs.Positions.{value_positions, index_range, range_positions, rows_at, starts_of, rows_with_value, next_row}
use Rattle.col_model.specs.Order.{stack, shuffle, picks}
use Rattle.col_common.specs.Ascending.{differences}

abbrev order_of : Bool → Result (List ℕ) Refusal
order_of reversed =
    content_after_all [] (recorded 0 (codes "a") types.i64 (number (pos 5))
    ∷ recorded 2 (codes "a") types.i64 (number (pos 3)) ∷ recorded 3 (codes "a") types.i64 (number (pos 5)) ∷ [])
    >>= λ w. sort_order w (codes "a") 4 reversed

sorted_docs : order_of false ≡ Ok (1 ∷ 2 ∷ 0 ∷ 3 ∷ [])
unfolding col_model_on_literals
sorted_docs = refl

sorted_back : order_of true ≡ Ok (0 ∷ 3 ∷ 2 ∷ 1 ∷ [])
unfolding col_model_on_literals
sorted_back = refl

-- start offsets 0, 2, 2, 2, 2, 2, 2, 4
abbrev spaced : List ℕ
spaced = differences (0 ∷ 2 ∷ 2 ∷ 2 ∷ 2 ∷ 2 ∷ 2 ∷ 4 ∷ [])

positions : map (value_positions spaced) (0 ∷ 5 ∷ 6 ∷ []) ≡ (0, 2) ∷ (2, 2) ∷ (2, 4) ∷ []
positions = refl

selected_rows : rows_at (differences (0 ∷ 10 ∷ 12 ∷ 15 ∷ 22 ∷ 23 ∷ [])) (10 ∷ 11 ∷ 15 ∷ 20 ∷ 21 ∷ 22 ∷ []) ≡ 1 ∷ 3 ∷ 4 ∷ []
selected_rows = refl

starts : starts_of (3 ∷ 0 ∷ 10 ∷ 20 ∷ []) ≡ 0 ∷ 3 ∷ 13 ∷ 33 ∷ []
unfolding starts_of
starts = refl

with_values : rows_with_value (0 ∷ 2 ∷ 1 ∷ 0 ∷ []) ≡ 1 ∷ 2 ∷ []
with_values = refl

range_of : range_positions (0 ∷ 2 ∷ 0 ∷ 0 ∷ 0 ∷ 2 ∷ 0 ∷ []) 3 6 ≡ (2, 4)
range_of = refl

missing : picks (shuffle (2 ∷ []) ((0, 2) ∷ [])) (2 ∷ []) ≡ None
unfolding col_model_on_literals
missing = refl

stacked : picks (stack (2 ∷ 0 ∷ 1 ∷ [])) (2 ∷ 0 ∷ 1 ∷ []) ≡ Some ((0, 0) ∷ (0, 1) ∷ (2, 0) ∷ [])
unfolding col_model_on_literals
stacked = refl

hits : map (code_hit ((2, 4) ∷ [])) (0 ∷ 3 ∷ 5 ∷ []) ≡ next 1 ∷ exact 2 ∷ after_last ∷ []
unfolding col_model_on_literals
hits = refl

codes_17 : code_count ((2, 4) ∷ (1000, 1012) ∷ (1260, 1260) ∷ []) ≡ 17
codes_17 = refl

before_ranges : map (ranges_before ((2, 4) ∷ (9, 9) ∷ [])) (0 ∷ 3 ∷ 5 ∷ 9 ∷ 10 ∷ []) ≡ 0 ∷ 0 ∷ 1 ∷ 1 ∷ 2 ∷ []
before_ranges = refl

-- a row, and a number past the rows
index_ranges : map (index_range (3 ∷ 0 ∷ 2 ∷ [])) (0 ∷ 1 ∷ 2 ∷ 3 ∷ []) ≡ (0, 3) ∷ (3, 3) ∷ (3, 5) ∷ (0, 0) ∷ []
index_ranges = refl

next_rows : map (next_row (2 ∷ 5 ∷ [])) (0 ∷ 2 ∷ 3 ∷ 6 ∷ []) ≡ Some 2 ∷ Some 2 ∷ Some 5 ∷ None ∷ []
next_rows = refl

-- ---- footers of addresses

-- eight zero bytes, least, greatest, count, the width of the greatest code, and ranges
abbrev footer_bytes_of : ℕ → ℕ → ℕ → ℕ → List (List ℕ) → List ℕ
footer_bytes_of least greatest count width ranges =
    replicate 8 0 ++ vint_bytes least ++ vint_bytes greatest ++ vint_bytes count ++ width
    ∷ vint_bytes (length ranges) ++ flat_map (λ r. r) ranges

-- a range that begins so far above the one before, and its length less one
abbrev range_bytes : ℕ → ℕ → List ℕ
range_bytes above rest = vint_bytes above ++ vint_bytes rest

abbrev two_to_four : AddressFooter
two_to_four = record { least = 2; greatest = 4; count = 2; code_width = 2; ranges = (2, 4) ∷ [] }

footer_whole : address_footer (footer_bytes_of 2 4 2 2 (range_bytes 2 2 ∷ [])) ≡ Some two_to_four
unfolding col_model_on_literals
footer_whole = refl

footer_front : address_footer_at (footer_bytes_of 2 4 2 2 (range_bytes 2 2 ∷ []) ++ 7 ∷ []) ≡ Some (two_to_four, 7 ∷ [])
unfolding col_model_on_literals
footer_front = refl

footer_rest : address_footer (footer_bytes_of 2 4 2 2 (range_bytes 2 2 ∷ []) ++ 7 ∷ []) ≡ None
unfolding col_model_on_literals
footer_rest = refl

-- one number that would be the least and not the greatest
footer_one : address_footer (footer_bytes_of 2 4 1 2 (range_bytes 2 2 ∷ [])) ≡ None
unfolding col_model_on_literals
footer_one = refl

footer_none : address_footer (footer_bytes_of 0 0 0 1 (range_bytes 0 0 ∷ []))
    ≡ Some (record { least = 0; greatest = 0; count = 0; code_width = 1; ranges = (0, 0) ∷ [] })
unfolding col_model_on_literals
footer_none = refl

-- the last end is below 2 ^ 128
ranges_last : ranges_at (0x81 ∷ range_bytes (2 ^ 128 - 2) 1) ≡ Some ((2 ^ 128 - 2, 2 ^ 128 - 1) ∷ [], [])
unfolding col_model_on_literals
ranges_last = refl

ranges_past : ranges_at (0x81 ∷ range_bytes (2 ^ 128 - 2) 2) ≡ None
unfolding col_model_on_literals
ranges_past = refl

header : header_at (0x82 ∷ 1 ∷ 13 ∷ []) ≡ Some (2, 13 ∷ [])
unfolding col_model_on_literals
header = refl

other_header : header_at (0x82 ∷ 2 ∷ 13 ∷ []) ≡ None
unfolding col_model_on_literals
other_header = refl

-- ---- versions and indexes

version_read : version_of version_bytes ≡ Some 3
version_read = refl

versions_read : map version_of
    ((1 ∷ 0 ∷ 0 ∷ 0 ∷ 0x02 ∷ 0x71 ∷ 0x77 ∷ 0x42 ∷ []) ∷ (3 ∷ 0 ∷ 0 ∷ 0 ∷ 0x02 ∷ 0x71 ∷ 0x77 ∷ 0x42 ∷ [])
    ∷ (0 ∷ 0 ∷ 0 ∷ 0 ∷ 0x02 ∷ 0x71 ∷ 0x77 ∷ 0x42 ∷ [])
    ∷ (4 ∷ 0 ∷ 0 ∷ 0 ∷ 0x02 ∷ 0x71 ∷ 0x77 ∷ 0x42 ∷ []) ∷ []) ≡ Some 1 ∷ Some 3 ∷ None ∷ None ∷ []
versions_read = refl

full_counts : counts (0 ∷ []) 2 3 ≡ Some (record { cardinality = full; of_rows = 1 ∷ 1 ∷ 1 ∷ [] })
unfolding col_model_on_literals
full_counts = refl

other_version : counts (0 ∷ []) 4 3 ≡ None
unfolding col_model_on_literals
other_version = refl

-- values in the first 40 of 100 rows, as one run, and a run that would end behind the last row
one_run : map (λ lengths. counts (1 ∷ 1 ∷ 0xe4 ∷ 0 ∷ 0x80 ∷ 0x81 ∷ 0x80 ∷ 0x81 ∷ lengths
    ++ (5 ∷ 0 ∷ 0 ∷ 0 ∷ 0 ∷ 0 ∷ 0 ∷ 0 ∷ [])) 3 100)
    ((0 ∷ 0xa8 ∷ 0x81 ∷ 0x80 ∷ 0x81 ∷ []) ∷ (0 ∷ 0xe5 ∷ 0x81 ∷ 0x80 ∷ 0x81 ∷ []) ∷ [])
    ≡ Some (record { cardinality = optional; of_rows = replicate 40 1 ++ replicate 60 0 }) ∷ None ∷ []
unfolding col_model_on_literals
one_run = refl

-- the set of runs of ten rows
ten_by_runs : List ℕ → List ℕ → Option (List ℕ)
ten_by_runs starts lengths =
    option_map (λ (s : RowSet). s.rows) (row_set 3 (1 ∷ 0x8a ∷ bitpacked_bytes starts ++ bitpacked_bytes lengths
    ++ to_le_bytes w64 (length (bitpacked_bytes starts))))

-- runs that are apart, one up to the end, and none; then: touching, overlapping and falling ones, one that is empty, one past
-- the end, and fewer lengths than starts
runs_read : ten_by_runs (0 ∷ 4 ∷ []) (3 ∷ 2 ∷ []) ∷ ten_by_runs (9 ∷ []) (1 ∷ []) ∷ ten_by_runs [] []
    ∷ ten_by_runs (0 ∷ 3 ∷ []) (3 ∷ 2 ∷ []) ∷ ten_by_runs (0 ∷ 2 ∷ []) (3 ∷ 2 ∷ []) ∷ ten_by_runs (4 ∷ 0 ∷ []) (3 ∷ 2 ∷ [])
    ∷ ten_by_runs (0 ∷ 4 ∷ []) (0 ∷ 2 ∷ []) ∷ ten_by_runs (9 ∷ []) (2 ∷ []) ∷ ten_by_runs (0 ∷ 4 ∷ []) (3 ∷ []) ∷ []
    ≡ Some (0 ∷ 1 ∷ 2 ∷ 4 ∷ 5 ∷ []) ∷ Some (9 ∷ []) ∷ Some [] ∷ None ∷ None ∷ None ∷ None ∷ None ∷ None ∷ []
unfolding col_model_on_literals ten_by_runs
runs_read = refl

-- runs as they are found in rows, and the first count of rows that stand in one
runs_found : map runs_of ((3 ∷ []) ∷ (0 ∷ 1 ∷ 2 ∷ 4 ∷ 6 ∷ 7 ∷ []) ∷ [] ∷ [])
    ≡ ((3, 1) ∷ []) ∷ ((0, 3) ∷ (4, 1) ∷ (6, 2) ∷ []) ∷ [] ∷ []
unfolding col_model_on_literals
runs_found = refl

runs_pay : map (λ n. are_in_runs (range_with_len 5 n)) (0 ∷ 32 ∷ 33 ∷ []) ≡ false ∷ false ∷ true ∷ []
unfolding col_model_on_literals
runs_pay = refl

-- forms: one by one, and another
forms_read : map (row_set 3) ((0 ∷ 0x83 ∷ bitpacked_bytes (0 ∷ 2 ∷ [])) ∷ (2 ∷ 0x83 ∷ bitpacked_bytes (0 ∷ 2 ∷ [])) ∷ [] ∷ [])
    ≡ Some (record { num_rows = 3; rows = 0 ∷ 2 ∷ [] }) ∷ None ∷ None ∷ []
unfolding col_model_on_literals
forms_read = refl

-- rows of 2, 0 and 1 values
old_index : offset_counts_v1 (bitpacked_bytes (0 ∷ 2 ∷ 2 ∷ 3 ∷ [])) ≡ Some (2 ∷ 0 ∷ 1 ∷ [])
unfolding col_model_on_literals
old_index = refl

old_row_count : counts (2 ∷ bitpacked_bytes (0 ∷ 2 ∷ 2 ∷ 3 ∷ [])) 1 4 ≡ None
unfolding col_model_on_literals
old_row_count = refl

-- ---- values

as_bools : map (λ xs. images64 is_image_of_bool (bitpacked_bytes xs)) ((0 ∷ 1 ∷ []) ∷ (1 ∷ 5 ∷ 10 ∷ []) ∷ [])
    ≡ Some (0 ∷ 1 ∷ []) ∷ None ∷ []
unfolding col_model_on_literals
as_bools = refl

as_u32s : map (λ xs. images64 is_image_of_u32 (bitpacked_bytes xs)) (((2 ^ 32 - 1) ∷ []) ∷ ((2 ^ 32) ∷ []) ∷ [])
    ≡ Some ((2 ^ 32 - 1) ∷ []) ∷ None ∷ []
unfolding col_model_on_literals
as_u32s = refl
