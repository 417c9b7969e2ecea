-- Numbers that rise by 1, as they are written.
use Rattle.std.proofs.Common.{◌≡◌, ℕ, zero, suc, ℤ, pos, negsuc, ◌+ℤ◌, ◌-ℤ◌, ◌≤ℤ◌, ◌<◌, ◌-◌, ◌^◌, true, false, List, [], ◌∷◌, map, length, Some, refl, ap, ap₂, ◌∙◌, subst, arith, lit<}
use Rattle.std.specs.List.{list_all}
use Rattle.std.proofs.lemmas.Bool.Decides.{nat_tests}
use Rattle.std.proofs.lemmas.Int.{ints}
use Rattle.std.proofs.lemmas.List.{length-map}
use Rattle.col_common.specs.Ascending.{AreBelow}
use Rattle.col_common.specs.Walks.{int_range, int_range_len, above_zero}
use Rattle.col_model.specs.Column.{column, number_rows, number_cell, is_stored}
use Rattle.col_model.specs.ColumnType as types
use Rattle.col_model.specs.Dictionary.{cut}
use Rattle.col_model.specs.Index.{full_shape, shape}
use Rattle.col_model.specs.Table.{number}
use Rattle.col_model.specs.Version.{current_version}
use Rattle.col_model.specs.Written.{is_past_ties}
use Rattle.col_values.specs.Codes.{i64_code, is_i64}
use Rattle.col_model.proofs.CodeLaws.{i64_laws}
use Rattle.col_column.specs.Columns.{rows_by, content_seen}
use Rattle.col_column.specs.Opened.{counted_rows}
use Rattle.col_column.specs.Written.{tie_column_bytes}
use Rattle.col_indexer.specs.Spelling.{full_index, index_bytes}
use Rattle.col_column.proofs.SerializeRowLemmas.{number_rows-read}

-- so many numbers from a start on are signed ones of 64 bits
abbrev pub Fits : ℤ → ℕ → Type 0
Fits start n = (k : ℕ) → k < n → is_i64 (start +ℤ pos k) ≡ true

ties-fit : (start : ℤ) (n : ℕ) → is_past_ties n (Some start) ≡ false → Fits start n
ties-fit start n e k h = grind (arith, ints, nat_tests)

first-fits : (start : ℤ) (n : ℕ) → Fits start (suc n) → is_i64 start ≡ true
first-fits start n h =
    let e : start +ℤ pos 0 ≡ start = omega (arith, ints) in
    subst (λ z. is_i64 z ≡ true) e (h 0 (omega arith))

later-fit : (start : ℤ) (n : ℕ) → Fits start (suc n) → Fits (start +ℤ pos 1) n
later-fit start n h k l =
    let e : start +ℤ pos (suc k) ≡ start +ℤ pos 1 +ℤ pos k = omega (arith, ints) in
    subst (λ z. is_i64 z ≡ true) e (h (suc k) (omega arith))

length-int_range : (start : ℤ) (n : ℕ) → length (int_range start n) ≡ n
length-int_range start zero = refl
length-int_range start (suc n) = ap suc (length-int_range (start +ℤ pos 1) n)

int_range_len-more : (start : ℤ) (n : ℕ) → int_range_len start (start +ℤ pos n) ≡ n
int_range_len-more start n =
    let e : (start +ℤ pos n) -ℤ start ≡ pos n = omega (arith, ints) in
    ap above_zero e

-- the numbers from a start up to the one n further are n that rise by 1 from the start on
pub ties-are : (start low high : ℤ) (n : ℕ) → low ≡ start → high ≡ start +ℤ pos n
    → int_range low (int_range_len low high) ≡ int_range start n
ties-are start low high n e f =
    ap₂ (λ a b. int_range a (int_range_len a b)) e f ∙ ap (int_range start) (int_range_len-more start n)

-- numbers that rise by 1 up to fewer than 2 ^ 32 further are fewer than 2 ^ 32
pub ties-few : (start low high : ℤ) (n : ℕ) → low ≡ start → high ≡ start +ℤ pos n → n < 2 ^ 32
    → length (int_range low (int_range_len low high)) < 2 ^ 32
ties-few start low high n e f few =
    let long : length (int_range low (int_range_len low high)) ≡ n =
    ap length (ties-are start low high n e f) ∙ length-int_range start n in
    omega arith

-- they are signed numbers of 32 bits
pub record IsWithin (start : ℤ) (n : ℕ) : Type 0 where
  pub low : negsuc (2 ^ 31 - 1) ≤ℤ start
  pub high : (start +ℤ pos n) ≤ℤ pos (2 ^ 31 - 1)

-- numbers that rise from a start that isn't too far are signed numbers of 32 bits
pub ties-within : (start : ℤ) (n : ℕ) → is_past_ties n (Some start) ≡ false → IsWithin start n
ties-within start n e = record { low = grind (arith, ints, nat_tests); high = grind (arith, ints, nat_tests) }

codes-fit : (start : ℤ) (n : ℕ) → Fits start n → AreBelow (2 ^ 64) (map i64_code (int_range start n))
codes-fit start zero h = tt
codes-fit start (suc n) h = (i64_laws.fits start (first-fits start n h), codes-fit (start +ℤ pos 1) n (later-fit start n h))

all_stored : (xs : List ℕ) → list_all (is_stored types.i64) xs ≡ true
all_stored [] = refl
all_stored (x ∷ xs) = all_stored xs

-- the numbers are those that the codes stand for, one in each row
single-rows : (start : ℤ) (n : ℕ) → Fits start n
    → map (map (number_cell types.i64)) (rows_by full_shape (map i64_code (int_range start n)))
    ≡ map (map (λ z. number z)) (rows_by full_shape (int_range start n))
unfolding rows_by cut
single-rows start zero h = refl
single-rows start (suc n) h =
    ap₂ (λ z r. (number z ∷ []) ∷ r) (i64_laws.undoes start (first-fits start n h))
    (single-rows (start +ℤ pos 1) n (later-fit start n h))

tie-rows : (start : ℤ) (n : ℕ) → n < 2 ^ 32 → Fits start n
    → number_rows (tie_column_bytes start n) types.i64 current_version n
    ≡ Some (counted_rows full_shape (map i64_code (int_range start n)))
unfolding shape index_bytes
tie-rows start n few h =
    let xs = map i64_code (int_range start n) in
    let long : length xs ≡ n = length-map (int_range start n) i64_code ∙ length-int_range start n in
    let small : length xs < 2 ^ 32 = omega arith in
    let read = number_rows-read full_index (0 ∷ 1 ∷ 2 ∷ []) xs (lit< tt) refl tt small refl (codes-fit start n h)
    types.i64 record { list = λ bytes. refl; images = all_stored xs } in
    subst (λ m. number_rows (tie_column_bytes start n) types.i64 current_version m ≡ Some (counted_rows full_shape xs)) long read

-- the column that is written stands for them
pub tie-read : (start : ℤ) (n : ℕ) → n < 2 ^ 32 → is_past_ties n (Some start) ≡ false
    → column (tie_column_bytes start n) types.i64 current_version n
    ≡ Some (content_seen [] (λ z. number z) full_shape (int_range start n))
unfolding column
tie-read start n few e =
    let h = ties-fit start n e in
    rw (tie-rows start n few h, single-rows start n h) refl
