-- Rows with a value are read back, in either form.
use Rattle.std.proofs.Common.{◌≡◌, ℕ, ◌*◌, ◌^◌, ◌<◌, ◌-◌, nat_lt, Bool, true, false, ◌∷◌, ◌++◌, length, Some, refl, sym, ap, ap₂, ◌∙◌, arith, append_assoc, length-append}
use Rattle.std.specs.Prelude.{if◌then◌else◌}
use Rattle.std.specs.Int.{w64, to_le_bytes}
use Rattle.std.proofs.lemmas.Bool.{and_parts, lt-ltb, ltb-true}
use Rattle.std.proofs.lemmas.List.{length-map}
use Rattle.col_common.specs.VInt.{vint_bytes}
use Rattle.col_common.proofs.VIntLemmas.{vint-vint_bytes}
use Rattle.col_common.specs.Ascending.{is_rising, are_below, AreBelow}
use Rattle.col_model.specs.Index.{RowSet, row_set, listed_set, run_set, formed_set, runs_of, run_starts, run_lengths, are_in_runs}
use Rattle.col_model.specs.U64List.{values64}
use Rattle.col_model.specs.Version.{current_version}
use Rattle.col_model.proofs.ReadingLaws.{parts_by_first-w64}
use Rattle.col_model.proofs.BlockLaws.{vint_bytes-most}
use Rattle.col_model.proofs.RowRunLaws.{rows-of-runs, are-runs-of, run_starts-below, run_lengths-below, runs-few}
use Rattle.col_indexer.specs.Spelling.{index_list_bytes, listed_bytes, run_list_bytes, run_bytes, row_set_bytes, AreRowsOf32}
use Rattle.col_indexer.proofs.ByteCountLemmas.{list_bytes-most}
use Rattle.col_indexer.proofs.ListSpellingLemmas.{all_below, rows-few, list-back}

-- ---- rows one by one

rows-back : (s : RowSet) → AreRowsOf32 s → values64 (index_list_bytes s.rows) ≡ Some s.rows
rows-back s a =
    let fits = a.fits in
    list-back s.rows (all_below s.num_rows (2 ^ 64) s.rows (omega arith)
    (and_parts (is_rising s.rows) (are_below s.num_rows s.rows) a.rows).1)
    (omega (arith, rows-few s a.rows))

-- rows one by one are read back
listed-back : (s : RowSet) → AreRowsOf32 s → listed_set (listed_bytes s) ≡ Some s
unfolding listed_set listed_bytes
listed-back s a =
    let fits = a.fits in
    rw (vint-vint_bytes s.num_rows (index_list_bytes s.rows) (omega arith), rows-back s a, lt-ltb s.num_rows (2 ^ 32) fits, a.rows) refl

-- ---- rows in runs

run_starts-back : (s : RowSet) → AreRowsOf32 s
    → values64 (index_list_bytes (run_starts (runs_of s.rows))) ≡ Some (run_starts (runs_of s.rows))
run_starts-back s a =
    let fits = a.fits in
    let parts = and_parts (is_rising s.rows) (are_below s.num_rows s.rows) a.rows in
    let runs = runs_of s.rows in
    list-back (run_starts runs) (run_starts-below s.num_rows (2 ^ 64) s.rows (omega arith) parts.0 parts.1)
    (omega (arith, length-map runs (λ r. r.0), runs-few s.rows, rows-few s a.rows))

run_lengths-back : (s : RowSet) → AreRowsOf32 s
    → values64 (index_list_bytes (run_lengths (runs_of s.rows))) ≡ Some (run_lengths (runs_of s.rows))
run_lengths-back s a =
    let fits = a.fits in
    let parts = and_parts (is_rising s.rows) (are_below s.num_rows s.rows) a.rows in
    let runs = runs_of s.rows in
    list-back (run_lengths runs) (run_lengths-below s.num_rows (2 ^ 64) s.rows (omega arith) parts.0 parts.1)
    (omega (arith, length-map runs (λ r. r.1), runs-few s.rows, rows-few s a.rows))

-- rows in runs are read back
runs-back : (s : RowSet) → AreRowsOf32 s → run_set (run_bytes s.num_rows (runs_of s.rows)) ≡ Some s
unfolding run_set run_bytes run_list_bytes
runs-back s a =
    let fits = a.fits in
    let parts = and_parts (is_rising s.rows) (are_below s.num_rows s.rows) a.rows in
    let runs = runs_of s.rows in
    let starts = index_list_bytes (run_starts runs) in
    let lengths = index_list_bytes (run_lengths runs) in
    let long : length starts < 2 ^ 64 = omega (
      arith,
      list_bytes-most (run_starts runs),
      length-map runs (λ r. r.0),
      runs-few s.rows,
      rows-few s a.rows,
    ) in
    rw (
      vint-vint_bytes s.num_rows (starts ++ (lengths ++ to_le_bytes w64 (length starts))) (omega arith),
      ← append_assoc starts lengths (to_le_bytes w64 (length starts)),
      parts_by_first-w64 starts lengths long,
      run_starts-back s a,
      run_lengths-back s a,
      lt-ltb s.num_rows (2 ^ 32) fits,
      are-runs-of s.num_rows s.rows parts.0 parts.1,
    )
    (ap (λ rows. Some (record { num_rows = s.num_rows; rows = rows })) (rows-of-runs s.rows))

-- ---- rows in either form

formed-back : (s : RowSet) → AreRowsOf32 s → (b : Bool)
    → row_set current_version (if b then 1 ∷ run_bytes s.num_rows (runs_of s.rows) else 0 ∷ listed_bytes s) ≡ Some s
unfolding row_set formed_set
formed-back s a true = runs-back s a
formed-back s a false = listed-back s a

-- the rows with a value are read back from their bytes
pub row_set-back : (s : RowSet) → AreRowsOf32 s → row_set current_version (row_set_bytes s) ≡ Some s
unfolding row_set_bytes
row_set-back s a = formed-back s a (are_in_runs s.rows)

formed-few : (s : RowSet) → AreRowsOf32 s → (b : Bool) → are_in_runs s.rows ≡ b
    → length (if b then 1 ∷ run_bytes s.num_rows (runs_of s.rows) else 0 ∷ listed_bytes s) < 2 ^ 36
unfolding listed_bytes run_bytes run_list_bytes
formed-few s a true e =
    let runs = runs_of s.rows in
    let starts = index_list_bytes (run_starts runs) in
    let lengths = index_list_bytes (run_lengths runs) in
    omega (
      arith,
      length-append (vint_bytes s.num_rows) (starts ++ (lengths ++ to_le_bytes w64 (length starts))),
      length-append starts (lengths ++ to_le_bytes w64 (length starts)),
      length-append lengths (to_le_bytes w64 (length starts)),
      vint_bytes-most s.num_rows,
      list_bytes-most (run_starts runs),
      list_bytes-most (run_lengths runs),
      length-map runs (λ r. r.0),
      length-map runs (λ r. r.1),
      ltb-true (32 * length runs) (length s.rows) e,
      rows-few s a.rows,
      a.fits,
    )
formed-few s a false e =
    omega (
      arith,
      length-append (vint_bytes s.num_rows) (index_list_bytes s.rows),
      vint_bytes-most s.num_rows,
      list_bytes-most s.rows,
      rows-few s a.rows,
      a.fits,
    )

-- the bytes of rows are few enough that 64 bits say how many they are
pub row_set_bytes-few : (s : RowSet) → AreRowsOf32 s → length (row_set_bytes s) < 2 ^ 36
unfolding row_set_bytes
row_set_bytes-few s a = formed-few s a (are_in_runs s.rows) refl

-- ---- the form that pays

-- where runs pay, the bytes are those of runs ..
pub set-in_runs : (s : RowSet) (n m : ℕ) → n ≡ length (runs_of s.rows) → m ≡ length s.rows → true ≡ nat_lt (32 * n) m
    → 1 ∷ run_bytes s.num_rows (runs_of s.rows) ≡ row_set_bytes s
unfolding row_set_bytes
set-in_runs s n m h k e = rw (sym (e ∙ ap₂ (λ n m. nat_lt (32 * n) m) h k)) refl

-- .. else those of rows one by one
pub set-listed : (s : RowSet) (n m : ℕ) → n ≡ length (runs_of s.rows) → m ≡ length s.rows → false ≡ nat_lt (32 * n) m
    → 0 ∷ listed_bytes s ≡ row_set_bytes s
unfolding row_set_bytes
set-listed s n m h k e = rw (sym (e ∙ ap₂ (λ n m. nat_lt (32 * n) m) h k)) refl

-- rows of a count of 32 bits are below 2 ^ 32 - 1
pub rows-below : (s : RowSet) → AreRowsOf32 s → AreBelow (2 ^ 32 - 1) s.rows
rows-below s a =
    let fits = a.fits in
    all_below s.num_rows (2 ^ 32 - 1) s.rows (omega arith) (and_parts (is_rising s.rows) (are_below s.num_rows s.rows) a.rows).1

-- they are fewer than 2 ^ 32
pub rows-fit : (s : RowSet) → AreRowsOf32 s → length s.rows < 2 ^ 32
rows-fit s a = omega (arith, rows-few s a.rows, a.fits)

-- so are their runs
pub runs-of-fit : (s : RowSet) → AreRowsOf32 s → length (runs_of s.rows) < 2 ^ 32
runs-of-fit s a = omega (arith, rows-fit s a, runs-few s.rows)
