-- Rows with a value, as they are written.
use Rattle.std.proofs.Common.{◌≡◌, ℕ, ◌+◌, ◌^◌, ◌<◌, List, [], ◌∷◌, length, Result, Ok, Err, refl, ap, ◌∙◌, arith, subst, length-append}
use Rattle.std.specs.Prelude.{IfOk}
use Rattle.std.specs.Int.{w64, to_le_bytes}
use Rattle.std.proofs.lemmas.List.{length-map}
use Rattle.col_common.specs.Outside.{SeenSink}
use Rattle.col_common.specs.Serializing.{Serializes, done}
use Rattle.col_common.specs.declared.error.ColumnarError.{ColumnarError}
use Rattle.col_common.specs.VInt.{vint_bytes}
use Rattle.col_common.proofs.SerializingLemmas.{serializes-then}
use Rattle.col_model.specs.Index.{RowSet, run_starts, run_lengths}
use Rattle.col_model.proofs.BlockLaws.{vint_bytes-most}
use Rattle.col_indexer.specs.Spelling.{index_list_bytes, listed_bytes, run_list_bytes, run_bytes}
use Rattle.col_indexer.proofs.ByteCountLemmas.{list_bytes-most}
use Rattle.col_indexer.proofs.WritingLemmas.{parts-stopped, parts-written, parts-long}

-- ---- the form and the row count

-- the byte of a form and a row count are written
pub front-written :
    (a b d : SeenSink) (end : Unit {0}) (result : Result (Unit {0}) ColumnarError) (form count n : ℕ) → count ≡ n
    → Serializes a b (Ok end) (form ∷ []) → Serializes b d result (vint_bytes count) → Serializes a d result (form ∷ vint_bytes n)
front-written a b d end result form count n e front rest =
    serializes-then a b d end result (form ∷ []) (vint_bytes n) front
    (subst (λ c. Serializes b d result (vint_bytes c)) e rest)

-- they are as long as a byte and the count
pub front-long : (form count n len : ℕ) → count ≡ n → len ≡ length (vint_bytes count) → 1 + len ≡ length (form ∷ vint_bytes n)
front-long form count n len e f = omega (arith, ap (λ c. length (vint_bytes c)) e)

-- 64 bits say how long they are
pub front-fits : (count len : ℕ) → len ≡ length (vint_bytes count) → 1 + len < 2 ^ 64
front-fits count len f = omega (arith, vint_bytes-most count)

-- ---- rows one by one

-- rows one by one are written as the front and their list
pub listed-written : (a b d : SeenSink) (end : Unit {0}) (result : Result (Unit {0}) ColumnarError) (s : RowSet)
    → Serializes a b (Ok end) (0 ∷ vint_bytes s.num_rows) → Serializes b d result (index_list_bytes s.rows)
    → Serializes a d result (0 ∷ listed_bytes s)
unfolding listed_bytes
listed-written a b d end result s front rest =
    serializes-then a b d end result (0 ∷ vint_bytes s.num_rows) (index_list_bytes s.rows) front rest

-- the front and the list are as long as both
pub listed-long : (front rest : ℕ) (s : RowSet) → front ≡ length (0 ∷ vint_bytes s.num_rows)
    → rest ≡ length (index_list_bytes s.rows) → front + rest ≡ length (0 ∷ listed_bytes s)
unfolding listed_bytes
listed-long front rest s f r = omega (arith, length-append (vint_bytes s.num_rows) (index_list_bytes s.rows))

-- 64 bits say how long they are
pub listed-fits : (front rest : ℕ) (s : RowSet) → length s.rows < 2 ^ 32 → front ≡ length (0 ∷ vint_bytes s.num_rows)
    → rest ≡ length (index_list_bytes s.rows) → front + rest < 2 ^ 64
listed-fits front rest s few f r = omega (arith, vint_bytes-most s.num_rows, list_bytes-most s.rows)

-- ---- runs

module _ (runs : List (ℕ × ℕ)) (starts lengths : List ℕ) (e : starts ≡ run_starts runs) (f : lengths ≡ run_lengths runs) where
  -- the lengths were not written to their end
  pub run_lists-stopped : (a b d : SeenSink) (end : Unit {0}) (err : ColumnarError)
      → Serializes a b (Ok end) (index_list_bytes starts) → Serializes b d (Err err) (index_list_bytes lengths)
      → Serializes a d (Err err) (run_list_bytes runs)
  unfolding run_list_bytes
  run_lists-stopped a b d end err first second =
      parts-stopped a b d end err (index_list_bytes (run_starts runs)) (index_list_bytes (run_lengths runs))
      (subst (λ xs. Serializes a b (Ok end) (index_list_bytes xs)) e first)
      (subst (λ xs. Serializes b d (Err err) (index_list_bytes xs)) f second)

  -- runs are written as their starts, their lengths and the length of the starts' bytes
  pub run_lists-written : (a b d g : SeenSink) (end : Unit {0}) (result : Result (Unit {0}) ColumnarError) (len : ℕ)
      (bytes : List ℕ) → len ≡ length (index_list_bytes starts) → bytes ≡ to_le_bytes w64 len
      → Serializes a b (Ok end) (index_list_bytes starts) → Serializes b d (Ok end) (index_list_bytes lengths)
      → Serializes d g result bytes → Serializes a g result (run_list_bytes runs)
  unfolding run_list_bytes
  run_lists-written a b d g end result len bytes long same first second rest =
      parts-written a b d g end result len bytes (index_list_bytes (run_starts runs)) (index_list_bytes (run_lengths runs))
      (long ∙ ap (λ xs. length (index_list_bytes xs)) e) same
      (subst (λ xs. Serializes a b (Ok end) (index_list_bytes xs)) e first)
      (subst (λ xs. Serializes b d (Ok end) (index_list_bytes xs)) f second) rest

  -- both lists and eight bytes are as long as all of it
  pub run_lists-long : (front rest : ℕ) → front ≡ length (index_list_bytes starts)
      → rest ≡ length (index_list_bytes lengths) → front + rest + 8 ≡ length (run_list_bytes runs)
  unfolding run_list_bytes
  run_lists-long front rest g h =
      parts-long front rest (index_list_bytes (run_starts runs)) (index_list_bytes (run_lengths runs))
      (g ∙ ap (λ xs. length (index_list_bytes xs)) e) (h ∙ ap (λ xs. length (index_list_bytes xs)) f)

  -- as few as runs are the starts ..
  pub starts-fit : length runs < 2 ^ 32 → length starts < 2 ^ 32
  starts-fit h = omega (arith, ap length e ∙ length-map runs (λ r. r.0))

  -- .. and the lengths
  pub lengths-fit : length runs < 2 ^ 32 → length lengths < 2 ^ 32
  lengths-fit h = omega (arith, ap length f ∙ length-map runs (λ r. r.1))

  -- 64 bits say how long both lists are
  pub run_lists-fit : (front rest : ℕ) → length runs < 2 ^ 32 → front ≡ length (index_list_bytes starts)
      → rest ≡ length (index_list_bytes lengths) → front + rest < 2 ^ 37
  run_lists-fit front rest h g k =
      omega (arith, starts-fit h, lengths-fit h, list_bytes-most starts, list_bytes-most lengths)

-- their bytes are fewer than 2 ^ 38
pub run_lists-few : (runs : List (ℕ × ℕ)) → length runs < 2 ^ 32 → length (run_list_bytes runs) < 2 ^ 38
run_lists-few runs h =
    let starts = run_starts runs in
    let lengths = run_lengths runs in
    omega (
      arith,
      run_lists-long runs starts lengths refl refl (length (index_list_bytes starts)) (length (index_list_bytes lengths)) refl refl,
      run_lists-fit runs starts lengths refl refl (length (index_list_bytes starts)) (length (index_list_bytes lengths)) h refl refl,
    )

-- runs are written as the front and their lists
pub runs-written : (a b d : SeenSink) (end : Unit {0}) (result : Result (Unit {0}) ColumnarError) (n : ℕ) (runs : List (ℕ × ℕ))
    → Serializes a b (Ok end) (1 ∷ vint_bytes n) → Serializes b d result (run_list_bytes runs)
    → Serializes a d result (1 ∷ run_bytes n runs)
unfolding run_bytes
runs-written a b d end result n runs front rest =
    serializes-then a b d end result (1 ∷ vint_bytes n) (run_list_bytes runs) front rest

-- the front and the lists are as long as both
pub runs-long : (front rest n : ℕ) (runs : List (ℕ × ℕ)) → front ≡ length (1 ∷ vint_bytes n)
    → rest ≡ length (run_list_bytes runs) → front + rest ≡ length (1 ∷ run_bytes n runs)
unfolding run_bytes
runs-long front rest n runs f r = omega (arith, length-append (vint_bytes n) (run_list_bytes runs))

-- 64 bits say how long they are
pub runs-fit : (front rest n : ℕ) (runs : List (ℕ × ℕ)) → length runs < 2 ^ 32 → front ≡ length (1 ∷ vint_bytes n)
    → rest ≡ length (run_list_bytes runs) → front + rest < 2 ^ 64
runs-fit front rest n runs h f r = omega (arith, vint_bytes-most n, run_lists-few runs h)

-- ---- bytes by another name

-- what was written, and how long it is
pub record Told (old new : SeenSink) (result : Result ℕ ColumnarError) (bytes : List ℕ) : Type 0 where
  pub ok : Serializes old new (done result) bytes
  pub length : IfOk result (λ n. n ≡ length bytes)

-- the same of bytes that are equal
pub told-same : (old new : SeenSink) (result : Result ℕ ColumnarError) (xs ys : List ℕ) → xs ≡ ys
    → Serializes old new (done result) xs → IfOk result (λ n. n ≡ length xs) → Told old new result ys
told-same old new result xs ys e f g = record {
  ok = subst (Serializes old new (done result)) e f;
  length = subst (λ bytes. IfOk result (λ n. n ≡ length bytes)) e g;
}
