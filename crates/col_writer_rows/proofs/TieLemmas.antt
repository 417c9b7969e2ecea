-- Columns of numbers that rise by 1.
use Rattle.std.proofs.Common.{◌≡◌, ℕ, zero, suc, ◌+◌, List, [], ◌∷◌, length, map, replicate, false, Some, Result, refl, ap, ◌∙◌, arith}
use Rattle.std.specs.Prelude.{ℤ, pos, ◌+ℤ◌}
use Rattle.std.specs.List.{range_with_len}
use Rattle.std.proofs.lemmas.Int.{ints}
use Rattle.col_common.specs.Outside.{SeenSink}
use Rattle.col_common.specs.Serializing.{Serializes}
use Rattle.col_common.specs.Walks.{int_range}
use Rattle.col_common.specs.declared.error.ColumnarError.{ColumnarError}
use Rattle.col_common.proofs.OnOkLemmas.{on_ok-always}
use Rattle.col_model.specs.Column.{column}
use Rattle.col_model.specs.ColumnType as types
use Rattle.col_model.specs.Dictionary.{cut}
use Rattle.col_model.specs.Index.{full_shape}
use Rattle.col_model.specs.Table.{number, full}
use Rattle.col_model.specs.Version.{current_version}
use Rattle.col_model.specs.Written.{is_past_ties}
use Rattle.col_column.specs.Columns.{rows_by, content_seen}
use Rattle.col_column.specs.Written.{tie_column_bytes}
use Rattle.col_writer_rows.specs.Counted.{SerializesColumn}
use Rattle.col_writer_rows.specs.Rows.{tie_content}

cut-ones : (xs : List ℤ) → cut (replicate (length xs) 1) xs ≡ map (λ x. x ∷ []) xs
unfolding cut
cut-ones [] = refl
cut-ones (x ∷ xs) = ap (λ r. (x ∷ []) ∷ r) (cut-ones xs)

tie-cells : (start low : ℤ) (a n : ℕ) → low ≡ start +ℤ pos a
    → map (map number) (map (λ x. x ∷ []) (int_range low n))
    ≡ map (λ r. number (start +ℤ pos r) ∷ []) (range_with_len a n)
tie-cells start low a zero e = refl
tie-cells start low a (suc n) e =
    let next : low +ℤ pos 1 ≡ start +ℤ pos (a + 1) = omega (arith, ints) in
    λ i. (number (e i) ∷ []) ∷ tie-cells start (low +ℤ pos 1) (a + 1) n next i

tie-seen : (start : ℤ) (n : ℕ) → content_seen [] number full_shape (int_range start n) ≡ tie_content start n
unfolding rows_by
tie-seen start n =
    let first : start ≡ start +ℤ pos 0 = omega (arith, ints) in
    let rows = ap (map (map number)) (cut-ones (int_range start n)) ∙ tie-cells start start 0 n first in
    λ i. record { cardinality = full; terms = []; rows = rows i }

-- numbers that rise by 1 from a start that isn't too far are written as their column
pub ties-written : (old new : SeenSink) (result : Result (Unit {0}) ColumnarError) (start z : ℤ) (n : ℕ) → z ≡ start
    → is_past_ties n (Some start) ≡ false
    → (is_past_ties n (Some z) ≡ false → Serializes old new result (tie_column_bytes z n))
    → (is_past_ties n (Some z) ≡ false
    → column (tie_column_bytes z n) types.i64 current_version n ≡ Some (content_seen [] number full_shape (int_range z n)))
    → SerializesColumn old new result types.i64 n (tie_content start n)
ties-written old new result start z n same within written read =
    let here : is_past_ties n (Some z) ≡ false = ap (λ k. is_past_ties n (Some k)) same ∙ within in
    record {
      bytes = tie_column_bytes z n;
      again = on_ok-always result (read here ∙ ap Some (tie-seen z n ∙ ap (λ k. tie_content k n) same));
      written = written here;
    }
