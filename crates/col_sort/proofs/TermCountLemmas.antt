-- As many keys of terms as rows.
use Rattle.std.proofs.Common.{◌≡◌, ℕ, suc, List, [], ◌∷◌, map, refl, ◌∙◌, ap, ap₂, length, arith}
use Rattle.std.specs.Prelude.{Option, Some, None, slice_index_or}
use Rattle.col_numbers.specs.NumValues.{num_values_of}
use Rattle.col_column.specs.Columns.{row_count, rows_by}
use Rattle.col_column.proofs.FirstLemmas.{length-rows}
use Rattle.col_text.specs.Texts.{Texts}
use Rattle.col_dynamic.specs.Dynamic.{dynamic_shape, value_count}
use Rattle.col_dynamic.specs.declared.dynamic_column.DynamicColumn.{DynamicColumn}
use Rattle.col_dynamic.specs.declared.dynamic_column.DynamicColumn.TheVariants as columns
use Rattle.col_merge_slot.specs.Segments.{HaveRows}
use Rattle.col_sort.specs.Texts.{IsEmptyText, IsTextOf, AreTexts, term_keys, all_term_keys}
use Rattle.col_sort.proofs.FirstLemmas.{length-first_keys}

text-many : (n : ℕ) (o : Option DynamicColumn) (t : Texts) (places : List ℕ) → IsTextOf n o t
    → ((c : DynamicColumn) → o ≡ Some c → row_count (dynamic_shape c) (value_count c) ≡ n)
    → length (term_keys t places) ≡ n
text-many n o t places is rows =
    length-first_keys (λ ord. slice_index_or places ord 0) (rows_by t.ords.shape (num_values_of t.ords.values))
    ∙ length-rows t.ords.shape (num_values_of t.ords.values) ∙ by o is rows
  where
    empty : IsEmptyText n t → row_count t.ords.shape (length (num_values_of t.ords.values)) ≡ n
    empty is = ap (λ s. row_count s (length (num_values_of t.ords.values))) is.shape

    own : (c : Texts) → t ≡ c → row_count c.ords.shape (length (num_values_of c.ords.values)) ≡ n
        → row_count t.ords.shape (length (num_values_of t.ords.values)) ≡ n
    own c e h = ap (λ (t : Texts). row_count t.ords.shape (length (num_values_of t.ords.values))) e ∙ h

    by : (o : Option DynamicColumn) → IsTextOf n o t
        → ((c : DynamicColumn) → o ≡ Some c → row_count (dynamic_shape c) (value_count c) ≡ n)
        → row_count t.ords.shape (length (num_values_of t.ords.values)) ≡ n
    by (Some (columns.Str c)) is rows = own c is (rows (columns.Str c) refl)
    by (Some (columns.Bytes c)) is rows = own c is (rows (columns.Bytes c) refl)
    by (Some (columns.Bool c)) is rows = empty is
    by (Some (columns.I64 c)) is rows = empty is
    by (Some (columns.U64 c)) is rows = empty is
    by (Some (columns.IpAddr c)) is rows = empty is
    by (Some (columns.DateTime c)) is rows = empty is
    by None is rows = empty is

pub terms-many : (ns : List ℕ) (os : List (Option DynamicColumn)) (ts : List Texts) (pss : List (List ℕ)) → AreTexts ns os ts
    → HaveRows ns os → length pss ≡ length ts → map length (all_term_keys ts pss) ≡ ns
unfolding AreTexts all_term_keys
terms-many [] [] [] pss are h e = refl
terms-many [] os (t ∷ ts) pss are h e = absurd are
terms-many [] (o ∷ os) [] pss are h e = absurd are
terms-many (n ∷ ns) [] ts pss are h e = absurd are
terms-many (n ∷ ns) (o ∷ os) [] pss are h e = absurd are
terms-many (n ∷ ns) (o ∷ os) (t ∷ ts) [] are h e = absurd (omega arith)
terms-many (n ∷ ns) (o ∷ os) (t ∷ ts) (ps ∷ pss) are h e =
    let long = h.segments in
    ap₂ (λ m ms. m ∷ ms) (text-many n o t ps are.0 (λ c is. h.rows 0 c (ap Some is)))
    (terms-many ns os ts pss are.1 (record { segments = omega arith; rows = λ k c is. h.rows (suc k) c is }) (omega arith))

-- as many columns of terms as segments
pub length-texts : (ns : List ℕ) (os : List (Option DynamicColumn)) (ts : List Texts) → AreTexts ns os ts → length ts ≡ length ns
unfolding AreTexts
length-texts [] [] [] are = refl
length-texts [] os (t ∷ ts) are = absurd are
length-texts [] (o ∷ os) [] are = absurd are
length-texts (n ∷ ns) [] ts are = absurd are
length-texts (n ∷ ns) (o ∷ os) [] are = absurd are
length-texts (n ∷ ns) (o ∷ os) (t ∷ ts) are = ap suc (length-texts ns os ts are.1)
