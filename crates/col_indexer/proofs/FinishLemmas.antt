-- The index of rows and offsets that builders recorded.
use Rattle.std.proofs.Common.{◌≡◌, ℕ, ◌+◌, ◌<◌, ◌^◌, ◌==◌, ◌&&◌, true, List, [], ◌∷◌, length, refl, sym, ap, ◌∙◌, arith, subst}
use Rattle.std.proofs.lemmas.Bool.{eq-eqb, and_from}
use Rattle.col_common.specs.Ascending.{is_rising, are_below, differences}
use Rattle.col_model.specs.Index.{are_offsets, are_starts}
use Rattle.col_model.specs.Positions.{starts_after, starts_of}
use Rattle.col_indexer.specs.Builders.{RecordedRows, IsRecording, AllHaveValues, recorded_index}
use Rattle.col_indexer.specs.Spelling.{offsets_by_rows, AreOffsetsOf32}
use Rattle.col_index.specs.Offsets.{AreOffsets}
use Rattle.col_indexer.proofs.RecordedLists.{starts-recorded, first_is_zero, rising-recorded}
use Rattle.col_indexer.proofs.BuilderLemmas.{begun, shown_of}

-- the offsets of what was recorded
pub recorded-starts : (rows offsets : List ℕ) → IsRecording rows offsets → AllHaveValues (differences offsets)
    → begun offsets ≡ starts_of (differences offsets)
unfolding starts_of
recorded-starts rows [] r a = refl
recorded-starts rows (x ∷ xs) r a =
    let zero_first = first_is_zero x xs (r.offsets_are (omega arith)) in
    sym (ap (λ n. starts_after n (differences (x ∷ xs))) (sym zero_first) ∙ starts-recorded x xs r.never_fall a)

-- ---- the index of what was recorded

-- the rows and offsets that a builder recorded make the index of what it showed
pub recorded-index : (n : ℕ) (rows offsets rows' starts : List ℕ) (shown : RecordedRows) → IsRecording rows offsets
    → shown_of rows offsets ≡ shown → AllHaveValues shown.counts → rows' ≡ rows → starts ≡ begun offsets
    → offsets_by_rows n rows' starts ≡ recorded_index n shown
recorded-index n rows offsets rows' starts shown r v a e b =
    let each : AllHaveValues (differences offsets) = subst (λ s. AllHaveValues s.counts) (sym v) a in
    let first : offsets_by_rows n rows' starts ≡ offsets_by_rows n rows starts = ap (λ rs. offsets_by_rows n rs starts) e in
    let second : offsets_by_rows n rows starts ≡ recorded_index n (shown_of rows offsets) =
    ap (offsets_by_rows n rows) (b ∙ recorded-starts rows offsets r each) in
    first ∙ second ∙ ap (recorded_index n) v

-- what was recorded is an index
pub recorded-offsets : (n : ℕ) (rows offsets : List ℕ) (shown : RecordedRows) → IsRecording rows offsets
    → shown_of rows offsets ≡ shown → n < 2 ^ 32 → are_below n shown.rows ≡ true → AllHaveValues shown.counts
    → AreOffsetsOf32 (recorded_index n shown)
recorded-offsets n rows offsets shown r v fits below a =
    let rows_below : are_below n rows ≡ true = subst (λ s. are_below n s.rows ≡ true) (sym v) below in
    let each : AllHaveValues (differences offsets) = subst (λ s. AllHaveValues s.counts) (sym v) a in
    let is_set = and_from (is_rising rows) (are_below n rows) r.rise rows_below in
    let starts = recorded-starts rows offsets r each in
    let here : AreOffsets (offsets_by_rows n rows (begun offsets)) = record { rows = is_set; starts = by_case offsets r each } in
    record {
      offsets = subst (λ s. AreOffsets (recorded_index n s)) v (subst (λ xs. AreOffsets (offsets_by_rows n rows xs)) starts here);
      fits = fits;
    }
  where
    by_case : (os : List ℕ) → IsRecording rows os → AllHaveValues (differences os) → are_starts (offsets_by_rows n rows (begun os)) ≡ true
    by_case [] q each = subst (λ rs. are_starts (offsets_by_rows n rs (0 ∷ [])) ≡ true) (sym (q.none refl)) refl
    by_case (x ∷ xs) q each =
        let positive : 0 < length (x ∷ xs) = omega arith in
        and_from (are_offsets (x ∷ xs) && is_rising (x ∷ xs)) (length (x ∷ xs) == length rows + 1)
        (and_from (are_offsets (x ∷ xs)) (is_rising (x ∷ xs)) (q.offsets_are positive) (rising-recorded x xs q.never_fall each))
        (eq-eqb (length (x ∷ xs)) (length rows + 1) (q.many positive))
