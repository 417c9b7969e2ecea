-- A stack of one segment is its own.
use Rattle.std.proofs.Common.{◌≡◌, ℕ, zero, suc, ◌+◌, ◌-◌, ◌<◌, ◌^◌, ◌==◌, ◌&&◌, not, nat_le, Bool, true, false, cond, List, [], ◌∷◌, ◌++◌, length, map, sum, replicate, Some, None, Ok, refl, sym, ap, ◌∙◌, subst, arith, append-nil}
use Rattle.std.specs.List.{range_with_len}
use Rattle.std.proofs.lemmas.Bool.{eqb-true, and_from, lt-leb}
use Rattle.std.proofs.lemmas.List.{length-map}
use Rattle.std.proofs.lemmas.List.FromFn.{length-range_with_len}
use Rattle.col_common.specs.Outside.{in_memory}
use Rattle.col_common.specs.Reading.{◌>>=◌}
use Rattle.col_common.specs.Serializing.{Serializes, done}
use Rattle.col_common.proofs.SerializingLemmas.{added_in_memory}
use Rattle.col_model.specs.Index.{Counts, Shape, empty_shape, full_shape, optional_shape, multivalued_shape, counts_over, counts, offset_counts, shape}
use Rattle.col_model.specs.Limits.{is_multivalued}
use Rattle.col_model.specs.Order.{Order, stack, all_rows}
use Rattle.col_model.specs.Positions.{picked_counts, rows_with_value}
use Rattle.col_model.specs.Table.{Cardinality, full, optional, multivalued}
use Rattle.col_model.specs.Version.{current_version}
use Rattle.col_model.proofs.DecodedCounts.{counts-are, filled, FitCounts}
use Rattle.col_model.proofs.DecodedNumbers.{if-of}
use Rattle.col_model.proofs.SeenLaws.{full-greater}
use Rattle.col_model.proofs.SharedTypes.{some≢none, same-some}
use Rattle.col_index.proofs.CountLaws.{offset_counts-rows}
use Rattle.col_index.specs.Offsets.{cardinality_in}
use Rattle.col_order.specs.Orders.{picks_of}
use Rattle.col_indexer.specs.Counted.{counts_in}
use Rattle.col_indexer.specs.Merged.{is_over, FitSegments, FitOrder, merged_cardinality, stacked_cardinality_of, merged_counts, IsMerged}
use Rattle.col_indexer.specs.Spelling.{Index, full_index, optional_index, multivalued_index, IsIndex, is_past_limit, index_bytes, index_shape}
use Rattle.col_indexer.specs.Stacks.{Segments}
use Rattle.col_indexer.proofs.CountedLemmas.{count-rows}
use Rattle.col_indexer.proofs.SegmentLemmas.{joined, stacked-joined}
use Rattle.col_indexer.proofs.UniformLemmas.{same_counts}
use Rattle.col_upgrade.specs.Again.{IsCountable}
use Rattle.col_upgrade.specs.Indexes.{IsAlone, CountsAlone}

-- ---- the counts of a shape

-- a shape that counts rows, with its counts row by row
record IsCounting (n : ℕ) (s : Shape) (c : Counts) : Type 0 where
  over : is_over n s ≡ true
  cardinality : cardinality_in s ≡ c.cardinality
  rows : counts_in n s ≡ c.of_rows

counting : (n : ℕ) (s : Shape) (c : Counts) → counts_over n s ≡ Some c → IsCounting n s c
counting n (empty_shape m) c e =
    let made = if-of (m == n) (record { cardinality = cond (n == 0) full optional; of_rows = replicate n 0 }) c e in
    record {
      over = made.0;
      cardinality = ap (λ k. cond (k == 0) full optional) (eqb-true m n made.0) ∙ ap (λ (c : Counts). c.cardinality) made.1;
      rows = same_counts 0 0 n ∙ ap (λ (c : Counts). c.of_rows) made.1;
    }
counting n full_shape c e =
    let made = same-some (record { cardinality = full; of_rows = replicate n 1 }) c e in
    record {
      over = refl;
      cardinality = ap (λ (c : Counts). c.cardinality) made;
      rows = same_counts 1 0 n ∙ ap (λ (c : Counts). c.of_rows) made;
    }
counting n (optional_shape cs) c e =
    let made = if-of (length cs == n) (record { cardinality = optional; of_rows = cs }) c e in
    record {
      over = made.0;
      cardinality = ap (λ (c : Counts). c.cardinality) made.1;
      rows = ap (λ (c : Counts). c.of_rows) made.1;
    }
counting n (multivalued_shape cs) c e =
    let made = if-of (length cs == n) (record { cardinality = multivalued; of_rows = cs }) c e in
    record {
      over = made.0;
      cardinality = ap (λ (c : Counts). c.cardinality) made.1;
      rows = ap (λ (c : Counts). c.of_rows) made.1;
    }

-- the shapes of one list are those of another
same-head : (s t : Shape) → s ∷ [] ≡ t ∷ [] → s ≡ t
same-head s t e = cc

-- ---- one segment

-- all rows of one segment are as many as it has
rows-alone : (n : ℕ) → length (all_rows (n ∷ [])) ≡ n
rows-alone n =
    ap length (append-nil (map (λ (r : ℕ). (0, r)) (range_with_len 0 n)))
    ∙ length-map (range_with_len 0 n) (λ (r : ℕ). (0, r)) ∙ length-range_with_len 0 n

module _ (n : ℕ) (shapes : List Shape) (is : IsAlone n shapes) where
  own : IsCounting n is.only is.counted
  own = counting n is.only is.counted is.read

  fit : FitSegments (n ∷ []) shapes
  fit = subst (λ ss. FitSegments (n ∷ []) ss) (sym is.alone) (and_from (is_over n is.only) true own.over refl)

  -- the counts of all rows are those of the segment
  picked : picked_counts shapes (all_rows (n ∷ [])) ≡ is.counted.of_rows
  picked =
      let s : Segments = record { shapes = shapes; counts = n ∷ [] } in
      stacked-joined s fit ∙ ap (joined (n ∷ [])) is.alone ∙ append-nil (counts_in n is.only) ∙ own.rows

  -- One segment fits the order of its rows.
  pub alone-fits : (order : Order) → order ≡ stack (n ∷ []) → FitOrder order shapes
  alone-fits order e = subst (λ order. FitOrder order shapes) (sym e) record {
    segments = fit;
    few = subst (λ cs. sum cs < 2 ^ 32) (sym picked) is.few;
  }

  -- a stack of one segment has its cardinality
  cardinality : merged_cardinality (stack (n ∷ [])) shapes ≡ is.counted.cardinality
  cardinality = ap stacked_cardinality_of is.alone ∙ full-greater (cardinality_in is.only) ∙ own.cardinality

  -- The index of a stack of one segment counts what the segment does.
  pub alone-counted : (order : Order) (i : Index) → order ≡ stack (n ∷ []) → IsMerged order shapes i
      → counts_over n (index_shape i) ≡ Some is.counted
  alone-counted order i e merged =
      ap (λ m. counts_over m (index_shape i)) (sym (rows-alone n) ∙ ap (λ order. length (picks_of order)) (sym e))
      ∙ merged ∙ ap (λ order. Some (merged_counts order shapes)) e
      ∙ (λ j. Some (record { cardinality = cardinality j; of_rows = picked j }))

  -- Its rows with a value are within the limit.
  pub alone-within : (order : Order) (i : Index) → order ≡ stack (n ∷ []) → IsMerged order shapes i → IsIndex i
      → is_past_limit i ≡ false
  alone-within order full_index e merged sound = refl
  alone-within order (optional_index s) e merged sound = refl
  alone-within order (multivalued_index o) e merged sound =
      let c = counting n (multivalued_shape (offset_counts o)) is.counted (alone-counted order (multivalued_index o) e merged) in
      let many : length o.set.rows ≡ filled is.counted.of_rows =
      ap length (sym (offset_counts-rows o sound.offsets)) ∙ count-rows (offset_counts o) ∙ ap filled c.rows in
      ap (nat_le (2 ^ 32 - 1)) many
      ∙ ap (λ k. is_multivalued k && nat_le (2 ^ 32 - 1) (filled is.counted.of_rows)) c.cardinality
      ∙ is.within

  -- What was written of it counts what the segment does.
  pub alone-again : (order : Order) (i : Index) (start made : List ℕ) (len : ℕ) → start ≡ [] → order ≡ stack (n ∷ [])
      → IsMerged order shapes i
      → shape (index_bytes i) current_version ≡ Some (index_shape i)
      → Serializes (in_memory start) (in_memory made) (done (Ok len)) (index_bytes i) → CountsAlone n shapes made
  unfolding counts
  alone-again order i start made len none e merged again written s one =
      ap (λ bytes. counts bytes current_version n)
      (added_in_memory start made (index_bytes i) tt written ∙ ap (λ front. front ++ index_bytes i) none)
      ∙ ap (λ o. o >>= counts_over n) again
      ∙ alone-counted order i e merged
      ∙ sym is.read
      ∙ ap (counts_over n) (same-head is.only s (sym is.alone ∙ one))

-- ---- the index that was opened

-- counts that fit their cardinality are within the limit
fit-within : (c : Cardinality) (ks : List ℕ) → FitCounts c ks → (is_multivalued c && nat_le (2 ^ 32 - 1) (filled ks)) ≡ false
fit-within full ks h = refl
fit-within optional ks h = refl
fit-within multivalued ks h = lt-leb (2 ^ 32 - 1) (filled ks) h

-- An index that was opened stands alone.
pub opened-alone : (bytes : List ℕ) (version n : ℕ) (s : Shape) → IsCountable bytes version n → shape bytes version ≡ Some s
    → IsAlone n (s ∷ [])
unfolding counts
opened-alone bytes version n s known e = record {
  only = s;
  alone = refl;
  counted = known.counted;
  read = ap (λ o. o >>= counts_over n) (sym e) ∙ known.read;
  few = known.few;
  within =
      fit-within known.counted.cardinality known.counted.of_rows
      (counts-are bytes version n known.counted known.read).fit;
}

-- What counts as it does counts as its bytes do.
pub opened-again : (bytes : List ℕ) (version n : ℕ) (s : Shape) (made : List ℕ) → shape bytes version ≡ Some s
    → CountsAlone n (s ∷ []) made → counts made current_version n ≡ counts bytes version n
unfolding counts
opened-again bytes version n s made e again = again s refl ∙ ap (λ o. o >>= counts_over n) (sym e)

-- bytes that count rows are an index
pub opened-read : (bytes : List ℕ) (version n : ℕ) → IsCountable bytes version n → shape bytes version ≡ None → ⊥
unfolding counts
opened-read bytes version n known e =
    some≢none known.counted (sym known.read ∙ ap (λ o. o >>= counts_over n) e)
