-- What calls leave of a merged column.
use Rattle.std.proofs.Common.{◌≡◌, ◌⊎◌, ℕ, ◌<◌, ◌^◌, sum, Bool, true, false, List, [], ◌++◌, map, length, unwrap_or, Some, Result, Ok, Err, append_assoc, refl, sym, ap, ◌∙◌, subst, inl, inr, arith}
use Rattle.std.specs.Int.{w32, to_le_bytes}
use Rattle.std.specs.List.{AllByRecursion}
use Rattle.std.specs.Prelude.{OnOk}
use Rattle.std.proofs.lemmas.Bool.{true≢false}
use Rattle.std.proofs.lemmas.List.{length-map, map-id}
use Rattle.col_common.specs.Outside.{SeenSink}
use Rattle.col_common.specs.Serializing.{Serializes}
use Rattle.col_common.specs.declared.error.ColumnarError.{ColumnarError}
use Rattle.col_common.specs.declared.error.ColumnarError.TheVariants.{OutOfMemory, TooLarge}
use Rattle.col_common.proofs.SerializingLemmas.{serializes-then, serializes-no_memory}
use Rattle.col_common.proofs.OnOkLemmas.{on_ok-always, on_ok-map}
use Rattle.col_model.specs.Column.{number_rows}
use Rattle.col_model.specs.ColumnType.{ColumnType, has_terms}
use Rattle.col_model.specs.Index.{Counts, Shape, counts_over}
use Rattle.col_model.specs.Limits.{dictionary_length}
use Rattle.col_model.specs.Positions.{picked_counts}
use Rattle.col_model.specs.Order.{Order}
use Rattle.col_model.specs.Table.{Content}
use Rattle.col_model.specs.Version.{current_version}
use Rattle.col_order.specs.Orders.{counts_of, picks_of}
use Rattle.col_indexer.specs.Merged.{IsMerged, merged_counts}
use Rattle.col_indexer.specs.Spelling.{Index, index_shape}
use Rattle.col_terms.specs.Building.{ordered, ordinals, is_too_long, SerializesWithin}
use Rattle.col_terms.specs.Laws.{TermsAreThoseGiven, DictionariesAreReadBack}
use Rattle.col_terms.specs.TermTable.{dictionary_bytes}
use Rattle.col_column.specs.Columns.{row_count, counts_seen, IsCounted}
use Rattle.col_column.specs.Written.{StandForRows}
use Rattle.col_writer_rows.specs.Counted.{SerializesColumn}
use Rattle.col_text.specs.Texts.{Texts}
use Rattle.col_merge_texts.specs.Items.{IsAmong}
use Rattle.col_merge_values.specs.Merges.{Merge, IsMerge, picked_row, merged_rows, values_of}
use Rattle.col_merge_values.specs.Laws.{MergedValuesAreRows, IsOrdered, HasPickedRows}
use Rattle.col_merge_values.proofs.MergedRowLemmas.{length-merged, picks-there}
use Rattle.col_merge_values.specs.TermColumns.{remapped_columns}
use Rattle.col_writer_rows.proofs.TextLemmas.{stores-terms}
use Rattle.col_writer_rows.proofs.DictionaryLemmas.{written}
use Rattle.col_column.proofs.SerializeRowLemmas.{counts_over-seen}
use Rattle.col_merge_texts.specs.Noting.{Noted, ords_by}
use Rattle.col_merge_texts.specs.Merged.{shapes_of, merged_content, MergesTexts, has_long_terms}
use Rattle.col_merge_texts.specs.Taking.{AreTold, IsTaken, IsNowhere, AreNoted}
use Rattle.col_merge_texts.specs.Writing.{SerializesOrds}
use Rattle.col_merge_texts.proofs.ContentLemmas.{long-is, column-is}

-- Ok added bytes that stand for rows of n numbers of this type, with these counts, and how many
-- bytes the dictionary in front takes; a refusal has a cause.
pub record SerializesBehindTerms (old new : SeenSink) (result : Result (Unit {0}) ColumnarError) (t : ColumnType)
    (counts : Counts) (rows : List (List ℕ)) (dictionary_len : ℕ) : Type 0 where
  pub bytes : List ℕ
  pub again : OnOk result (number_rows bytes t current_version (length rows) ≡ Some (counts, rows))
  pub written : Serializes old new result (bytes ++ to_le_bytes w32 dictionary_len)

-- ---- a dictionary's terms

-- Ok says that they aren't too long
pub within-fits : (b : Bool) (old new : SeenSink) (done : Unit {0}) (bytes : List ℕ)
    → SerializesWithin b old new (Ok done) bytes → b ≡ false
within-fits true old new done bytes h = absurd (cc)
within-fits false old new done bytes h = refl

within-written : (b : Bool) (old new : SeenSink) (result : Result (Unit {0}) ColumnarError) (bytes : List ℕ)
    → b ≡ false → SerializesWithin b old new result bytes → Serializes old new result bytes
within-written true old new result bytes e h = absurd (true≢false e)
within-written false old new result bytes e h = h

-- a refusal of theirs
pub texts-stopped : (b long : Bool) (old new : SeenSink) (e : ColumnarError) (bytes : List ℕ) (t : ColumnType)
    (n : ℕ) (content : Content) → b ≡ long → SerializesWithin b old new (Err e) bytes
    → MergesTexts long old new (Err e) t n content
texts-stopped true true old new e bytes t n content same h = record { same = h.1; refused = inl h.0 }
texts-stopped true false old new e bytes t n content same h = absurd (true≢false same)
texts-stopped false true old new e bytes t n content same h = absurd (true≢false (sym same))
texts-stopped false false old new e bytes t n content same h = record { bytes = bytes; again = tt; written = h }

-- memory that is wanting behind them
pub texts-no_memory : (b long : Bool) (old new : SeenSink) (done : Unit {0}) (bytes : List ℕ) (t : ColumnType)
    (n : ℕ) (content : Content) → b ≡ long → SerializesWithin b old new (Ok done) bytes
    → MergesTexts long old new (Err OutOfMemory) t n content
texts-no_memory true long old new done bytes t n content same h = absurd (cc)
texts-no_memory false true old new done bytes t n content same h = absurd (true≢false (sym same))
texts-no_memory false false old new done bytes t n content same h =
    record {
      bytes = bytes ++ [];
      again = tt;
      written = serializes-then old new new done (Err OutOfMemory) bytes [] h (serializes-no_memory new []);
    }

-- a refusal before the first byte
pub texts-refused : (b : Bool) (sink : SeenSink) (e : ColumnarError) (t : ColumnType) (n : ℕ) (content : Content)
    → (e ≡ OutOfMemory) ⊎ ((e ≡ TooLarge) × (b ≡ true)) → MergesTexts b sink sink (Err e) t n content
texts-refused true sink e t n content h = record { same = refl; refused = elim h [ inl f ↦ inr (ap Err f) | inr f ↦ inl (ap Err f.0) ] }
texts-refused false sink e t n content h =
    record {
      bytes = [];
      again = tt;
      written = elim h [
        | inl f ↦ subst (λ r. Serializes sink sink (Err r) []) (sym f)
            (serializes-no_memory sink [])
        | inr f ↦ absurd (true≢false (sym f.1))
      ];
    }

-- ---- the whole column

merges-within : (long : Bool) (old new : SeenSink) (result : Result (Unit {0}) ColumnarError) (t : ColumnType)
    (n : ℕ) (content : Content) → long ≡ false → SerializesColumn old new result t n content
    → MergesTexts long old new result t n content
merges-within true old new result t n content e h = absurd (true≢false e)
merges-within false old new result t n content e h = h

module _ (columns : List Texts) (order : Order) (n : Noted) (told : AllByRecursion AreTold columns)
    (h : AreNoted columns (IsTaken columns order) IsNowhere n) (given : TermsAreThoseGiven)
    (back : DictionariesAreReadBack) (low : (p : ℕ × ℕ) → IsAmong p (picks_of order) → p.0 < length columns) where
  -- the dictionary, and then the ordinals with its length
  pub texts-written : (maps : List (List ℕ)) (old mid new : SeenSink) (done : Unit {0})
      (result : Result (Unit {0}) ColumnarError) (t : ColumnType) (len : ℕ) → has_terms t ≡ true
      → maps ≡ ords_by (ordinals n.terms) n.ids → len ≡ dictionary_length (ordered n.terms)
      → SerializesWithin (is_too_long n.terms) old mid (Ok done) (dictionary_bytes (ordered n.terms))
      → SerializesBehindTerms mid new result t (merged_counts order (shapes_of columns))
      (merged_rows (remapped_columns columns maps) (picks_of order)) len
      → MergesTexts (has_long_terms columns order) old new result t (length (picks_of order))
      (merged_content columns order)
  texts-written maps old mid new done result t len has turned e front behind =
      let dict = dictionary_bytes (ordered n.terms) in
      let last = to_le_bytes w32 (dictionary_length (ordered n.terms)) in
      let fits = within-fits (is_too_long n.terms) old mid done dict front in
      let known = written n.terms given back fits in
      let s = subst (λ ms. SerializesBehindTerms mid new result t (merged_counts order (shapes_of columns))
      (merged_rows (remapped_columns columns ms) (picks_of order)) len) turned behind in
      merges-within (has_long_terms columns order) old new result t (length (picks_of order))
      (merged_content columns order) (sym (long-is columns order n told h given) ∙ fits) (record {
        bytes = (dict ++ s.bytes) ++ last;
        again = on_ok-map result (column-is columns order n told h given low t s.bytes has known) s.again;
        written = subst (Serializes old new result) (sym (append_assoc dict s.bytes last))
            (serializes-then old mid new done result dict (s.bytes ++ last)
            (within-written (is_too_long n.terms) old mid (Ok done) dict fits front)
            (subst (λ k. Serializes mid new result (s.bytes ++ to_le_bytes w32 k)) e s.written));
      })

-- ---- ordinals behind a dictionary

counts-whole : (n m : ℕ) (s : Shape) (counts : Counts) → row_count s m ≡ n → counts_over n s ≡ Some counts → counts_seen s m ≡ counts
counts-whole n m s counts rows e = ap (λ o. unwrap_or o counts) (sym (counts_over-seen s m) ∙ ap (λ k. counts_over k s) rows ∙ e)

-- ordinals were written, and then the dictionary's length
pub ords-then : (s : Shape) (ords : List ℕ) (old mid new : SeenSink) (done : Unit {0})
    (result : Result (Unit {0}) ColumnarError) (bytes last : List ℕ) (len : ℕ) → last ≡ to_le_bytes w32 len
    → StandForRows bytes s (map (λ x. x) ords) → Serializes old mid (Ok done) bytes → Serializes mid new result last
    → SerializesOrds old new result s ords len
ords-then s ords old mid new done result bytes last len e stand first end = record {
  bytes = bytes;
  again = on_ok-always result (subst (StandForRows bytes s) (map-id ords) stand);
  written = serializes-then old mid new done result bytes (to_le_bytes w32 len) first (subst (Serializes mid new result) e end);
}

module _ (m : Merge ℕ) (ords : List ℕ) (same : ords ≡ values_of m) (is : IsMerge m) (in_order : IsOrdered m) where
  -- as many ordinals as are counted
  pub ords-few : sum (picked_counts m.columns.shapes (picks_of m.order)) < 2 ^ 32 → length ords < 2 ^ 32
  ords-few few =
      omega (
        arith,
        few,
        ap length same,
        length-merged m.columns (counts_of m.order) is (picks_of m.order) (picks-there m.order in_order),
      )

  module _ (law : MergedValuesAreRows ℕ) (i : Index) (merged : IsMerged m.order m.columns.shapes i) where
    picked : HasPickedRows m (index_shape i)
    picked = law m (index_shape i) (merged_counts m.order m.columns.shapes) is in_order (merged, refl)

    -- the index counts as many values as there are ordinals
    pub ords-counted : IsCounted (index_shape i) (length ords)
    ords-counted = subst (λ xs. IsCounted (index_shape i) (length xs)) (sym same) picked.counted

    -- they stand for the picked rows
    ords-read : (bytes : List ℕ) (t : ColumnType) → has_terms t ≡ true → StandForRows bytes (index_shape i) ords
        → number_rows bytes t current_version (length (merged_rows m.columns (picks_of m.order)))
        ≡ Some (merged_counts m.order m.columns.shapes, merged_rows m.columns (picks_of m.order))
    ords-read bytes t has stand =
        let xs = values_of m in
        let long : length (merged_rows m.columns (picks_of m.order)) ≡ row_count (index_shape i) (length xs) =
        length-map (picks_of m.order) (picked_row m.columns) ∙ sym picked.num_rows in
        let counts = counts-whole (length (picks_of m.order)) (length xs) (index_shape i)
        (merged_counts m.order m.columns.shapes) picked.num_rows merged in
        ap (number_rows bytes t current_version) long
        ∙ subst (StandForRows bytes (index_shape i)) same stand t (stores-terms t xs has)
        ∙ λ k. Some (counts k, picked.rows k)

    -- ordinals that are written behind a dictionary stand for the rows that the order picks
    pub ords-behind : (old new : SeenSink) (result : Result (Unit {0}) ColumnarError) (t : ColumnType) (len : ℕ)
        → has_terms t ≡ true → SerializesOrds old new result (index_shape i) ords len
        → SerializesBehindTerms old new result t (merged_counts m.order m.columns.shapes)
        (merged_rows m.columns (picks_of m.order)) len
    ords-behind old new result t len has s = record {
      bytes = s.bytes;
      again = on_ok-map result (ords-read s.bytes t has) s.again;
      written = s.written;
    }
