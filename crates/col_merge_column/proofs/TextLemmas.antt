-- Joined columns of terms.
use Rattle.std.proofs.Common.{◌≡◌, ℕ, ◌^◌, ◌-◌, ◌==◌, not, Bool, true, false, List, [], ◌∷◌, length, map, Some, Result, Err, refl, sym, ap, subst, ◌∙◌, inl, inr, arith}
use Rattle.std.specs.Prelude.{nat_le, ◌&&◌, ◌||◌, sum, count_by}
use Rattle.std.specs.List.{AllByRecursion}
use Rattle.std.specs.Cmp.Lexicographic.{pointwise}
use Rattle.std.proofs.lemmas.Bool.{and_from, eq-eqb, true≢false}
use Rattle.col_common.specs.Outside.{SeenSink}
use Rattle.col_common.specs.Serializing.{Stopped}
use Rattle.col_common.specs.declared.error.ColumnarError.{ColumnarError}
use Rattle.col_common.specs.declared.error.ColumnarError.TheVariants.{TooLarge, OutOfMemory}
use Rattle.col_common.proofs.SerializingLemmas.{appends_none, serializes-no_memory}
use Rattle.col_model.specs.ColumnType.{ColumnType, has_terms}
use Rattle.col_model.specs.Index.{Shape, empty_shape, full_shape, optional_shape, multivalued_shape}
use Rattle.col_model.specs.Limits.{cell_count, is_multivalued, is_too_large}
use Rattle.col_model.specs.Order.{Order, picks}
use Rattle.col_model.specs.Table.{Content}
use Rattle.col_model.proofs.DecodedColumns.{codes-term}
use Rattle.col_order.specs.Orders.{counts_of, picks_of}
use Rattle.col_column.specs.Columns.{row_count, num_docs_in}
use Rattle.col_indexer.specs.Merged.{is_over, merged_cardinality}
use Rattle.col_indexer.specs.Merged as indexes
use Rattle.col_numbers.specs.NumValues.{num_values_of}
use Rattle.col_text.specs.Texts.{Texts}
use Rattle.col_merge_texts.specs.Merged.{FitTexts, shapes_of, picked_cells, merged_content, has_long_terms, MergesTexts}
use Rattle.col_merge_texts.specs.Taking.{AreTold}
use Rattle.col_merge_texts.proofs.CallerLemmas.{texts-left, texts-lengths}
use Rattle.col_merge_column.specs.Joins.{JoinsColumn}
use Rattle.col_merge_column.specs.Limits.{counts_picked, is_past_limits}
use Rattle.col_merge_column.proofs.LimitLemmas.{count-lengths, count-some}
use Rattle.col_merge_column.proofs.JoinLemmas.{joins-refused, not-false, not-true}

-- ---- the indexes

over-own : (s : Shape) (n : ℕ) → is_over (row_count s n) s ≡ true
over-own (empty_shape m) n = eq-eqb m m refl
over-own full_shape n = refl
over-own (optional_shape cs) n = eq-eqb (length cs) (length cs) refl
over-own (multivalued_shape cs) n = eq-eqb (length cs) (length cs) refl

over-all : (columns : List Texts)
    → pointwise is_over (map (λ (c : Texts). num_docs_in num_values_of c.ords) columns) (shapes_of columns) ≡ true
over-all [] = refl
over-all (c ∷ cs) =
    and_from (is_over (num_docs_in num_values_of c.ords) c.ords.shape)
    (pointwise is_over (map (λ (d : Texts). num_docs_in num_values_of d.ords) cs) (shapes_of cs))
    (over-own c.ords.shape (length (num_values_of c.ords.values))) (over-all cs)

-- columns of the segments' rows have indexes of them
pub texts-fit : (columns : List Texts) (order : Order) (shapes : List Shape) → FitTexts order columns
    → shapes ≡ shapes_of columns → indexes.FitSegments (counts_of order) shapes
texts-fit columns order shapes fit same =
    ap (pointwise is_over (counts_of order)) same
    ∙ ap (λ counts. pointwise is_over counts (shapes_of columns)) (sym fit) ∙ over-all columns

-- too long terms are refused before the first byte
merges-stopped : (long : Bool) (old new : SeenSink) (result : Result (Unit {0}) ColumnarError) (t : ColumnType)
    (n : ℕ) (content : Content) → MergesTexts long old new result t n content → long ≡ true
    → Stopped old new result TooLarge
merges-stopped true old new result t n content merges e = merges
merges-stopped false old new result t n content merges e = absurd (true≢false (sym e))

-- ---- the limits

or-false : (a : Bool) → (a || false) ≡ a
or-false true = refl
or-false false = refl

module _ (columns : List Texts) (order : Order) (fit : FitTexts order columns)
    (told : AllByRecursion AreTold columns) (all : picks order (counts_of order) ≡ Some (picks_of order))
    (t : ColumnType) (has : has_terms t ≡ true) where
  -- the column is too large exactly where its counts are past the limits, or its terms too long
  texts-large : is_too_large t (merged_content columns order)
      ≡ (is_past_limits order (shapes_of columns) || has_long_terms columns order || false)
  unfolding is_too_large
  texts-large =
      let rows = map (picked_cells columns) (picks_of order) in
      let lengths = texts-lengths columns order fit told all in
      let cells : cell_count rows ≡ sum (counts_picked order (shapes_of columns)) = count-lengths rows ∙ ap sum lengths in
      let some : count_by (λ row. not (length row == 0)) rows ≡ count_by (λ c. not (c == 0))
      (counts_picked order (shapes_of columns)) = count-some rows ∙ ap (count_by (λ c. not (c == 0))) lengths in
      let codes = codes-term t rows has in
      λ i. (nat_le (2 ^ 32) (cells i)
      || (is_multivalued (merged_cardinality order (shapes_of columns)) && nat_le (2 ^ 32 - 1) (some i))
      || has_long_terms columns order || codes i)

  -- without an index it is
  pub texts-unindexed : (a : SeenSink) (shapes : List Shape) → shapes ≡ shapes_of columns
      → false ≡ not (is_past_limits order shapes)
      → JoinsColumn a a (Err TooLarge) t (length (picks_of order)) (merged_content columns order)
  texts-unindexed a shapes same e =
      let past : is_past_limits order (shapes_of columns) ≡ true =
      not-false (is_past_limits order (shapes_of columns))
      (e ∙ ap (λ ss. not (is_past_limits order ss)) same) in
      joins-refused a t (length (picks_of order)) (merged_content columns order)
      (texts-large ∙ ap (λ b. b || has_long_terms columns order || false) past)

  -- with one it is where its terms are too long
  pub texts-joined : (old new : SeenSink) (result : Result (Unit {0}) ColumnarError) (shapes : List Shape)
      → shapes ≡ shapes_of columns → true ≡ not (is_past_limits order shapes)
      → MergesTexts (has_long_terms columns order) old new result t (length (picks_of order))
      (merged_content columns order)
      → JoinsColumn old new result t (length (picks_of order)) (merged_content columns order)
  texts-joined old new result shapes same e merges =
      let within : is_past_limits order (shapes_of columns) ≡ false =
      not-true (is_past_limits order (shapes_of columns)) (e ∙ ap (λ ss. not (is_past_limits order ss)) same) in
      let long : is_too_large t (merged_content columns order) ≡ has_long_terms columns order =
      texts-large ∙ ap (λ b. b || has_long_terms columns order || false) within
      ∙ or-false (has_long_terms columns order) in
      let left = texts-left (has_long_terms columns order) old new result t (length (picks_of order))
      (merged_content columns order) merges in
      record {
        bytes = left.bytes;
        again = left.again;
        written = λ f. left.written (sym long ∙ f);
        too_large = λ f. left.too_large (sym long ∙ f);
        stopped = λ f codes. merges-stopped (has_long_terms columns order) old new result t
            (length (picks_of order)) (merged_content columns order) merges (sym long ∙ f);
      }

-- want of memory before the first byte
pub joins-no_memory : (a : SeenSink) (e : ColumnarError) (t : ColumnType) (n : ℕ) (content : Content)
    → e ≡ OutOfMemory → JoinsColumn a a (Err e) t n content
joins-no_memory a e t n content same = subst (λ x. JoinsColumn a a (Err x) t n content) (sym same) (record {
  bytes = [];
  again = tt;
  written = λ f. serializes-no_memory a [];
  too_large = λ f. record {
    grown = ([], appends_none a);
    later = omega arith;
    write_fault = λ g. absurd (cc);
    refused = inr (inl refl);
  };
  stopped = λ f codes. record { same = refl; refused = inr refl };
})
