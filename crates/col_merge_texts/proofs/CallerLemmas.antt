-- What callers have of merged texts, said of one pair of bytes.
use Rattle.std.proofs.Common.{◌≡◌, ℕ, ◌<◌, Bool, true, false, List, [], ◌∷◌, map, length, Some, Result, Ok, Err, refl, sym, subst, ap, ap₂, ◌∙◌, inl, inr, arith}
use Rattle.std.specs.Prelude.{OnOk}
use Rattle.std.specs.List.{AllByRecursion}
use Rattle.std.proofs.lemmas.List.{length-map}
use Rattle.std.proofs.lemmas.Bool.{true≢false}
use Rattle.col_common.specs.Outside.{SeenSink, Appends}
use Rattle.col_common.specs.Serializing.{Serializes, Stopped}
use Rattle.col_common.specs.declared.error.ColumnarError.{ColumnarError}
use Rattle.col_common.specs.declared.error.ColumnarError.TheVariants.{TooLarge}
use Rattle.col_common.proofs.SerializingLemmas.{appends_none}
use Rattle.col_model.specs.Column.{term_cell, column}
use Rattle.col_model.specs.ColumnType.{ColumnType}
use Rattle.col_model.specs.Order.{Order, picks}
use Rattle.col_model.specs.Positions.{picked_counts}
use Rattle.col_model.specs.Table.{Content}
use Rattle.col_model.specs.Version.{current_version}
use Rattle.col_model.proofs.ListLaws.{item-at}
use Rattle.col_order.specs.Orders.{counts_of, picks_of}
use Rattle.col_column.specs.Written.{Refused}
use Rattle.col_text.specs.Texts.{Texts}
use Rattle.col_merge_texts.specs.Items.{IsAmong}
use Rattle.col_merge_values.specs.Merges.{picked_row, merged_rows}
use Rattle.col_merge_values.specs.TermColumns.{term_columns}
use Rattle.col_merge_values.proofs.MergedRowLemmas.{picked-lengths, picks-there}
use Rattle.col_merge_texts.specs.Merged.{FitTexts, shapes_of, picked_cells, MergesTexts}
use Rattle.col_merge_texts.specs.Taking.{AreTold}
use Rattle.col_merge_texts.proofs.OrdinalLemmas.{fit-columns, picks-low}
use Rattle.col_merge_texts.proofs.TermLemmas.{picked-cells}

-- Ok added bytes that stand for the column, unless its terms are too long.
pub record LeavesTexts (long : Bool) (old new : SeenSink) (result : Result (Unit {0}) ColumnarError)
    (t : ColumnType) (n : ℕ) (content : Content) : Type 0 where
  pub bytes : List ℕ
  pub again : OnOk result (column bytes t current_version n ≡ Some content)
  pub written : long ≡ false → Serializes old new result bytes
  pub too_large : long ≡ true → Refused old new result TooLarge

-- a call that was stopped before the first byte was refused
pub stopped-refused : (old new : SeenSink) (result : Result (Unit {0}) ColumnarError)
    → Stopped old new result TooLarge → Refused old new result TooLarge
stopped-refused old new result h = record {
  grown = ([], subst (λ (s : SeenSink). Appends old s []) (sym h.same) (appends_none old));
  later = omega (arith, ap (λ (s : SeenSink). s.faults) h.same);
  write_fault = λ e. absurd (elim h.refused [ inl f ↦ cc | inr f ↦ cc ]);
  refused = elim h.refused [ inl f ↦ inl f | inr f ↦ inr (inl f) ];
}

never-ok : (P : Type 0) (old new : SeenSink) (result : Result (Unit {0}) ColumnarError) → Stopped old new result TooLarge → OnOk result P
never-ok P old new (Ok done) h = absurd (elim h.refused [ inl f ↦ cc | inr f ↦ cc ])
never-ok P old new (Err e) h = tt

-- merged texts leave bytes that stand for the column, unless their terms are too long
pub texts-left : (long : Bool) (old new : SeenSink) (result : Result (Unit {0}) ColumnarError) (t : ColumnType)
    (n : ℕ) (content : Content) → MergesTexts long old new result t n content
    → LeavesTexts long old new result t n content
texts-left true old new result t n content h = record {
  bytes = [];
  again = never-ok (column [] t current_version n ≡ Some content) old new result h;
  written = λ e. absurd (true≢false e);
  too_large = λ e. stopped-refused old new result h;
}
texts-left false old new result t n content h = record {
  bytes = h.bytes;
  again = h.again;
  written = λ e. h.written;
  too_large = λ e. absurd (true≢false (sym e));
}

-- ---- how many values the picked rows have

cell-lengths : (columns : List Texts) (ps : List (ℕ × ℕ)) → ((p : ℕ × ℕ) → IsAmong p ps → p.0 < length columns)
    → map length (map (picked_cells columns) ps) ≡ map length (merged_rows (term_columns columns) ps)
cell-lengths columns [] low = refl
cell-lengths columns (p ∷ ps) low =
    let c = item-at columns p.0 (low p (inl refl)) in
    let row = ap length (picked-cells columns p c.0 c.1) ∙ length-map (picked_row (term_columns columns) p) (term_cell c.0.terms) in
    ap₂ (λ n ns. n ∷ ns) row (cell-lengths columns ps (λ q i. low q (inr i)))

-- each row has as many cells as are counted
pub texts-lengths : (columns : List Texts) (order : Order) → FitTexts order columns
    → AllByRecursion AreTold columns → picks order (counts_of order) ≡ Some (picks_of order)
    → map length (map (picked_cells columns) (picks_of order)) ≡ picked_counts (shapes_of columns) (picks_of order)
texts-lengths columns order fit told all =
    cell-lengths columns (picks_of order) (picks-low columns order fit all)
    ∙ picked-lengths (term_columns columns) (counts_of order) (fit-columns (counts_of order) columns fit told)
    (picks_of order) (picks-there order all)
