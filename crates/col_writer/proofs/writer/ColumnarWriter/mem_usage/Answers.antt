use Rattle.std.proofs.Common.{◌∙◌, ◌+◌, ◌*◌, ℕ, ap, sym, refl, length, map}
use Rattle.std.specs.Prelude.{sum_by}
use Rattle.std.specs.Ordering.{nat_cmp}
use Rattle.std.specs.Cmp.Lexicographic.{slice_cmp}
use Rattle.col_model.specs.Category as categories
use Rattle.col_model.specs.ColumnType as types
use Rattle.col_model.specs.Sorted.{distinct_items}
use Rattle.col_types.specs.Cells.{bool_cell, unsigned_cell}
use Rattle.col_writer_columns.specs.Columns.{text_entry, plain_entry}
use Rattle.col_writer_columns.specs.Texts.{RecordedTexts}
use Rattle.col_writer_columns.specs.Values.{time_cell}
use Rattle.col_writer.specs.Columns.{columns_of}
use Rattle.col_writer.specs.Usage.{records_bytes, up_to_64_bits}
use Rattle.col_writer.proofs.ListingLemmas.{each-differ}
use Rattle.col_writer.proofs.UsageLemmas.{named-sum, texts-bytes, plain-bytes, usage-is}
use Rattle.col_writer.proofs.writer.ColumnarWriter.mem_usage.Goals as goal

-- the bytes of texts
of_texts : RecordedTexts → ℕ
of_texts w = length w.values * 8 + sum_by length (distinct_items (slice_cmp nat_cmp) (map (λ p. p.1) w.values))

pub returns : goal.returns
unfolding of_texts
returns c =
    let w = c.self.inside in
    let m = columns_of w.numerical w.bytes w.strs w.bools w.ip_addrs w.datetimes in
    usage-is m c.args.self.now _ _ _ _ _ _ _ _ _ _ _ (record {
      numerical = each-differ (λ e. e) w.numerical c.columns_bytes.ensures.differ;
      bytes = each-differ (text_entry types.bytes) w.bytes c.columns_bytes-2.ensures.differ;
      str = each-differ (text_entry types.str) w.strs c.columns_bytes-3.ensures.differ;
      bool = each-differ (plain_entry types.bool bool_cell) w.bools c.columns_bytes-4.ensures.differ;
      ip = each-differ (plain_entry types.ip unsigned_cell) w.ip_addrs c.columns_bytes-5.ensures.differ;
      datetime = each-differ (plain_entry types.datetime time_cell) w.datetimes c.columns_bytes-6.ensures.differ;
    }) c.self.view_is
    (c.columns_bytes.ensures.bytes ∙ ap up_to_64_bits (sym (named-sum categories.numerical (λ e. e) (λ e. records_bytes e.records)
    w.numerical (λ e. refl))))
    (c.columns_bytes-2.ensures.bytes
    ∙ ap up_to_64_bits (sym (named-sum categories.bytes (text_entry types.bytes) of_texts w.bytes
    (λ t. texts-bytes types.bytes t.values refl))))
    (c.columns_bytes-3.ensures.bytes
    ∙ ap up_to_64_bits (sym (named-sum categories.str (text_entry types.str) of_texts w.strs
    (λ t. texts-bytes types.str t.values refl))))
    (c.columns_bytes-4.ensures.bytes
    ∙ ap up_to_64_bits (sym (named-sum categories.bool (plain_entry types.bool bool_cell) (λ v. length v.column * 5)
    w.bools (λ v. plain-bytes types.bool bool_cell 5 v.column (λ b. refl) refl))))
    (c.columns_bytes-5.ensures.bytes
    ∙ ap up_to_64_bits (sym (named-sum categories.ip (plain_entry types.ip unsigned_cell) (λ v. length v.column * 20)
    w.ip_addrs (λ v. plain-bytes types.ip unsigned_cell 20 v.column (λ n. refl) refl))))
    (c.columns_bytes-6.ensures.bytes
    ∙ ap up_to_64_bits (sym (named-sum categories.datetime (plain_entry types.datetime time_cell)
    (λ v. length v.column * 12) w.datetimes
    (λ v. plain-bytes types.datetime time_cell 12 v.column (λ n. refl) refl))))
    c.saturating_add.ensures c.saturating_add-2.ensures c.saturating_add-3.ensures c.saturating_add-4.ensures c.saturating_add-5.ensures
