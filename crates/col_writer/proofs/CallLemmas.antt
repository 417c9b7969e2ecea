-- What a call makes of the content, by what it makes of one column.
use Rattle.std.proofs.Common.{◌≡◌, ℕ, List, Some, None, Result, Ok, Err, refl, sym, ◌∙◌, ap, subst, inl}
use Rattle.std.specs.Prelude.{OnOk, OnErr}
use Rattle.std.specs.FinMap.{put}
use Rattle.col_common.specs.declared.error.ColumnarError.{ColumnarError}
use Rattle.col_common.specs.declared.error.ColumnarError.TheVariants as answers
use Rattle.col_model.specs.ColumnType.{ColumnType}
use Rattle.col_model.specs.Table.{Cell}
use Rattle.col_model.specs.Category.{Category, category_of, Slot, slot_cmp}
use Rattle.col_model.specs.Category as categories
use Rattle.col_model.specs.Written.{Entry, Recorded}
use Rattle.col_model.specs.Recording.{Call, recorded, entry_of, no_records, content_after}
use Rattle.col_model.specs.Refusal.{Refusal, ◌>>=◌}
use Rattle.col_types.specs.declared.numerical_value.NumericalValue.{NumericalValue}
use Rattle.col_types.specs.declared.numerical_value.NumericalValue.TheVariants.{I64, U64}
use Rattle.col_writer_columns.specs.Values.{value_type}
use Rattle.col_writer_columns.specs.Answers.{RecordsOrRefuses}
use Rattle.col_writer_columns.specs.Entries.{recorded_entry}
use Rattle.col_writer.specs.Changes.{ByName, column_at, SetsColumn, ChangesColumn, of_name, of_none, wanting}
use Rattle.col_writer.specs.Columns.{each_entry}
use Rattle.col_writer.specs.Contents.{WriterColumns, entries_in, with_entries, writer_content, IsNew}
use Rattle.col_writer.proofs.ContentLemmas.{entry_at, entry_of-found, entry_of-new, find-content}
use Rattle.col_writer.proofs.EntryLemmas.{each-updates, entry-found, entry-missing}
use Rattle.col_writer.proofs.RecordingLemmas.{Lifts, UpdatesName, puts-with, content-recorded, lifted-found, lifted-new, refuses-lifted}

-- what a call makes of the content follows from what it makes of the entry of its slot
abbrev pub Follows : Slot → Call → (Entry → Result Entry Refusal) → Type 0
Follows s call after = (w : Recorded) (e : Entry) → entry_of w s ≡ e → Lifts s w (after e) (content_after w call)

-- columns keep what they have of a category
with-same : (m : WriterColumns) (c : Category) → with_entries m c (entries_in m c) ≡ m
with-same m categories.numerical = refl
with-same m categories.bytes = refl
with-same m categories.str = refl
with-same m categories.bool = refl
with-same m categories.ip = refl
with-same m categories.datetime = refl

module _ {X : Type 0} (m : WriterColumns) (c : Category) (f : X → Entry) (old new : ByName X) (name : List ℕ)
    (call : Call) (after : Entry → Result Entry Refusal) (these : entries_in m c ≡ each_entry f old)
    (law : Follows (record { name = name; category = c }) call after) where
  -- the content after the call
  abbrev After : Recorded
  After = writer_content (with_entries m c (each_entry f new))

  kept-content : new ≡ old → After ≡ writer_content m
  kept-content is =
      ap (λ es. writer_content (with_entries m c (each_entry f es))) is
      ∙ ap (λ es. writer_content (with_entries m c es)) (sym these) ∙ ap writer_content (with-same m c)

  puts : (v : X) → SetsColumn name v old new → UpdatesName name (f v) (entries_in m c) (each_entry f new)
  puts v set = subst (λ es. UpdatesName name (f v) es (each_entry f new)) (sym these) (each-updates f name v old new set)

  new-name : column_at name old ≡ None → IsNew c name (writer_content m)
  new-name none =
      find-content m (record { name = name; category = c }) ∙ ap (entry_at name) these ∙ entry-missing f name old none

  found-records : (w v : X) (r : Result (Unit {0}) ColumnarError) → column_at name old ≡ Some w → SetsColumn name v old new
      → RecordsOrRefuses (f w) (f v) r (after (f w))
      → RecordsOrRefuses (writer_content m) After r (content_after (writer_content m) call)
  found-records w v r found set answer =
      let there : entry_at name (entries_in m c) ≡ Some (f w) = ap (entry_at name) these ∙ entry-found f name old w found in
      lifted-found (record { name = name; category = c }) m (with_entries m c (each_entry f new)) (f w) (f v) r _ _ there
      (puts-with m c (each_entry f new) name (f v) (puts v set)) answer
      (law (writer_content m) (f w) (entry_of-found (record { name = name; category = c }) (f w) m there))

  none-records : (w v : X) (r : Result (Unit {0}) ColumnarError) → column_at name old ≡ None → f w ≡ no_records
      → RecordsOrRefuses (f w) (f v) r (after (f w)) → OnOk r (SetsColumn name v old new) → OnErr r (new ≡ old)
      → RecordsOrRefuses (writer_content m) After r (content_after (writer_content m) call)
  none-records w v (Ok u) none fresh answer set kept =
      lifted-new (record { name = name; category = c }) m (with_entries m c (each_entry f new)) (f w) (f v) _ _
      (puts-with m c (each_entry f new) name (f v) (puts v set)) answer
      (law (writer_content m) (f w) (entry_of-new m c name (writer_content m) (f w) refl (new-name none) fresh))
  none-records w v (Err x) none fresh answer set kept =
      record {
        ok = tt;
        refused = refuses-lifted (record { name = name; category = c }) (writer_content m) _ _ x
            (law (writer_content m) (f w) (entry_of-new m c name (writer_content m) (f w) refl (new-name none) fresh))
            answer.refused;
        kept = kept-content kept;
      }

  wanting-records : (r : Result (Unit {0}) ColumnarError) → r ≡ Err answers.OutOfMemory → new ≡ old
      → RecordsOrRefuses (writer_content m) After r (content_after (writer_content m) call)
  wanting-records r is kept =
      subst (λ o. RecordsOrRefuses (writer_content m) After o (content_after (writer_content m) call)) (sym is)
      (record { ok = tt; refused = inl refl; kept = kept-content kept })

  -- a change of one column is a call that records
  pub change-records : (IsEmpty : X → Type 0) (Makes : X → X → Result (Unit {0}) ColumnarError → Type 0) (now : Recorded)
      (r : Result (Unit {0}) ColumnarError) → writer_content m ≡ now → ((w : X) → IsEmpty w → f w ≡ no_records)
      → ((w v : X) → Makes w v r → RecordsOrRefuses (f w) (f v) r (after (f w)))
      → ChangesColumn IsEmpty Makes name old new r → RecordsOrRefuses now After r (content_after now call)
  change-records IsEmpty Makes now r is empty made change =
      subst (λ w. RecordsOrRefuses w After r (content_after w call)) is (by change)
    where
      by : ChangesColumn IsEmpty Makes name old new r
          → RecordsOrRefuses (writer_content m) After r (content_after (writer_content m) call)
      by (of_name w v found h set) = found-records w v r found set (made w v h)
      by (of_none w v none e h set kept) = none-records w v r none (empty w e) (made w v h) set kept
      by (wanting out kept) = wanting-records r out kept

-- a record, by the entry of its slot
pub recorded-follows : (name : List ℕ) (d : ℕ) (t : ColumnType) (cell : Cell) (c : Category) → category_of t ≡ c
    → Follows (record { name = name; category = c }) (recorded d name t cell) (λ e. recorded_entry e d t cell)
recorded-follows name d t cell c same w e at =
    content-recorded w d name t cell
    ∙ ap (λ k. recorded_entry (entry_of w (record { name = name; category = k })) d t cell >>=
    λ f. Ok (put slot_cmp (record { name = name; category = k }) f w)) same
    ∙ ap (λ x. recorded_entry x d t cell >>= λ f. Ok (put slot_cmp (record { name = name; category = c }) f w)) at

-- numbers are recorded among numbers
pub value-kind : (v : NumericalValue) → category_of (value_type v) ≡ categories.numerical
value-kind (I64 z) = refl
value-kind (U64 n) = refl
