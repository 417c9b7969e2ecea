-- Calls that force a type, by the entry of their slot.
use Rattle.std.proofs.Common.{◌≡◌, ℕ, List, Bool, true, false, Some, Result, Ok, refl, sym, ◌∙◌, ap, subst}
use Rattle.std.specs.Prelude.{ℤ}
use Rattle.std.specs.FinMap.{put}
use Rattle.col_common.specs.declared.error.ColumnarError.{ColumnarError}
use Rattle.col_model.specs.ColumnType.{ColumnType, has_terms}
use Rattle.col_model.specs.ColumnType as types
use Rattle.col_model.specs.Category.{Category, category_of, slot_of, slot_cmp}
use Rattle.col_model.specs.Category as categories
use Rattle.col_model.specs.Written.{Entry, Recorded}
use Rattle.col_model.specs.Recording.{typed, tied, entry_of, no_records, content_after, denies}
use Rattle.col_model.specs.Refusal.{Refusal, ◌>>=◌, refuse_if, forced_type}
use Rattle.col_writer_columns.specs.Answers.{RecordsOrRefuses}
use Rattle.col_writer_columns.specs.Entries.{typed_entry, tied_entry}
use Rattle.col_writer.specs.Changes.{ByName, ChangesColumn}
use Rattle.col_writer.specs.Columns.{each_entry}
use Rattle.col_writer.specs.Contents.{WriterColumns, entries_in, with_entries, writer_content}
use Rattle.col_writer.proofs.CallLemmas.{Follows, change-records}

-- ---- a forced type

content-typed : (w : Recorded) (name : List ℕ) (t : ColumnType) (sorts : Bool)
    → content_after w (typed name t sorts)
    ≡ (typed_entry (entry_of w (slot_of name t)) t sorts >>= λ f. Ok (put slot_cmp (slot_of name t) f w))
unfolding content_after typed_entry
content-typed w name t sorts = joined (denies (entry_of w (slot_of name t)) t)
  where
    joined : (b : Bool) →
        (refuse_if b forced_type >>= λ _. Ok (put slot_cmp (slot_of name t) (record {
          records =
              (entry_of w (slot_of name t)).records;
          forced = Some t;
          sorts = sorts;
          tie_start = (entry_of w (slot_of name t)).tie_start;
        }) w))
        ≡
        ((refuse_if b forced_type >>= λ _. Ok (record {
          records = (entry_of w (slot_of name t)).records;
          forced = Some t;
          sorts = sorts;
          tie_start = (entry_of w (slot_of name t)).tie_start;
        })) >>=
        λ f. Ok (put slot_cmp (slot_of name t) f w))
    joined true = refl
    joined false = refl

-- a call that forces a type does of the content what it does of the entry
pub typed-follows : (name : List ℕ) (t : ColumnType) (sorts : Bool) (c : Category) → category_of t ≡ c
    → Follows (record { name = name; category = c }) (typed name t sorts) (λ e. typed_entry e t sorts)
typed-follows name t sorts c same w e at =
    content-typed w name t sorts
    ∙ ap (λ k. typed_entry (entry_of w (record { name = name; category = k })) t sorts >>=
    λ f. Ok (put slot_cmp (record { name = name; category = k }) f w)) same
    ∙ ap (λ x. typed_entry x t sorts >>= λ f. Ok (put slot_cmp (record { name = name; category = c }) f w)) at

-- ---- a tie start

content-tied : (w : Recorded) (name : List ℕ) (start : ℤ)
    → content_after w (tied name start)
    ≡ (tied_entry (entry_of w (slot_of name types.i64)) start >>=
    λ f. Ok (put slot_cmp (slot_of name types.i64) f w))
unfolding content_after tied_entry
content-tied w name start = joined (denies (entry_of w (slot_of name types.i64)) types.i64)
  where
    e : Entry
    e = entry_of w (slot_of name types.i64)

    joined : (b : Bool) →
        (refuse_if b forced_type >>= λ _. Ok (put slot_cmp (slot_of name types.i64)
        (record { records = e.records; forced = Some types.i64; sorts = e.sorts; tie_start = Some start }) w))
        ≡
        ((refuse_if b forced_type >>= λ _. Ok
        (record { records = e.records; forced = Some types.i64; sorts = e.sorts; tie_start = Some start })) >>=
        λ f. Ok (put slot_cmp (slot_of name types.i64) f w))
    joined true = refl
    joined false = refl

-- a call that sets a tie start does of the content what it does of the entry
pub tied-follows : (name : List ℕ) (start z : ℤ) → z ≡ start
    → Follows (record { name = name; category = categories.numerical }) (tied name start) (λ e. tied_entry e z)
tied-follows name start z same w e at =
    content-tied w name start
    ∙ ap (λ x. tied_entry x start >>= λ f. Ok (put slot_cmp (record { name = name; category = categories.numerical }) f w)) at
    ∙ ap (λ y. tied_entry e y >>= λ f. Ok (put slot_cmp (record { name = name; category = categories.numerical }) f w)) (sym same)

-- ---- a type that is asked for

-- texts alone are sorted
pub unsorted : (sorts : Bool) (k t : ColumnType) → k ≡ t → (sorts ≡ true → has_terms k ≡ true) → has_terms t ≡ false → sorts ≡ false
unsorted false k t is h e = refl
unsorted true k t is h e = let own = h refl in let other = ap has_terms is in cc

-- a change of one column is a call that asks for its type
pub type-asked : {X : Type 0} (m : WriterColumns) (f : X → Entry) (old new : ByName X) (name : List ℕ) (k t : ColumnType)
    (sorts own : Bool) (now : Recorded) (r : Result (Unit {0}) ColumnarError) (IsEmpty : X → Type 0)
    (Makes : X → X → Result (Unit {0}) ColumnarError → Type 0) → entries_in m (category_of t) ≡ each_entry f old
    → writer_content m ≡ now → k ≡ t → sorts ≡ own → ((w : X) → IsEmpty w → f w ≡ no_records)
    → ((w v : X) → Makes w v r → RecordsOrRefuses (f w) (f v) r (typed_entry (f w) t own))
    → ChangesColumn IsEmpty Makes name old new r
    → RecordsOrRefuses now (writer_content (with_entries m (category_of t) (each_entry f new))) r
    (content_after now (typed name k sorts))
type-asked m f old new name k t sorts own now r IsEmpty Makes these is kind same empty made change =
    let after = writer_content (with_entries m (category_of t) (each_entry f new)) in
    subst (λ x. RecordsOrRefuses now after r (content_after now (typed name x sorts))) (sym kind)
    (subst (λ x. RecordsOrRefuses now after r (content_after now (typed name t x))) (sym same)
    (change-records m (category_of t) f old new name (typed name t own) (λ e. typed_entry e t own) these
    (typed-follows name t own (category_of t) refl) IsEmpty Makes now r is empty made change))

-- an answer that is Ok
pub ok-records : (e f : Entry) (r : Result (Unit {0}) ColumnarError) (expected : Result Entry Refusal) → r ≡ Ok tt
    → RecordsOrRefuses e f (Ok tt) expected → RecordsOrRefuses e f r expected
ok-records e f r expected is h = subst (λ o. RecordsOrRefuses e f o expected) (sym is) h
