-- Calls that record, by the entry of their slot.
use Rattle.std.proofs.Common.{◌≡◌, ◌⊎◌, List, [], ◌∷◌, ◌++◌, length, Bool, true, false, cond, Some, Result, Ok, Err, refl, sym, ◌∙◌, ap, inl, inr}
use Rattle.std.specs.Prelude.{ℕ, bytes_eq, nat_le, ◌-◌, ◌^◌}
use Rattle.std.specs.declared.cmp.Ordering.{Ordering}
use Rattle.std.specs.declared.cmp.Ordering.TheVariants.{Less, Equal, Greater}
use Rattle.std.specs.Ordering.{is_eq, nat_cmp, ordering_then}
use Rattle.std.specs.Cmp.{eq_by_cmp_equiv}
use Rattle.std.proofs.lemmas.Cmp.{nat_list_cmp_total}
use Rattle.std.specs.Cmp.Lexicographic.{slice_cmp}
use Rattle.std.specs.Map.{update}
use Rattle.std.specs.FinMap.{put, nat_cmp-IsAntisymmetric}
use Rattle.std.proofs.lemmas.Map.Text.{is_eq-slice_cmp}
use Rattle.col_common.specs.declared.error.ColumnarError.{ColumnarError}
use Rattle.col_common.specs.declared.error.ColumnarError.TheVariants as answers
use Rattle.col_model.specs.ColumnType.{ColumnType}
use Rattle.col_model.specs.Table.{Cell}
use Rattle.col_model.specs.Category.{Category, category_place, Slot, slot_of, slot_cmp, same_slot}
use Rattle.col_model.specs.Category as categories
use Rattle.col_model.specs.Written.{Entry, Recorded}
use Rattle.col_model.specs.Recording.{entry_of, recorded, content_after, forces_other, is_late}
use Rattle.col_model.specs.Refusal.{Refusal, ◌>>=◌, refuse_if, forced_type, doc_order, too_large}
use Rattle.col_writer_columns.specs.Answers.{RecordsOrRefuses, Refuses}
use Rattle.col_writer_columns.specs.Entries.{recorded_entry}
use Rattle.col_writer.specs.Contents.{Named, WriterColumns, entries_in, with_entries, writer_content}
use Rattle.col_writer.proofs.ContentLemmas.{entry_at, apart, Puts, content-put, put-found}
use Rattle.col_model.proofs.OrderedColumns.{category_at, place-category}

-- ---- one category changes

entries-with : (m : WriterColumns) (c : Category) (es : Named) (k : Category)
    → entries_in (with_entries m c es) k
    ≡ cond (is_eq (nat_cmp (category_place k) (category_place c))) es (entries_in m k)
entries-with m categories.numerical es categories.numerical = refl
entries-with m categories.numerical es categories.bytes = refl
entries-with m categories.numerical es categories.str = refl
entries-with m categories.numerical es categories.bool = refl
entries-with m categories.numerical es categories.ip = refl
entries-with m categories.numerical es categories.datetime = refl
entries-with m categories.bytes es categories.numerical = refl
entries-with m categories.bytes es categories.bytes = refl
entries-with m categories.bytes es categories.str = refl
entries-with m categories.bytes es categories.bool = refl
entries-with m categories.bytes es categories.ip = refl
entries-with m categories.bytes es categories.datetime = refl
entries-with m categories.str es categories.numerical = refl
entries-with m categories.str es categories.bytes = refl
entries-with m categories.str es categories.str = refl
entries-with m categories.str es categories.bool = refl
entries-with m categories.str es categories.ip = refl
entries-with m categories.str es categories.datetime = refl
entries-with m categories.bool es categories.numerical = refl
entries-with m categories.bool es categories.bytes = refl
entries-with m categories.bool es categories.str = refl
entries-with m categories.bool es categories.bool = refl
entries-with m categories.bool es categories.ip = refl
entries-with m categories.bool es categories.datetime = refl
entries-with m categories.ip es categories.numerical = refl
entries-with m categories.ip es categories.bytes = refl
entries-with m categories.ip es categories.str = refl
entries-with m categories.ip es categories.bool = refl
entries-with m categories.ip es categories.ip = refl
entries-with m categories.ip es categories.datetime = refl
entries-with m categories.datetime es categories.numerical = refl
entries-with m categories.datetime es categories.bytes = refl
entries-with m categories.datetime es categories.str = refl
entries-with m categories.datetime es categories.bool = refl
entries-with m categories.datetime es categories.ip = refl
entries-with m categories.datetime es categories.datetime = refl

is_eq-turned : (xs ys : List ℕ) → is_eq (slice_cmp nat_cmp xs ys) ≡ bytes_eq ys xs
is_eq-turned xs ys = (eq_by_cmp_equiv nat_list_cmp_total).symm xs ys ∙ is_eq-slice_cmp ys xs

kept : (o : Ordering) → is_eq (ordering_then o Equal) ≡ is_eq o
kept Less = refl
kept Equal = refl
kept Greater = refl

-- the entries of a category after an update at a name
unfoldable pub UpdatesName : List ℕ → Entry → Named → Named → Type 0
UpdatesName name e old new = (bs : List ℕ) → entry_at bs new ≡ update bytes_eq (λ cs. entry_at cs old) name (Some e) bs

-- columns that are looked up as an update says have the entry under the name, and else what they
-- had
pub updates : (name : List ℕ) (e : Entry) (old new : Named)
    → ((bs : List ℕ) → entry_at bs new ≡ update bytes_eq (λ cs. entry_at cs old) name (Some e) bs)
    → UpdatesName name e old new
unfolding UpdatesName
updates name e old new h = h

-- an update of a category's entries at a name puts the entry under the slot
pub puts-with : (m : WriterColumns) (c : Category) (es : Named) (name : List ℕ) (e : Entry)
    → UpdatesName name e (entries_in m c) es → Puts (record { name = name; category = c }) e m (with_entries m c es)
unfolding Puts UpdatesName
puts-with m c es name e up q =
    ap (entry_at q.name) (entries-with m c es q.category) ∙ by (nat_cmp (category_place q.category) (category_place c)) refl
  where
    by : (o : Ordering) → nat_cmp (category_place q.category) (category_place c) ≡ o →
        entry_at q.name (cond (is_eq o) es (entries_in m q.category))
        ≡ cond (is_eq (ordering_then (slice_cmp nat_cmp q.name name) o)) (Some e)
        (entry_at q.name (entries_in m q.category))
    by Less p =
        sym (ap (λ b. cond b (Some e) (entry_at q.name (entries_in m q.category)))
        (apart (slice_cmp nat_cmp q.name name) Less refl))
    by Greater p =
        sym (ap (λ b. cond b (Some e) (entry_at q.name (entries_in m q.category)))
        (apart (slice_cmp nat_cmp q.name name) Greater refl))
    by Equal p =
        let kinds : q.category ≡ c = sym (place-category q.category) ∙ ap category_at (nat_cmp-IsAntisymmetric _ _ p) ∙ place-category c in
        up q.name
        ∙ ap (λ b. cond b (Some e) (entry_at q.name (entries_in m c)))
        (sym (kept (slice_cmp nat_cmp q.name name) ∙ is_eq-turned q.name name))
        ∙ ap (λ k. cond (is_eq (ordering_then (slice_cmp nat_cmp q.name name) Equal)) (Some e)
        (entry_at q.name (entries_in m k))) (sym kinds)

-- ---- the content after a record

-- what a record makes of the content is what it makes of its slot's entry, put under the slot
pub content-recorded : (w : Recorded) (d : ℕ) (name : List ℕ) (t : ColumnType) (cell : Cell)
    → content_after w (recorded d name t cell)
    ≡ (recorded_entry (entry_of w (slot_of name t)) d t cell >>= λ f. Ok (put slot_cmp (slot_of name t) f w))
unfolding content_after recorded_entry
content-recorded w d name t cell =
    joined (forces_other e.forced t) (is_late e.records d) (nat_le (2 ^ 32 - 1) (length e.records))
  where
    e : Entry
    e = entry_of w (slot_of name t)

    joined : (a b c : Bool) →
        (refuse_if a forced_type >>= λ _. refuse_if b doc_order >>= λ _. refuse_if c too_large >>= λ _. Ok (put
        slot_cmp (slot_of name t) (record (entry_of w (slot_of name t)) {
          records = (entry_of w (slot_of name t)).records ++ record { doc = d; recorded_type = t; cell = cell }
              ∷ [];
        }) w))
        ≡
        ((refuse_if a forced_type >>= λ _. refuse_if b doc_order >>= λ _. refuse_if c too_large >>= λ _. Ok
        (record (entry_of w (slot_of name t)) {
          records = (entry_of w (slot_of name t)).records
              ++ record { doc = d; recorded_type = t; cell = cell } ∷ [];
        })) >>=
        λ f. Ok (put slot_cmp (slot_of name t) f w))
    joined true b c = refl
    joined false true c = refl
    joined false false true = refl
    joined false false false = refl

-- what a call answers of the content, by what it answers of the entry of its slot
abbrev pub Lifts : Slot → Recorded → Result Entry Refusal → Result Recorded Refusal → Type 0
Lifts s w expected whole = whole ≡ (expected >>= λ f. Ok (put slot_cmp s f w))

pub refuses-lifted : (s : Slot) (w : Recorded) (expected : Result Entry Refusal) (whole : Result Recorded Refusal)
    (x : ColumnarError) → Lifts s w expected whole → (x ≡ answers.OutOfMemory) ⊎ Refuses expected x
    → (x ≡ answers.OutOfMemory) ⊎ Refuses whole x
refuses-lifted s w expected whole x is (inl m) = inl m
refuses-lifted s w expected whole x is (inr (r, at, as_answer)) = inr (r, is ∙ ap (λ o. o >>= λ f. Ok (put slot_cmp s f w)) at, as_answer)

-- where the slot has an entry, which the call changes in its place
pub lifted-found : (s : Slot) (m n : WriterColumns) (e e' : Entry) (r : Result (Unit {0}) ColumnarError)
    (expected : Result Entry Refusal) (whole : Result Recorded Refusal)
    → entry_at s.name (entries_in m s.category) ≡ Some e → Puts s e' m n → RecordsOrRefuses e e' r expected
    → Lifts s (writer_content m) expected whole → RecordsOrRefuses (writer_content m) (writer_content n) r whole
lifted-found s m n e e' (Ok tt') expected whole found puts h is =
    record {
      ok = is ∙ ap (λ o. o >>= λ f. Ok (put slot_cmp s f (writer_content m))) h.ok
          ∙ ap Ok (sym (content-put s e' m n puts));
      refused = tt;
      kept = tt;
    }
lifted-found s m n e e' (Err x) expected whole found puts h is =
    record {
      ok = tt;
      refused = refuses-lifted s (writer_content m) expected whole x is h.refused;
      kept = content-put s e' m n puts ∙ ap (λ f. put slot_cmp s f (writer_content m)) h.kept ∙ put-found s e m found;
    }

-- where it has none yet
pub lifted-new :
    (s : Slot) (m n : WriterColumns) (e e' : Entry) (expected : Result Entry Refusal) (whole : Result Recorded Refusal)
    → Puts s e' m n → RecordsOrRefuses e e' (Ok tt) expected → Lifts s (writer_content m) expected whole
    → RecordsOrRefuses (writer_content m) (writer_content n) (Ok tt) whole
lifted-new s m n e e' expected whole puts h is =
    record {
      ok = is ∙ ap (λ o. o >>= λ f. Ok (put slot_cmp s f (writer_content m))) h.ok
          ∙ ap Ok (sym (content-put s e' m n puts));
      refused = tt;
      kept = tt;
    }
