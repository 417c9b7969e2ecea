-- The column of a slot is the one that the definition joins.
use Rattle.std.proofs.Common.{◌≡◌, ◌⊎◌, inl, inr, ℕ, zero, suc, ◌<◌, ◌==◌, Bool, true, false, cond, List, [], ◌∷◌, length, map, get_or, slice_get, unwrap_or, option_map, Some, None, Ok, Err, refl, sym, ap, ap₂, ◌∙◌, subst, arith}
use Rattle.std.specs.Prelude.{Option, Result, ◌&&◌, ◌||◌, is_none, is_some}
use Rattle.std.specs.List.{list_all, list_any, AllByRecursion}
use Rattle.std.proofs.lemmas.Bool.{true≢false, false≢true, ne_eqb, cases_lt}
use Rattle.std.proofs.lemmas.List.{length-map, get_or_past}
use Rattle.std.proofs.lemmas.List.FromFn.{get_or-map-range_with_len, length-map-range_with_len}
use Rattle.std.proofs.lemmas.Option.{none-some, slice_get_within}
use Rattle.col_common.specs.Outside.{SeenSink}
use Rattle.col_common.specs.declared.error.ColumnarError.{ColumnarError}
use Rattle.col_common.specs.declared.error.ColumnarError.TheVariants.{OutOfMemory, WriteFault, CannotCoerce, NumericalConflict, TooLarge}
use Rattle.col_model.proofs.SharedTypes.{some≢none}
use Rattle.col_model.specs.Category.{Slot}
use Rattle.col_model.specs.ColumnType as types
use Rattle.col_model.specs.File.{Part}
use Rattle.col_model.specs.Index.{Shape, empty_shape}
use Rattle.col_model.specs.Limits.{is_too_large, is_of_type}
use Rattle.col_model.specs.Merge.{Required, required_type, kept_columns, joined_content, joined_column, joined_type, shared_type, row_counts, has_bad_column, all_cells}
use Rattle.col_model.specs.Order.{Order, picks, has_row}
use Rattle.col_model.specs.Refusal.{Refusal, ◌>>=◌, refuse_if, or_refuse, invalid_data, cannot_coerce, numerical_conflict, too_large}
use Rattle.col_model.specs.Table.{Cell, Column, Content}
use Rattle.col_order.specs.Orders.{counts_of, picks_of, error_of}
use Rattle.col_column.specs.Columns.{content_seen}
use Rattle.col_types.specs.Kinds.{kind_of}
use Rattle.col_types.specs.declared.column_type.ColumnType.{ColumnType}
use Rattle.col_dynamic.specs.declared.dynamic_column.DynamicColumn.{DynamicColumn}
use Rattle.col_merge_column.proofs.MergedRowLemmas.{picks-there}
use Rattle.col_merge_column.specs.Merges.{SegmentColumns, segment_shape, segment_values, merge_of}
use Rattle.col_merge_column.specs.Joins.{picked_content, JoinsColumn}
use Rattle.col_merge_column.specs.Slots.{AreNoTexts, IsKeptAs, AreKeptAs, PickedContentIsJoined}
use Rattle.col_common.proofs.OnOkLemmas.{same-error}
use Rattle.col_merge_slot.specs.JoinedSlots.{AreOpened, AddsJoined, IsRefusedAs, AreKept, IsJoinedContent, WritesJoined, WritesSlot, AreFlags, IsTypeFor, IsKeptType}
use Rattle.col_merge_slot.specs.Kept.{has_value, keeps, kept_flags, IsCountedIn, IsOwn, IsOwnIn}
use Rattle.col_merge_slot.specs.Segments.{where_set, kept_of, column_seen, IsOfCategory, HaveRows, IsSegmentAs, AreSegmentColumns, is_read_as}
use Rattle.col_merge_slot.proofs.PartLemmas.{are-kept, kept-columns, kept-category, not-bad, required-category, kept-each}
use Rattle.col_merge_slot.proofs.SegmentLemmas.{all-read}
use Rattle.col_merge_slot.proofs.SharedLemmas.{shared-read, wanted-type}

-- ---- what stands in a joined column of numbers

-- the row count at a place is that of the part there
pub row-count-at : (parts : List Part) (k : ℕ) (p : Part) → slice_get parts k ≡ Some p → get_or (row_counts parts) k 0 ≡ p.row_count
row-count-at [] zero p e = absurd (none-some p e)
row-count-at [] (suc k) p e = absurd (none-some p e)
row-count-at (q ∷ parts) zero p e = ap (λ o. unwrap_or (option_map (λ (r : Part). r.row_count) o) 0) e
row-count-at (q ∷ parts) (suc k) p e = row-count-at parts k p e

segment-kept :
    {T : Type 0} (cell : T → Cell) (name : List ℕ) (n m : ℕ) (o : Option DynamicColumn) (s : Shape) (xs : List T)
    → n ≡ m → IsSegmentAs (content_seen [] cell) n o s xs → IsKeptAs cell m (option_map (column_seen name) o) s xs
segment-kept cell name n m None s xs e is = is ∙ ap empty_shape e
segment-kept cell name n m (Some c) s xs e is = is

-- the columns that segments keep as numbers have what the definition joins
pub content-joined : {T : Type 0} (cell : T → Cell) (t : types.ColumnType) (order : Order)
    (kept : List (Option DynamicColumn)) (c : SegmentColumns T) → PickedContentIsJoined T → AreNoTexts cell
    → picks order (counts_of order) ≡ Some (picks_of order) → AreSegmentColumns t cell (counts_of order) kept c
    → IsJoinedContent order kept (picked_content cell (merge_of c order))
content-joined {T = T} cell t order kept c law numbers ordered are slot parts same is =
    law cell slot parts (merge_of c order) numbers are.columns ordered (sym same) each
  where
    each : AreKeptAs cell slot (picks_of order) parts c
    each k p e =
        let within : k < length (counts_of order) =
        omega
        (arith, slice_get_within parts k p e, ap length same, length-map parts (λ (r : Part). r.row_count)) in
        let count : get_or (counts_of order) k 0 ≡ p.row_count = ap (λ counts. get_or counts k 0) (sym same) ∙ row-count-at parts k p e in
        subst (λ o. IsKeptAs cell p.row_count o (segment_shape c k) (segment_values c k)) (sym (is.each k p e))
        (segment-kept cell slot.name (get_or (counts_of order) k 0) p.row_count (get_or kept k None)
        (segment_shape c k) (segment_values c k) count (are.each k within))

-- ---- the definition, step by step

module _ (order : Order) (picked : List (ℕ × ℕ)) (parts : List Part) (required : List Required) (slot : Slot) where
  abbrev content : Content
  content = joined_content order slot picked parts (kept_columns slot picked parts)

  abbrev made : types.ColumnType → Column
  made t = record { name = slot.name; column_type = t; content = content }

  abbrev within-limits : types.ColumnType → Result (Option Column) Refusal
  within-limits t = refuse_if (is_too_large t content) too_large >>= λ _. Ok (Some (made t))

  abbrev of-kept : Bool → List Column → Option types.ColumnType → Result (Option Column) Refusal
  of-kept bad ks w = refuse_if bad invalid_data >>= λ _. cond (is_none w && (length ks == 0)) (Ok None) (joined_type w ks >>= within-limits)

  module _ (ds : List Column) (wanted : Option types.ColumnType) (whole : has_bad_column slot parts ≡ false)
      (kept_is : kept_columns slot picked parts ≡ ds) (wanted_is : wanted ≡ required_type required slot) where
    joined-of : joined_column order picked parts required slot ≡ of-kept false ds wanted
    unfolding joined_column
    joined-of =
        ap (λ b. of-kept b (kept_columns slot picked parts) (required_type required slot)) whole
        ∙ ap (λ ks. of-kept false ks (required_type required slot)) kept_is
        ∙ ap (of-kept false ds) (sym wanted_is)

    joined-by : (absent : Bool) (found : Result types.ColumnType Refusal)
        → (is_none wanted && (length ds == 0)) ≡ absent → joined_type wanted ds ≡ found
        → joined_column order picked parts required slot ≡ cond absent (Ok None) (found >>= within-limits)
    joined-by absent found e f = joined-of ∙ ap₂ (λ b r. cond b (Ok None) (r >>= within-limits)) e f

    pub joined-none : (is_none wanted && (length ds == 0)) ≡ true → joined_column order picked parts required slot ≡ Ok None
    joined-none e = joined-by true (joined_type wanted ds) e refl

    pub joined-refused : (r : Refusal) → (is_none wanted && (length ds == 0)) ≡ false
        → joined_type wanted ds ≡ Err r → joined_column order picked parts required slot ≡ Err r
    joined-refused r e f = joined-by false (Err r) e f

    pub joined-large : (t : types.ColumnType) → (is_none wanted && (length ds == 0)) ≡ false
        → joined_type wanted ds ≡ Ok t → is_too_large t content ≡ true
        → joined_column order picked parts required slot ≡ Err too_large
    joined-large t e f large = joined-by false (Ok t) e f ∙ ap (λ b. refuse_if b too_large >>= λ _. Ok (Some (made t))) large

    pub joined-made : (t : types.ColumnType) → (is_none wanted && (length ds == 0)) ≡ false
        → joined_type wanted ds ≡ Ok t → is_too_large t content ≡ false
        → joined_column order picked parts required slot ≡ Ok (Some (made t))
    joined-made t e f small = joined-by false (Ok t) e f ∙ ap (λ b. refuse_if b too_large >>= λ _. Ok (Some (made t))) small

-- ---- refusals

-- the refusals of a column that is too large
abbrev IsRefusal : Result (Unit {0}) ColumnarError → Type 0
IsRefusal result = (result ≡ Err TooLarge) ⊎ (result ≡ Err OutOfMemory) ⊎ (result ≡ Err WriteFault)

-- ---- flags

none-any : (picked : List (ℕ × ℕ)) (k : ℕ) → list_any (λ q. (q.0 == k) && false) picked ≡ false
none-any [] k = refl
none-any (q ∷ picked) k = ap₂ (λ a b. a || b) (neither (q.0 == k)) (none-any picked k)
  where
    neither : (b : Bool) → (b && false) ≡ false
    neither true = refl
    neither false = refl

-- the flags of what picked rows keep are set only where there is a column
pub are-flags : (cols : List (Option DynamicColumn)) (flags : List Bool) (picked : List (ℕ × ℕ))
    → flags ≡ kept_flags cols picked → AreFlags flags cols
are-flags cols flags picked e = record { long = long; there = there }
  where
    long : length flags ≡ length cols
    long = ap length e ∙ length-map-range_with_len (keeps cols picked) 0 (length cols)

    some : (o : Option DynamicColumn) (k : ℕ) → list_any (λ q. (q.0 == k) && has_value o q.1) picked ≡ true → is_some o ≡ true
    some None k h = absurd (true≢false (sym h ∙ none-any picked k))
    some (Some c) k h = refl

    there : (k : ℕ) → get_or flags k false ≡ true → is_some (get_or cols k None) ≡ true
    there k h = elim (cases_lt k (length cols)) [
      | inl lt ↦ some (get_or cols k None) k (sym (get_or-map-range_with_len (keeps cols picked) 0 (length cols) k k
          false lt (omega arith)) ∙ ap (λ fs. get_or fs k false) (sym e) ∙ h)
      | inr le ↦ absurd (true≢false (sym h ∙ get_or_past flags k false (omega (arith, long, le))))
    ]

-- where no flag is set, no column is kept
pub none-kept : (cols : List (Option DynamicColumn)) (flags : List Bool) → list_any (λ b. b) flags ≡ false → kept_of cols flags ≡ []
none-kept [] flags h = refl
none-kept (o ∷ cols) [] h = none-kept cols [] refl
none-kept (o ∷ cols) (true ∷ flags) h = absurd (true≢false h)
none-kept (o ∷ cols) (false ∷ flags) h = none-kept cols flags h

-- where some flag is set, some column is
pub some-kept : (cols : List (Option DynamicColumn)) (flags : List Bool) → AreFlags flags cols
    → list_any (λ b. b) flags ≡ true → (length (kept_of cols flags) == 0) ≡ false
some-kept [] [] are h = absurd (false≢true h)
some-kept [] (f ∷ flags) are h = absurd (omega (arith, are.long))
some-kept (o ∷ cols) [] are h = absurd (false≢true h)
some-kept (None ∷ cols) (true ∷ flags) are h = absurd (false≢true (are.there 0 refl))
some-kept (Some c ∷ cols) (true ∷ flags) are h = ne_eqb (suc (length (kept_of cols flags))) 0 (λ e. omega (arith, e))
some-kept (o ∷ cols) (false ∷ flags) are h =
    some-kept cols flags (record { long = omega (arith, are.long); there = λ k e. are.there (suc k) e }) h

-- ---- the slot

some-shared : (ds : List Column) (u : types.ColumnType) → shared_type ds ≡ Some u → (length ds == 0) ≡ false
some-shared [] u e = absurd (some≢none u (sym e))
some-shared (d ∷ ds) u e = ne_eqb (suc (length ds)) 0 (λ f. omega (arith, f))

own-at : (os : List (Option DynamicColumn)) (k : ℕ) (c : DynamicColumn) → AllByRecursion IsOwnIn os → get_or os k None ≡ Some c → IsOwn c
own-at [] zero c all e = absurd (none-some c e)
own-at [] (suc k) c all e = absurd (none-some c e)
own-at (o ∷ os) zero c all e = subst IsOwnIn e all.0
own-at (o ∷ os) (suc k) c all e = own-at os k c all.1 e

-- each cell of a column that is kept is of the column's own type
pub own-kept : (cols : List (Option DynamicColumn)) (flags : List Bool) → AllByRecursion IsOwnIn cols
    → AllByRecursion IsOwn (kept_of cols flags)
own-kept cols flags own = kept-each IsOwn cols flags (λ j c e. own-at cols j c own e)

-- the type that is written, by what was wanted and by the columns
abbrev pub IsTypedBy : Option types.ColumnType → List Column → types.ColumnType → Type 0
IsTypedBy wanted ds u = (wanted ≡ Some u) ⊎ ((wanted ≡ None) × (shared_type ds ≡ Some u))

module _ (order : Order) (cols : List (Option DynamicColumn)) (flags : List Bool) (wanted : Option types.ColumnType)
    (have : HaveRows (counts_of order) cols) (counted : AllByRecursion IsCountedIn cols)
    (own : AllByRecursion IsOwnIn cols) (ordered : picks order (counts_of order) ≡ Some (picks_of order))
    (flags_are : flags ≡ kept_flags cols (picks_of order)) (slot : Slot) (parts : List Part)
    (required : List Required) (same : row_counts parts ≡ counts_of order) (opened : AreOpened slot parts cols)
    (wanted_is : wanted ≡ required_type required slot) where
  abbrev cs : List DynamicColumn
  cs = kept_of cols flags

  abbrev ds : List Column
  ds = map (column_seen slot.name) cs

  named : list_all (has_row (counts_of order)) (picks_of order) ≡ true
  named = picks-there order ordered

  whole : has_bad_column slot parts ≡ false
  whole = not-bad (counts_of order) cols (picks_of order) slot parts have counted named same opened

  kept_is : kept_columns slot (picks_of order) parts ≡ ds
  kept_is =
      kept-columns (counts_of order) cols (picks_of order) slot parts have counted named same opened
      ∙ ap (λ fs. map (column_seen slot.name) (kept_of cols fs)) (sym flags_are)

  -- the columns that are kept are of the slot's category
  kept-within : AllByRecursion (IsOfCategory slot.category) (kept_of cols flags)
  kept-within = kept-category (counts_of order) cols (picks_of order) slot parts have counted named same opened flags

  are : AreKept slot (picks_of order) parts (where_set cols flags)
  are =
      subst (λ fs. AreKept slot (picks_of order) parts (where_set cols fs)) (sym flags_are)
      (are-kept (counts_of order) cols (picks_of order) slot parts have counted named same opened)

  present : (u : types.ColumnType) → IsTypedBy wanted ds u → (is_none wanted && (length ds == 0)) ≡ false
  present u (inl e) = ap (λ w. is_none w && (length ds == 0)) e
  present u (inr h) = ap (λ w. is_none w && (length ds == 0)) h.0 ∙ some-shared ds u h.1

  -- cells of a type that is wanted
  wanted-read : (u : types.ColumnType) → wanted ≡ Some u
      → list_all (is_read_as u) cs ≡ list_all (λ d. list_all (is_of_type u) (all_cells d)) ds
  wanted-read u e =
      let within = required-category required slot u (sym wanted_is ∙ e) in
      all-read u slot.name cs (subst (λ k. AllByRecursion (IsOfCategory k) cs) (sym within) kept-within)

  type-ok : (u : types.ColumnType) → IsTypedBy wanted ds u → list_all (is_read_as u) cs ≡ true → joined_type wanted ds ≡ Ok u
  type-ok u (inl e) reads = ap (λ w. joined_type w ds) e ∙ wanted-type u ds true (sym (wanted-read u e) ∙ reads)
  type-ok u (inr h) reads = ap (λ w. joined_type w ds) h.0 ∙ ap (λ o. or_refuse o numerical_conflict) h.1

  type-refused : (u : types.ColumnType) → IsTypedBy wanted ds u → list_all (is_read_as u) cs ≡ false
      → joined_type wanted ds ≡ Err cannot_coerce
  type-refused u (inl e) reads = ap (λ w. joined_type w ds) e ∙ wanted-type u ds false (sym (wanted-read u e) ∙ reads)
  type-refused u (inr h) reads =
      absurd (true≢false (sym (shared-read slot.name slot.category cs u kept-within (own-kept cols flags own) h.1).1 ∙ reads))

  abbrev expected : Result (Option Column) Refusal
  expected = joined_column order (picks_of order) parts required slot

  -- the type that the columns share, under the slot's name
  type-here : (r : Result (Option ColumnType) ColumnarError) → IsKeptType wanted (kept_of cols flags) r
      → IsTypeFor wanted ds r
  type-here r typed = typed slot.category slot.name kept-within

  -- a slot that keeps no column, with no type asked for, has no column
  pub slot-none : IsKeptType wanted (kept_of cols flags) (Ok None)
      → joined_column order (picks_of order) parts required slot ≡ Ok None
  slot-none typed =
      let h = type-here (Ok None) typed in
      joined-none order (picks_of order) parts required slot ds wanted whole kept_is wanted_is
      (ap₂ (λ w ks. is_none w && (length ks == 0)) h.0 h.1)

  -- a refusal of the type of the kept columns is that of the slot
  pub slot-conflict : (e : ColumnarError) → IsKeptType wanted (kept_of cols flags) (Err e)
      → IsRefusedAs e (joined_column order (picks_of order) parts required slot)
  slot-conflict e typed =
      let h = type-here (Err e) typed in
      inr (inr (inr (inl (
        h.0,
        joined-refused order (picks_of order) parts required slot ds wanted whole kept_is wanted_is numerical_conflict
            (ap (λ w. is_none w && (length ds == 0)) h.1 ∙ h.3)
            (ap (λ w. joined_type w ds) h.1 ∙ ap (λ o. or_refuse o numerical_conflict) h.2),
      ))))

  -- the content that was written is the joined one
  joined-content : (u : types.ColumnType) (old new : SeenSink) (result : Result (Unit {0}) ColumnarError)
      → (w : WritesJoined order (where_set cols flags) u old new result)
      → w.content ≡ joined_content order slot (picks_of order) parts (kept_columns slot (picks_of order) parts)
  joined-content u old new result w = w.is slot parts same are

  refused-large : (u : types.ColumnType) (old new : SeenSink) (e : ColumnarError)
      (w : WritesJoined order (where_set cols flags) u old new (Err e)) → IsTypedBy wanted ds u
      → list_all (is_read_as u) cs ≡ true → is_too_large u w.content ≡ true → IsRefusal (Err e)
      → IsRefusedAs e (joined_column order (picks_of order) parts required slot)
  refused-large u old new e w typed reads large (inl f) =
      inr (inr (inr (inr (
        same-error e TooLarge f,
        joined-large order (picks_of order) parts required slot ds wanted
            whole kept_is wanted_is u (present u typed) (type-ok u typed reads)
            (ap (is_too_large u) (sym (joined-content u old new (Err e) w)) ∙ large),
      ))))
  refused-large u old new e w typed reads large (inr (inl f)) = inl (same-error e OutOfMemory f)
  refused-large u old new e w typed reads large (inr (inr f)) = inr (inl (same-error e WriteFault f))

  refused-written : (e : ColumnarError) → (e ≡ OutOfMemory) ⊎ (e ≡ WriteFault)
      → IsRefusedAs e (joined_column order (picks_of order) parts required slot)
  refused-written e (inl f) = inl f
  refused-written e (inr f) = inr (inl f)

  -- a refusal of the call that writes a type
  type-not-written : (u : types.ColumnType) (old new : SeenSink) (e : ColumnarError) → IsTypedBy wanted ds u
      → WritesSlot order (where_set cols flags) u old new (Err e)
      → IsRefusedAs e (joined_column order (picks_of order) parts required slot)
  type-not-written u old new e typed (inl h) = inl (same-error e OutOfMemory h.1)
  type-not-written u old new e typed (inr (inl h)) =
      inr (inr (inl (
        same-error e CannotCoerce h.1,
        joined-refused order (picks_of order) parts required slot ds
            wanted whole kept_is wanted_is cannot_coerce (present u typed) (type-refused u typed h.2),
      )))
  type-not-written u old new e typed (inr (inr h)) = by (is_too_large u h.1.content) refl
    where
      by : (b : Bool) → is_too_large u h.1.content ≡ b → IsRefusedAs e (joined_column order (picks_of order) parts required slot)
      by true large = refused-large u old new e h.1 typed h.0 large (h.1.joins.too_large large).refused
      by false small = refused-written e (h.1.joins.written small).causes

  no-refused : (done : Unit {0}) → (Ok done ≡ Err TooLarge) ⊎ (Ok done ≡ Err OutOfMemory) ⊎ (Ok done ≡ Err WriteFault) → ⊥
  no-refused done (inl e) = absurd cc
  no-refused done (inr (inl e)) = absurd cc
  no-refused done (inr (inr e)) = absurd cc

  -- the column of a type that was written
  type-written : (u : types.ColumnType) (old new : SeenSink) (done : Unit {0}) → IsTypedBy wanted ds u
      → WritesSlot order (where_set cols flags) u old new (Ok done)
      → AddsJoined slot.name (length (picks_of order)) old new u
      (joined_column order (picks_of order) parts required slot)
  type-written u old new done typed (inl h) = absurd (let e = h.1 in cc)
  type-written u old new done typed (inr (inl h)) = absurd (let e = h.1 in cc)
  type-written u old new done typed (inr (inr h)) = by (is_too_large u h.1.content) refl
    where
      by : (b : Bool) → is_too_large u h.1.content ≡ b
          → AddsJoined slot.name (length (picks_of order)) old new u
          (joined_column order (picks_of order) parts required slot)
      by true large = absurd (no-refused done (h.1.joins.too_large large).refused)
      by false small =
          let same-content = joined-content u old new (Ok done) h.1 in
          record {
            bytes = h.1.joins.bytes;
            added = (h.1.joins.written small).ok;
            joined = record {
              content = joined_content order slot (picks_of order) parts (kept_columns slot (picks_of order) parts);
              read = h.1.joins.again ∙ ap Some same-content;
              is =
                  joined-made order (picks_of order) parts required slot ds wanted whole kept_is wanted_is u
                  (present u typed) (type-ok u typed h.0) (ap (is_too_large u) (sym same-content) ∙ small);
            };
          }

  module _ (found : Option ColumnType) (t : ColumnType) (is : found ≡ Some t)
      (typed : IsKeptType wanted (kept_of cols flags) (Ok found)) (old new : SeenSink) where
    typed-by : IsTypedBy wanted ds (kind_of t)
    typed-by = subst (λ o. IsTypeFor wanted ds (Ok o)) is (type-here (Ok found) typed)

    -- a refusal of the call that writes
    pub slot-refused : (e : ColumnarError) → WritesSlot order (where_set cols flags) (kind_of t) old new (Err e)
        → IsRefusedAs e (joined_column order (picks_of order) parts required slot)
    slot-refused e written = type-not-written (kind_of t) old new e typed-by written

    -- the column that was written
    pub slot-made : (done : Unit {0}) → WritesSlot order (where_set cols flags) (kind_of t) old new (Ok done)
        → AddsJoined slot.name (length (picks_of order)) old new (kind_of t)
        (joined_column order (picks_of order) parts required slot)
    slot-made done written = type-written (kind_of t) old new done typed-by written

-- ---- calls

-- a type of columns of which some flag is set, or no column
pub no-type : (cols : List (Option DynamicColumn)) (flags : List Bool) (name : List ℕ)
    (result : Result (Option ColumnType) ColumnarError) → AreFlags flags cols
    → None ≡ shared_type (map (column_seen name) (kept_of cols flags))
    → result ≡ cond (list_any (λ b. b) flags) (Err NumericalConflict) (Ok None)
    → IsTypeFor None (map (column_seen name) (kept_of cols flags)) result
no-type cols flags name result are shared is = by (list_any (λ b. b) flags) refl
  where
    by : (b : Bool) → list_any (λ b. b) flags ≡ b → IsTypeFor None (map (column_seen name) (kept_of cols flags)) result
    by true e =
        subst (IsTypeFor None (map (column_seen name) (kept_of cols flags)))
        (sym (is ∙ ap (λ b. cond b (Err NumericalConflict) (Ok None)) e))
        (refl, refl, sym shared, ap (λ n. n == 0) (length-map (kept_of cols flags) (column_seen name)) ∙ some-kept cols flags are e)
    by false e =
        subst (IsTypeFor None (map (column_seen name) (kept_of cols flags)))
        (sym (is ∙ ap (λ b. cond b (Err NumericalConflict) (Ok None)) e))
        (refl, ap (map (column_seen name)) (none-kept cols flags e))

-- a column of numbers that was written
pub numbers-written : {T : Type 0} (cell : T → Cell) (t : types.ColumnType) (order : Order)
    (kept : List (Option DynamicColumn)) (c d : SegmentColumns T) (old new : SeenSink)
    (result : Result (Unit {0}) ColumnarError) → d ≡ c → PickedContentIsJoined T → AreNoTexts cell
    → picks order (counts_of order) ≡ Some (picks_of order) → AreSegmentColumns t cell (counts_of order) kept c
    → JoinsColumn old new result t (length (picks_of order)) (picked_content cell (merge_of d order))
    → WritesSlot order kept t old new result
numbers-written cell t order kept c d old new result same law numbers ordered are joins = inr (inr (
  are.read,
  record {
    content = picked_content cell (merge_of c order);
    is = content-joined cell t order kept c law numbers ordered are;
    joins = subst (λ e. JoinsColumn old new result t (length (picks_of order)) (picked_content cell (merge_of e order))) same joins;
  },
))
