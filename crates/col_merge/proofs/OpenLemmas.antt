-- Columns that are opened by the handle that a reader has under a slot.
use Rattle.std.proofs.Common.{◌≡◌, ℕ, ◌&&◌, ◌||◌, Bool, true, false, cond, List, [], ◌∷◌, map, find, Option, Some, None, IfSome, option_map, bytes_eq, refl, sym, ap, ap₂, ◌∙◌, subst}
use Rattle.std.specs.List.{AllByRecursion, list_any}
use Rattle.std.specs.Prelude.{if◌then◌else◌}
use Rattle.std.specs.Cmp.{unsigned_ties}
use Rattle.std.specs.Cmp.Lexicographic.{slice_cmp}
use Rattle.std.specs.Ordering.{nat_cmp, is_eq, ordering_then}
use Rattle.std.specs.declared.cmp.Ordering.{Ordering}
use Rattle.std.specs.declared.cmp.Ordering.TheVariants.{Less, Equal, Greater}
use Rattle.std.proofs.lemmas.Map.Text.{is_eq-slice_cmp}
use Rattle.col_common.specs.Reading.{◌>>=◌}
use Rattle.col_common.specs.declared.error.ColumnarError.{ColumnarError}
use Rattle.col_common.specs.declared.error.ColumnarError.TheVariants.{OutOfMemory, ReadFault, InvalidData}
use Rattle.col_model.specs.Category.{category_of, category_place, Slot, same_slot}
use Rattle.col_model.specs.File.{Part, part_column, parts_of}
use Rattle.col_model.specs.Keys.{Entry, FileKeys, keys}
use Rattle.col_model.specs.Merge.{part_slot, column_in}
use Rattle.col_model.specs.Table.{Content}
use Rattle.col_model.proofs.OrderedColumns.{same-slots}
use Rattle.col_model.proofs.SharedTypes.{some≢none, same-some}
use Rattle.col_model.proofs.FileLaws.{parts_of-keys}
use Rattle.col_dynamic.specs.declared.dynamic_column.DynamicColumn.{DynamicColumn}
use Rattle.col_file.specs.Columns.{content_at, HasContent, IsTyped}
use Rattle.col_file.specs.Files.{IsExpected, RefusesFile}
use Rattle.col_file.specs.Handles.{Handle, handle_of, is_entry, entries_named}
use Rattle.col_file.specs.Readers.{SeenReader, IsRead, Reads}
use Rattle.col_file.proofs.PartLemmas.{own-handles, content-of_entry}
use Rattle.col_merge_slot.specs.JoinedSlots.{part_seen}
use Rattle.col_merge.specs.Opened.{is_in, IsOpenedAs, is_bad, RefusesColumn}
use Rattle.col_merge.specs.Parts.{told_part}
use Rattle.col_merge.specs.Readings.{slot_reads}
use Rattle.col_merge_plan.specs.Slots.{entry_slot}

-- ---- the handle of a slot

then-eq : (a b : Ordering) → is_eq (ordering_then a b) ≡ (is_eq a && is_eq b)
then-eq Less b = refl
then-eq Equal b = refl
then-eq Greater b = refl

-- an entry is of a slot by its name and its category
slot-parts : (e : Entry) (s : Slot) → same_slot (entry_slot e) s ≡ (bytes_eq e.key.name s.name && is_in s.category (handle_of e))
slot-parts e s =
    then-eq (slice_cmp nat_cmp e.key.name s.name) (nat_cmp (category_place (category_of e.key.column_type)) (category_place s.category))
    ∙ ap₂ (λ a b. a && b) (is_eq-slice_cmp e.key.name s.name)
    (sym (unsigned_ties (category_place (category_of e.key.column_type)) (category_place s.category)))

-- the first entry of a slot is among those of its name the first of its category
pub found-handle : (s : Slot) (es : List Entry)
    → find (is_in s.category) (map handle_of (entries_named s.name es))
    ≡ option_map handle_of (find (λ e. same_slot (entry_slot e) s) es)
found-handle s [] = refl
found-handle s (e ∷ es) =
    by (bytes_eq e.key.name s.name) (is_in s.category (handle_of e)) refl (found-handle s es)
    ∙ ap (λ b. option_map handle_of (cond b (Some e) (find (λ e. same_slot (entry_slot e) s) es)))
    (sym (slot-parts e s))
  where
    by : (a b : Bool) → is_in s.category (handle_of e) ≡ b
        → find (is_in s.category) (map handle_of (entries_named s.name es))
        ≡ option_map handle_of (find (λ e. same_slot (entry_slot e) s) es)
        → find (is_in s.category) (map handle_of (cond a (e ∷ entries_named s.name es) (entries_named s.name es)))
        ≡ option_map handle_of
        (cond (a && is_in s.category (handle_of e)) (Some e) (find (λ e. same_slot (entry_slot e) s) es))
    by true true i later = rw i refl
    by true false i later = rw i later
    by false b i later = later

-- an item that is found passes the test, and has what all have
found-has : {A : Type 0} (P : A → Type 0) (test : A → Bool) (xs : List A) (x : A) → find test xs ≡ Some x
    → AllByRecursion P xs → P x × (test x ≡ true)
found-has P test [] x e all = absurd (some≢none x (sym e))
found-has P test (y ∷ xs) x e all = by (test y) refl e (λ e. found-has P test xs x e all.1)
  where
    by : (b : Bool) → test y ≡ b → cond b (Some y) (find test xs) ≡ Some x
        → (find test xs ≡ Some x → P x × (test x ≡ true)) → P x × (test x ≡ true)
    by true t e later = let same = same-some y x e in (subst P same all.0, subst (λ z. test z ≡ true) same t)
    by false t e later = later e

-- so some item passes it
any-found : {A : Type 0} (test : A → Bool) (xs : List A) (x : A) → find test xs ≡ Some x → list_any test xs ≡ true
any-found test [] x e = absurd (some≢none x (sym e))
any-found test (y ∷ xs) x e = by (test y) e (any-found test xs x)
  where
    by : (b : Bool) → cond b (Some y) (find test xs) ≡ Some x → (find test xs ≡ Some x → list_any test xs ≡ true)
        → (b || list_any test xs) ≡ true
    by true e later = refl
    by false e later = later e

-- ---- the part's column

pub columns-found : (bytes : List ℕ) (k : FileKeys) (s : Slot) (es : List Entry)
    → find (λ c. same_slot (part_slot c) s) (map (part_column bytes k) es)
    ≡ option_map (part_column bytes k) (find (λ e. same_slot (entry_slot e) s) es)
columns-found bytes k s [] = refl
columns-found bytes k s (e ∷ es) = by (same_slot (entry_slot e) s) (columns-found bytes k s es)
  where
    by : (b : Bool) → find (λ c. same_slot (part_slot c) s) (map (part_column bytes k) es)
        ≡ option_map (part_column bytes k) (find (λ e. same_slot (entry_slot e) s) es)
        →
        cond b (Some (part_column bytes k e)) (find (λ c. same_slot (part_slot c) s) (map (part_column bytes k) es))
        ≡ option_map (part_column bytes k) (cond b (Some e) (find (λ e. same_slot (entry_slot e) s) es))
    by true later = refl
    by false later = later

module _ (s : Slot) (r : SeenReader) (read : IsRead r) where
  -- what is so of the part, by its bytes
  each-told : (P : Part → Type 0)
      → ((bytes : List ℕ) → r.file.told ≡ Some bytes
      → P (record { row_count = r.keys.row_count; columns = map (part_column bytes r.keys) r.keys.entries }))
      → IfSome (told_part r) P
  each-told P f = by r.file.told refl read.told
    where
      by : (o : Option (List ℕ)) → r.file.told ≡ o → IfSome o (λ bytes. keys bytes ≡ Some r.keys) → IfSome (o >>= parts_of) P
      by None t k = tt
      by (Some bytes) t k = subst (λ o. IfSome o P) (sym (parts_of-keys bytes r.keys k)) (f bytes t)

  -- it has no column there
  pub opened-none : find (λ e. same_slot (entry_slot e) s) r.keys.entries ≡ None → IsOpenedAs s r None
  opened-none e = record {
    column =
        each-told (λ p. column_in s p ≡ option_map (part_seen s.name) None)
        (λ bytes t. columns-found bytes r.keys s r.keys.entries ∙ ap (option_map (part_column bytes r.keys)) e);
    rows = tt;
  }

  module _ (e : Entry) (found : find (λ e. same_slot (entry_slot e) s) r.keys.entries ≡ Some e) where
    has : (is_entry r.keys (handle_of e) ≡ true) × (same_slot (entry_slot e) s ≡ true)
    has =
        found-has (λ e. is_entry r.keys (handle_of e) ≡ true) (λ e. same_slot (entry_slot e) s) r.keys.entries e
        found (own-handles r.keys)

    named : e.key.name ≡ s.name
    named = ap (λ (s : Slot). s.name) (same-slots (entry_slot e) s has.1)

    at-slot : (bytes : List ℕ)
        → column_in s
        (record { row_count = r.keys.row_count; columns = map (part_column bytes r.keys) r.keys.entries })
        ≡ Some (part_column bytes r.keys e)
    at-slot bytes = columns-found bytes r.keys s r.keys.entries ∙ ap (option_map (part_column bytes r.keys)) found

    -- it has a column there, which was opened
    pub opened-some : (c : DynamicColumn)
        → IfSome r.file.told
        (λ bytes. IsExpected (HasContent e.key.column_type) c (content_at r.keys (handle_of e) bytes))
        → IsTyped e.key.column_type r.keys.row_count c → IsOpenedAs s r (Some c)
    opened-some c answer typed = record {
      column =
          each-told (λ p. column_in s p ≡ option_map (part_seen s.name) (Some c)) (λ bytes t. at-slot bytes
          ∙ ap Some (seen bytes (part_column bytes r.keys e).content refl (subst
          (IsExpected (HasContent e.key.column_type) c) (content-of_entry bytes r.keys e has.0) (subst (λ o. IfSome o
          (λ bytes. IsExpected (HasContent e.key.column_type) c (content_at r.keys (handle_of e) bytes))) t
          answer))));
      rows = typed.rows;
    }
      where
        seen : (bytes : List ℕ) (o : Option Content) → (part_column bytes r.keys e).content ≡ o
            → IsExpected (HasContent e.key.column_type) c o → part_column bytes r.keys e ≡ part_seen s.name c
        seen bytes None q h = absurd h
        seen bytes (Some x) q h = λ i. record { name = named i; column_type = (sym typed.kind) i; content = (q ∙ ap Some (sym h.cells)) i }

    -- its bytes stand for none
    bad-told : (bytes : List ℕ) → content_at r.keys (handle_of e) bytes ≡ None
        →
        is_bad s (record { row_count = r.keys.row_count; columns = map (part_column bytes r.keys) r.keys.entries })
        ≡ true
    bad-told bytes none = rw (at-slot bytes, sym (content-of_entry bytes r.keys e has.0) ∙ none) refl

    pub opened-refused : (new : SeenReader) (x : ColumnarError)
        → RefusesFile r.file new.file x (content_at r.keys (handle_of e)) → RefusesColumn s r new x
    opened-refused new OutOfMemory h = tt
    opened-refused new ReadFault h = h
    opened-refused new InvalidData h =
        each-told (λ p. is_bad s p ≡ true) (λ bytes t. bad-told bytes
        (subst (λ o. IfSome o (λ bytes. content_at r.keys (handle_of e) bytes ≡ None)) t h))
    opened-refused new x h = absurd h

-- ---- by the handle that was found

-- the entry that a handle is of
record IsHandleOf (h : Handle) (o : Option Entry) : Type 0 where
  e : Entry
  found : o ≡ Some e
  is : handle_of e ≡ h

handle-of : (h : Handle) (o : Option Entry) → Some h ≡ option_map handle_of o → IsHandleOf h o
handle-of h None q = absurd (some≢none h q)
handle-of h (Some e) q = record { e = e; found = refl; is = sym (same-some h (handle_of e) q) }

no-entry : (o : Option Entry) → None ≡ option_map handle_of o → o ≡ None
no-entry None q = refl
no-entry (Some e) q = absurd (some≢none (handle_of e) (sym q))

module _ (s : Slot) (r : SeenReader) (read : IsRead r) where
  -- a reader without an entry under the slot has no column of it
  pub handle-none : None ≡ option_map handle_of (find (λ e. same_slot (entry_slot e) s) r.keys.entries) → IsOpenedAs s r None
  handle-none q = opened-none s r read (no-entry (find (λ e. same_slot (entry_slot e) s) r.keys.entries) q)

  module _ (h : Handle) (q : Some h ≡ option_map handle_of (find (λ e. same_slot (entry_slot e) s) r.keys.entries)) where
    -- a column that the bytes of the slot's entry stand for is the reader's column of the slot
    pub handle-opened : (c : DynamicColumn)
        → IfSome r.file.told (λ bytes. IsExpected (HasContent h.column_type) c (content_at r.keys h bytes))
        → IsTyped h.column_type r.keys.row_count c → IsOpenedAs s r (Some c)
    handle-opened c answer typed =
        let of = handle-of h (find (λ e. same_slot (entry_slot e) s) r.keys.entries) q in
        opened-some s r read of.e of.found c
        (subst (λ h. IfSome r.file.told (λ bytes. IsExpected (HasContent h.column_type) c (content_at r.keys h bytes))) (sym of.is) answer)
        (subst (λ (h : Handle). IsTyped h.column_type r.keys.row_count c) (sym of.is) typed)

    -- a refusal of the entry's bytes is one of the column
    pub handle-refused : (new : SeenReader) (x : ColumnarError)
        → RefusesFile r.file new.file x (content_at r.keys h) → RefusesColumn s r new x
    handle-refused new x refused =
        let of = handle-of h (find (λ e. same_slot (entry_slot e) s) r.keys.entries) q in
        opened-refused s r read of.e of.found new x (subst (λ h. RefusesFile r.file new.file x (content_at r.keys h)) (sym of.is) refused)

    -- the read of a column that the reader has is counted
    pub handle-read : (new : SeenReader) → Reads 1 r new → Reads (slot_reads s r.keys) r new
    handle-read new reads =
        let of = handle-of h (find (λ e. same_slot (entry_slot e) s) r.keys.entries) q in
        let any = any-found (λ e. same_slot (entry_slot e) s) r.keys.entries of.e of.found in
        subst (λ times. Reads times r new) (sym (ap (λ (b : Bool). if b then 1 else 0) any)) reads
