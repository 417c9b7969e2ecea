-- The entries of columns that follow one another.
use Rattle.std.proofs.Common.{◌≡◌, ℕ, zero, suc, ◌+◌, ◌≤◌, ◌==◌, ◌&&◌, ◌||◌, Bool, true, false, List, [], ◌∷◌, ◌++◌, slice_get, Some, refl, ap, arith}
use Rattle.std.specs.List.{AllByRecursion, list_any}
use Rattle.std.proofs.lemmas.Bool.{and_parts, eqb-true, false≢true}
use Rattle.std.proofs.lemmas.List.Sums.{sum_by-cons}
use Rattle.std.proofs.lemmas.Option.{same_Some}
use Rattle.col_keys.specs.KeyTables.{all_keyed}
use Rattle.col_keys.specs.declared.key_table.KeyedLength.{KeyedLength}
use Rattle.col_model.specs.ColumnType.{same_type}
use Rattle.col_model.specs.Keys.{Key, Entry, entries_from, total_length}
use Rattle.col_file.specs.Entries.{entry_of, entries_seen}
use Rattle.col_file.specs.Handles.{Handle, is_at}
use Rattle.col_file.specs.Readers.{IsWithin}
use Rattle.col_file.specs.declared.column_entry.ColumnEntry.{ColumnEntry}

-- ---- entries that are made one after another

-- the entries so far, and the columns that are left from a place on
pub record IsPlaced (found : List Entry) (start : ℕ) (left all : List KeyedLength) : Type 0 where
  pub total : start + total_length (all_keyed left) ≡ total_length (all_keyed all)
  pub entries : found ++ entries_from start (all_keyed left) ≡ entries_from 0 (all_keyed all)

-- ---- entries among so many bytes

-- entries that follow one another up to a top stand within it
pub within-entries : (start top : ℕ) (ps : List (Key × ℕ)) → start + total_length ps ≤ top
    → AllByRecursion (IsWithin top) (entries_from start ps)
within-entries start top [] h = tt
within-entries start top (p ∷ ps) h =
    let sum = sum_by-cons (λ (q : Key × ℕ). q.1) p ps in
    ((omega arith, omega (arith, h)), within-entries (start + p.1) top ps (omega (arith, h)))

-- ---- the entry of a handle

module _ (h : Handle) where
  -- a handle that is that of an entry has its place
  pub place-within : (size : ℕ) (es : List Entry) → list_any (is_at h) es ≡ true → AllByRecursion (IsWithin size) es
      → (h.start ≤ h.«end») × (h.«end» ≤ size)
  place-within size [] some all = absurd (false≢true some)
  place-within size (e ∷ es) some all = here (is_at h e) refl some (λ rest. place-within size es rest all.1)
    where
      here : (t : Bool) → is_at h e ≡ t → (t || list_any (is_at h) es) ≡ true
          → (list_any (is_at h) es ≡ true → (h.start ≤ h.«end») × (h.«end» ≤ size))
          → (h.start ≤ h.«end») × (h.«end» ≤ size)
      here true same rest later =
          let p = and_parts (same_type h.column_type e.key.column_type && (h.start == e.start)) (h.«end» == e.«end») same in
          let q = and_parts (same_type h.column_type e.key.column_type) (h.start == e.start) p.0 in
          let start : h.start ≡ e.start = eqb-true h.start e.start q.1 in
          let end_ : h.«end» ≡ e.«end» = eqb-true h.«end» e.«end» p.1 in
          (omega (arith, all.0.0), omega (arith, all.0.1))
      here false same rest later = later rest

  -- a handle is one of some entry where it is one of the entries as they are seen
  pub any-seen : (es : List ColumnEntry) → list_any (is_at h) (entries_seen es) ≡ list_any (λ e. is_at h (entry_of e)) es
  any-seen [] = refl
  any-seen (e ∷ es) = ap (λ t. is_at h (entry_of e) || t) (any-seen es)

-- one that passes is among those of which some passes
pub any-at : {A : Type 0} (test : A → Bool) (xs : List A) (i : ℕ) (x : A) → slice_get xs i ≡ Some x → test x ≡ true
    → list_any test xs ≡ true
any-at test [] i x e h = cc
any-at test (y ∷ xs) zero x e h = rw (same_Some y x e, h) refl
any-at test (y ∷ xs) (suc i) x e h = or_right (test y) (list_any test xs) (any-at test xs i x e h)
  where
    or_right : (a b : Bool) → b ≡ true → (a || b) ≡ true
    or_right true b e = refl
    or_right false b e = e
