-- The places of terms of columns among the terms of all columns.
use Rattle.std.specs.Prelude.{◌≡◌, ◌⊎◌, ℕ, ◌+◌, Bool, true, List, [], ◌∷◌, ◌++◌, map, filter, length, sum_by, drop, is_some, false, Some}
use Rattle.std.specs.List.{AllByRecursion}
use Rattle.std.specs.Ordering.{nat_cmp}
use Rattle.std.specs.Cmp.Lexicographic.{slice_cmp}
use Rattle.col_common.specs.Ascending.{is_before}
use Rattle.col_model.specs.Sorted.{distinct_items}
use Rattle.col_model.specs.U64List.{joined_lists}
use Rattle.col_terms.specs.Building.{id_of}
use Rattle.col_terms.specs.Streams.{numbered}
use Rattle.col_text.specs.Texts.{Texts}
use Rattle.col_merge_texts.specs.Items.{item_at, IsAmong}
use Rattle.col_merge_terms.specs.Merging.{SegmentTerm, in_segment}

-- how many terms they have in all
abbrev pub term_count : List Texts → ℕ
term_count columns = sum_by (λ c. length c.terms) columns

-- terms of columns with their segments, the first of which has this number
unfoldable pub terms_from : ℕ → List (List (List ℕ)) → List SegmentTerm
terms_from n [] = []
terms_from n (ts ∷ tss) = in_segment n (numbered ts) ++ terms_from (n + 1) tss

-- all terms in order, each once
abbrev pub terms_in_order : List (List (List ℕ)) → List (List ℕ)
terms_in_order tss = distinct_items (slice_cmp nat_cmp) (joined_lists tss)

-- for each term of each column, its place among these terms
abbrev pub places_among : List (List ℕ) → List (List (List ℕ)) → List (List ℕ)
places_among all tss = map (map (id_of all)) tss

-- for each term of each column, its place among all terms
abbrev pub merged_places : List (List (List ℕ)) → List (List ℕ)
merged_places tss = places_among (terms_in_order tss) tss

-- ---- numbers that are given one after another

-- The items at these places are this number, and others stay.
pub record Numbers (places : List (ℕ × ℕ)) (n : ℕ) (old new : List (List ℕ)) : Type 0 where
  pub lengths : map length new ≡ map length old
  pub told : AllByRecursion (λ p. item_at new p ≡ Some n) places
  pub others : (p : ℕ × ℕ) → IsAmong p places ⊎ (item_at new p ≡ item_at old p)

-- the keys of terms, in order, each once
abbrev pub keys_of : List SegmentTerm → List (List ℕ)
keys_of ts = distinct_items (slice_cmp nat_cmp) (map (λ t. t.key) ts)

-- no key is before an earlier one
abbrev pub KeysNeverFall : List SegmentTerm → Type 0
KeysNeverFall [] = Unit {0}
KeysNeverFall (t ∷ ts) = AllByRecursion (λ u. is_before u.key t.key ≡ false) ts × KeysNeverFall ts

-- the terms that are kept, in order
abbrev pub kept_terms : (List ℕ → Bool) → List (List (List ℕ)) → List (List ℕ)
kept_terms kept tss = filter kept (terms_in_order tss)

-- Terms up to a key have the places of their keys, if these are kept; the others are left, and the
-- next kept key gets the next number.
pub record AreNumbered (tss : List (List (List ℕ))) (kept : List ℕ → Bool)
    (left : List SegmentTerm) (next : ℕ) (mapping : List (List ℕ)) : Type 0 where
  pub never_fall : KeysNeverFall left
  pub genuine : AllByRecursion (λ t. item_at tss (t.segment, t.ord) ≡ Some t.key) left
  pub lengths : map length mapping ≡ map length tss
  pub rest : drop next (kept_terms kept tss) ≡ filter kept (keys_of left)
  pub told : (i j : ℕ) (key : List ℕ) → item_at tss (i, j) ≡ Some key → kept key ≡ true
      → IsAmong (record { key = key; segment = i; ord = j }) left
      ⊎ (item_at mapping (i, j) ≡ Some (id_of (kept_terms kept tss) key))

-- Of these places those that aren't left have been given the number.
pub record AreGiven (places left : List (ℕ × ℕ)) (n : ℕ) (old new : List (List ℕ)) : Type 0 where
  pub lengths : map length new ≡ map length old
  pub within : AllByRecursion (λ p. is_some (item_at old p) ≡ true) left
  pub among : AllByRecursion (λ p. IsAmong p places) left
  pub told : (p : ℕ × ℕ) → IsAmong p places → IsAmong p left ⊎ (item_at new p ≡ Some n)
  pub others : (p : ℕ × ℕ) → IsAmong p places ⊎ (item_at new p ≡ item_at old p)
