-- Laws about dictionaries: public calls ensure them, and have nothing else to do.
use Rattle.std.specs.Prelude.{◌≡◌, ℕ, ◌<◌, ◌^◌, true, List, [], length, slice_get, slice_index, slice_index_or, Some}
use Rattle.std.specs.Ordering.{nat_cmp}
use Rattle.std.specs.Cmp.Lexicographic.{slice_cmp}
use Rattle.col_common.specs.Ascending.{is_ascending}
use Rattle.col_model.specs.Dictionary.{terms}
use Rattle.col_model.specs.Limits.{dictionary_length}
use Rattle.col_terms.specs.TermTable.{dictionary_bytes}
use Rattle.col_terms.specs.Building.{is_known, ordered, ordinals}

-- Two ordinals compare as their terms.
abbrev pub OrdinalsAreInOrder : Type 0
OrdinalsAreInOrder = (bytes : List ℕ) (ts : List (List ℕ)) → terms bytes ≡ Some ts
    → (i j : ℕ) → i < length ts → j < length ts
    → slice_cmp nat_cmp (slice_index_or ts i []) (slice_index_or ts j []) ≡ nat_cmp i j

-- What is written of ascending terms stands for them, where 32 bits count its bytes.
abbrev pub DictionariesAreReadBack : Type 0
DictionariesAreReadBack = (ts : List (List ℕ)) → is_ascending ts ≡ true
    → dictionary_length ts < 2 ^ 32 → terms (dictionary_bytes ts) ≡ Some ts

-- The terms in order are exactly those that were given, each once: they strictly ascend, and a term
-- is one of them just where it was given. The ordinal of an id is the place of the id's term.
pub record TermsAreThoseGiven : Type 0 where
  pub ascend : (ts : List (List ℕ)) → is_ascending (ordered ts) ≡ true
  pub given : (ts : List (List ℕ)) (t : List ℕ) → is_known (ordered ts) t ≡ is_known ts t
  pub count : (ts : List (List ℕ)) → length (ordinals ts) ≡ length ts
  pub places : (ts : List (List ℕ)) (id : ℕ) → id < length ts
      → slice_get (ordered ts) (slice_index (ordinals ts) id) ≡ slice_get ts id
