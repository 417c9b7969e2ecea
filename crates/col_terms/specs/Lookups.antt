-- Where a key stands among ascending terms.
use Rattle.std.specs.Prelude.{◌≡◌, ℕ, ◌<◌, ◌≤◌, true, false, Bool, List, [], length, slice_index_or, position, nat_eq, bytes_eq, Option}
use Rattle.std.specs.List.{starts_with}
use Rattle.col_common.specs.Ascending.{is_before}
use Rattle.col_terms.specs.declared.dictionary.TermOrdHit.{TermOrdHit}
use Rattle.col_terms.specs.declared.dictionary.TermOrdHit.TheVariants.{Exact, Next}

-- the ordinal of a term
abbrev pub ord_of : List (List ℕ) → List ℕ → Option ℕ
ord_of ts key = position (λ t. bytes_eq t key) ts

-- the term at place i is the key
pub record IsAt (ts : List (List ℕ)) (key : List ℕ) (i : ℕ) : Type 0 where
  pub in_range : i < length ts
  pub is_key : slice_index_or ts i [] ≡ key

-- the key would go at place i: smaller terms stand before it, and greater ones from it on
pub record IsGapFor (ts : List (List ℕ)) (key : List ℕ) (i : ℕ) : Type 0 where
  pub in_range : i ≤ length ts
  pub smaller_before : (j : ℕ) → j < i → is_before (slice_index_or ts j []) key ≡ true
  pub greater_after : (j : ℕ) → i ≤ j → j < length ts
      → is_before key (slice_index_or ts j []) ≡ true

-- Exact is the key's place, and Next its gap: the place of the first greater term, or how many
-- terms there are.
abbrev pub IsHit : List (List ℕ) → List ℕ → TermOrdHit → Type 0
IsHit ts key (Exact i) = IsAt ts key i
IsHit ts key (Next i) = IsGapFor ts key i

-- smaller terms stand before place i, and none from it on
pub record IsFirstFrom (ts : List (List ℕ)) (key : List ℕ) (i : ℕ) : Type 0 where
  pub in_range : i ≤ length ts
  pub smaller_before : (j : ℕ) → j < i → is_before (slice_index_or ts j []) key ≡ true
  pub none_smaller : (j : ℕ) → i ≤ j → j < length ts
      → is_before (slice_index_or ts j []) key ≡ false

-- the term begins with the prefix
abbrev pub has_prefix : List ℕ → List ℕ → Bool
has_prefix prefix t = starts_with nat_eq t prefix

-- from one place on up to another terms have the prefix, and behind it none has it
pub record IsPrefixEnd (ts : List (List ℕ)) (prefix : List ℕ) (start i : ℕ) : Type 0 where
  pub ordered : start ≤ i
  pub in_range : i ≤ length ts
  pub have : (j : ℕ) → start ≤ j → j < i → has_prefix prefix (slice_index_or ts j []) ≡ true
  pub have_not : (j : ℕ) → i ≤ j → j < length ts
      → has_prefix prefix (slice_index_or ts j []) ≡ false
