-- Walks over terms in order.
use Rattle.std.specs.Prelude.{◌≡◌, ℕ, ◌-◌, ◌<◌, ◌≤◌, Bool, true, false, List, [], ◌∷◌, filter, slice_range, Option, Some, None, if◌then◌else◌}
use Rattle.std.specs.List.{enumerate_from}
use Rattle.col_terms.specs.Lookups.{has_prefix}
use Rattle.col_terms.specs.TermTable.{terms_of, IsTable}

-- a term behind its ordinal
abbrev pub OrdTerm : Type 0
OrdTerm = ℕ × List ℕ

-- the terms that a walk has still to give, and the one where it stands, if any
pub record TermStream : Type 0 where
  pub left : List OrdTerm
  pub current : Option OrdTerm

-- a walk that hasn't begun
abbrev pub stream_of : List OrdTerm → TermStream
stream_of left = record { left = left; current = None }

-- a walk over these terms after a step
abbrev pub stepped : List OrdTerm → TermStream
stepped [] = stream_of []
stepped (p ∷ ps) = record { left = ps; current = Some p }

-- the terms with their ordinals
abbrev pub numbered : List (List ℕ) → List OrdTerm
numbered ts = enumerate_from 0 ts

-- those with a prefix
abbrev pub with_prefix : List ℕ → List (List ℕ) → List OrdTerm
with_prefix prefix ts = filter (λ p. has_prefix prefix p.1) (numbered ts)

-- the walk that stands before the term of an ordinal, and ends before that of another
abbrev pub walk_between : List ℕ → ℕ → ℕ → Bool → List ℕ → TermStream
walk_between bytes next end_ord is_on key =
    let left = slice_range (numbered (terms_of bytes)) next end_ord in
    record { left = left; current = if is_on then Some (next - 1, key) else None }

-- the bytes of a dictionary, ordinals in it, and a key where no term has been given
pub record IsWalk (bytes : List ℕ) (n next end_ord : ℕ) (is_on : Bool) (key : List ℕ) : Type 0 where
  pub table : IsTable bytes n
  pub ordered : next ≤ end_ord
  pub within : end_ord ≤ n
  pub behind : is_on ≡ true → 0 < next
  pub idle : is_on ≡ false → key ≡ []
