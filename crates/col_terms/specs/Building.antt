-- Terms that are numbered as they come, and put in order in the end.
use Rattle.std.specs.Prelude.{◌≡◌, ◌<◌, ℕ, ◌-◌, ◌^◌, ◌&&◌, not, nat_le, min, Bool, true, false, List, [], ◌∷◌, ◌++◌, map, length, slice_get, sum_by, take, bytes_eq, Option, Some, None, Result, Err, ◌⊎◌, if◌then◌else◌}
use Rattle.std.specs.List.{list_any, position_or_len, concat, All, IsDistinct}
use Rattle.std.specs.Ordering.{nat_cmp}
use Rattle.std.specs.Cmp.Lexicographic.{slice_cmp}
use Rattle.std.specs.Borrow.{Bor}
use Rattle.col_common.specs.Outside.{SeenSink}
use Rattle.col_common.specs.Reading.{IsBytes}
use Rattle.col_common.specs.Serializing.{Serializes}
use Rattle.col_common.specs.declared.error.ColumnarError.{ColumnarError}
use Rattle.col_common.specs.declared.error.ColumnarError.TheVariants.{OutOfMemory, TooLarge}
use Rattle.col_model.specs.Limits.{dictionary_length}
use Rattle.col_model.specs.Sorted.{distinct_items}
use Rattle.col_terms.specs.TermTable.{ends_from, head_of}
use Rattle.col_terms.specs.Streams.{OrdTerm, numbered}

-- ---- terms in the order of their ids

-- the term is there
abbrev pub is_known : List (List ℕ) → List ℕ → Bool
is_known ts t = list_any (bytes_eq t) ts

-- the place of a term, or how many terms there are where it isn't there
abbrev pub id_of : List (List ℕ) → List ℕ → ℕ
id_of ts t = position_or_len (bytes_eq t) ts

-- the id of a term that is there
abbrev pub known_id : List (List ℕ) → List ℕ → Option ℕ
known_id ts t = if is_known ts t then Some (id_of ts t) else None

-- the terms with one that is at the end where it is new
abbrev pub with_term : List (List ℕ) → List ℕ → List (List ℕ)
with_term ts t = if is_known ts t then ts else ts ++ t ∷ []

-- A term came: it has the id, and each term that was there keeps its own.
pub record Allocates (old : List (List ℕ)) (t : List ℕ) (id : ℕ) (new : List (List ℕ))
    : Type 0 where
  pub id_is : id ≡ id_of old t
  pub terms : new ≡ with_term old t
  pub held : slice_get new id ≡ Some t
  pub stays : (k : ℕ) → k < length old → slice_get new k ≡ slice_get old k

-- a new term where 32 bits count no more
abbrev pub is_past_ids : List (List ℕ) → List ℕ → Bool
is_past_ids ts t = not (is_known ts t) && nat_le (2 ^ 32 - 1) (length ts)

-- the two refusals of a builder that gets a term
abbrev pub IsRefusal : ColumnarError → Type 0
IsRefusal e = (e ≡ OutOfMemory) ⊎ (e ≡ TooLarge)

-- ---- terms in their own order

-- the terms in order, each once
abbrev pub ordered : List (List ℕ) → List (List ℕ)
ordered ts = distinct_items (slice_cmp nat_cmp) ts

-- for each id, the place of its term in order
abbrev pub ordinals : List (List ℕ) → List ℕ
ordinals ts = map (id_of (ordered ts)) ts

-- 32 bits don't count the bytes of the dictionary
abbrev pub is_too_long : List (List ℕ) → Bool
is_too_long ts = nat_le (2 ^ 32) (dictionary_length (ordered ts))

-- Too long bytes are refused before the first one, and others are serialized.
abbrev pub SerializesWithin : Bool → SeenSink → SeenSink → Result (Unit {0}) ColumnarError
    → List ℕ → Type 0
SerializesWithin true old new result bytes = (result ≡ Err TooLarge) × (new ≡ old)
SerializesWithin false old new result bytes = Serializes old new result bytes

-- ---- terms one behind another

-- bytes are those of the terms, and the ends are theirs
pub record HoldsTerms (bytes ends : List ℕ) (ts : List (List ℕ)) : Type 0 where
  pub ends_are : ends ≡ ends_from 0 ts
  pub bytes_are : bytes ≡ concat ts

-- a sum of lengths, which stands still where 64 bits don't count it
abbrev pub counted_bytes : List (List ℕ) → ℕ
counted_bytes ts = min (sum_by length ts) (2 ^ 64 - 1)

-- ---- terms with their ids

-- a term that is read in place, between its first bytes as a number and its id
abbrev pub TermRef : Type 0
TermRef = ℕ × Bor (List ℕ) × ℕ

-- the same as the term behind the id
abbrev pub ord_term : TermRef → OrdTerm
ord_term p = (p.2, p.1.now)

-- the terms alone
abbrev pub texts : List TermRef → List (List ℕ)
texts ps = map (λ (p : TermRef). p.1.now) ps

-- the number is that of the term's first bytes
pub record HasHead (p : TermRef) : Type 0 where
  pub head : p.0 ≡ head_of p.1.now
  pub bytes : IsBytes p.1.now

-- the terms of a list with their ids, from the first up to one
pub record AreNumbered (ts : List (List ℕ)) (id : ℕ) (ps : List TermRef) : Type 0 where
  pub heads : All HasHead ps
  pub terms : map ord_term ps ≡ numbered (take id ts)

-- the terms in order, each with its id
pub record AreOrdered (ts : List (List ℕ)) (ps : List TermRef) : Type 0 where
  pub differ : IsDistinct bytes_eq ts
  pub terms : texts ps ≡ ordered ts
  pub ids : map (λ (p : TermRef). p.2) ps ≡ map (id_of ts) (ordered ts)
