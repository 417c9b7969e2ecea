-- Terms of columns, each noted once.
use Rattle.std.specs.Prelude.{◌≡◌, ◌⊎◌, ℕ, ◌<◌, List, [], map, length, replicate, slice_get, slice_index, Option, Some, None, true, bytes_eq}
use Rattle.std.specs.List.{IsDistinct}
use Rattle.col_common.specs.declared.error.ColumnarError.{ColumnarError}
use Rattle.col_common.specs.declared.error.ColumnarError.TheVariants.{OutOfMemory, TooLarge}
use Rattle.std.specs.declared.vec.Vec.{Vec}
use Rattle.std.specs.declared.alloc.Global.{Global}
use Rattle.col_terms.specs.Building.{is_past_ids}
use Rattle.col_merge_texts.specs.Items.{item_at}

-- the lists that are held
abbrev pub ids_of : List (Vec (Option ℕ) Global) → List (List (Option ℕ))
ids_of vs = map (λ v. v.items) vs

-- terms by their ids, and for each term of each column its id, if it was noted
pub record Noted : Type 0 where
  pub terms : List (List ℕ)
  pub ids : List (List (Option ℕ))

abbrev pub noted_by : List (List ℕ) → List (Vec (Option ℕ) Global) → Noted
noted_by terms vs = record { terms = terms; ids = ids_of vs }

-- no term of columns
abbrev pub no_ids_of : List (List (List ℕ)) → List (List (Option ℕ))
no_ids_of tss = map (λ ts. replicate (length ts) None) tss

abbrev pub nothing_noted : List (List (List ℕ)) → Noted
nothing_noted tss = record { terms = []; ids = no_ids_of tss }

-- The place, a segment and an ordinal there, has an id, and it is that of the term.
pub record HasId (n : Noted) (p : ℕ × ℕ) (t : List ℕ) : Type 0 where
  pub id : ℕ
  pub there : item_at n.ids p ≡ Some (Some id)
  pub is : slice_get n.terms id ≡ Some t

-- the same, if the place has an id
abbrev pub HasIdIf : Noted → ℕ × ℕ → List ℕ → Type 0
HasIdIf n p t = (id : ℕ) → item_at n.ids p ≡ Some (Some id) → slice_get n.terms id ≡ Some t

-- the item at a place was set, and others stay
pub record Sets {X : Type 0} (p : ℕ × ℕ) (x : X) (old new : List (List X)) : Type 0 where
  pub lengths : map length new ≡ map length old
  pub told : item_at new p ≡ Some x
  pub others : (q : ℕ × ℕ) → (q ≡ p) ⊎ (item_at new q ≡ item_at old q)

-- the place has an id
abbrev pub IsNoted : Noted → ℕ × ℕ → Type 0
IsNoted n p = (id : ℕ) × (item_at n.ids p ≡ Some (Some id))

-- The term of a place was noted: the place has its id; ids of others stay, and of the place if it
-- had one, and no other term came.
pub record Notes (p : ℕ × ℕ) (t : List ℕ) (old new : Noted) : Type 0 where
  pub lengths : map length new.ids ≡ map length old.ids
  pub told : HasId new p t
  pub others : (q : ℕ × ℕ) → (q ≡ p) ⊎ (item_at new.ids q ≡ item_at old.ids q)
  pub keeps : (q : ℕ × ℕ) (id : ℕ) → item_at old.ids q ≡ Some (Some id)
      → item_at new.ids q ≡ Some (Some id)
  pub stay : (id : ℕ) → id < length old.terms → slice_get new.terms id ≡ slice_get old.terms id
  pub came : (id : ℕ) → id < length new.terms →
      (id < length old.terms) ⊎ (slice_get new.terms id ≡ Some t)

-- a new term comes behind more others than 32 bits count
pub record IsPastIds (terms : List (List ℕ)) (t : List ℕ) : Type 0 where
  pub past : is_past_ids terms t ≡ true
  pub differ : IsDistinct bytes_eq terms

-- a term isn't noted for want of memory, or since there are no more ids
abbrev pub IsNoteRefusal : List (List ℕ) → List ℕ → ColumnarError → Type 0
IsNoteRefusal terms t e = (e ≡ OutOfMemory) ⊎ ((e ≡ TooLarge) × IsPastIds terms t)

-- an id, if it is one, is below a count
abbrev pub IsIdBelow : ℕ → Option ℕ → Type 0
IsIdBelow n None = Unit {0}
IsIdBelow n (Some id) = id < n

-- the ordinal of an id; 0 where there is none
abbrev pub ord_by : List ℕ → Option ℕ → ℕ
ord_by ords None = 0
ord_by ords (Some id) = slice_index ords id

-- the ordinals of ids
abbrev pub ords_by : List ℕ → List (List (Option ℕ)) → List (List ℕ)
ords_by ords ids = map (map (ord_by ords)) ids
