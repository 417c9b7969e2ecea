-- Tables of counts: how often the cell of each place stands.
use Rattle.std.specs.Prelude.{◌≡◌, ℕ, suc, ◌+◌, ◌-◌, ◌<◌, ◌≤◌, nat_lt, Bool, ◌==◌, List, [], ◌∷◌, slice_get, unwrap_or, Option, if◌then◌else◌}
use Rattle.std.specs.List.{AllByRecursion}
use Rattle.std.specs.declared.cmp.Ordering.{Ordering}
use Rattle.std.specs.declared.cmp.Ordering.TheVariants.{Less}
use Rattle.col_model.specs.AddressList.{code_count, coded_number}
use Rattle.col_values.specs.Monotonic.{Passes}
use Rattle.col_values.specs.Values.{IsAtMost}
use Rattle.col_facet.specs.Cells.{cell_cmp}
use Rattle.col_facet.specs.declared.facet_cell.FacetCell.{FacetCell}
use Rattle.col_facet.specs.declared.facet_cell.FacetCell.TheVariants.{Addr, Term}
use Rattle.col_facet.specs.declared.facet_cell.FacetCount.{FacetCount}

-- the cells of the places from one on whose counts aren't 0
unfoldable pub counted_from : (ℕ → FacetCell) → ℕ → List ℕ → List FacetCount
counted_from cell at [] = []
counted_from cell at (n ∷ ns) =
    let later = counted_from cell (suc at) ns in
    if n == 0 then later else record { cell = cell at; count = n } ∷ later

-- the term of an ordinal
abbrev pub term_at : List (List ℕ) → ℕ → FacetCell
term_at terms n = Term (unwrap_or (slice_get terms n) [])

-- the address of the code behind a place; 0 behind the last
abbrev pub address_at : List (ℕ × ℕ) → ℕ → FacetCell
address_at ranges n =
    Addr (if nat_lt n (code_count ranges) then coded_number ranges (suc n) else 0)

-- all are codes of the ranges
abbrev pub AreCodesIn : List (ℕ × ℕ) → List ℕ → Type 0
AreCodesIn ranges codes = AllByRecursion (λ k. (1 ≤ k) × (k ≤ code_count ranges)) codes

-- the cells of so many places ascend
abbrev pub AreRising : (ℕ → FacetCell) → ℕ → Type 0
AreRising cell m = (i j : ℕ) → i < j → j < m → cell_cmp (cell i) (cell j) ≡ Less

-- a value's number is one of so many from a base on, and its cell is that of its place
pub record IsPlaced {T : Type 0} (code : T → ℕ) (cell : T → FacetCell) (place_cell : ℕ → FacetCell)
    (base len : ℕ) (x : T) : Type 0 where
  pub from : base ≤ code x
  pub below : code x < base + len
  pub stands : cell x ≡ place_cell (code x - base)

-- so do all of these, from a least value on
abbrev pub ArePlaced : {T : Type 0} → (T → ℕ) → (T → FacetCell) → (T → ℕ → FacetCell) → T → ℕ → List T
    → Type 0
ArePlaced code cell cells least len xs =
    AllByRecursion (IsPlaced code cell (cells least) (code least) len) xs

-- Cells of places ascend, and a value that is at least another stands as far above it as its
-- number does.
pub record HasPlaces {T : Type 0} (cmp : T → T → Option Ordering) (in_type : T → Bool)
    (code : T → ℕ)
    (cell : T → FacetCell) (cells : T → ℕ → FacetCell) : Type 0 where
  pub rising : (least : T) (m : ℕ) → AreRising (cells least) m
  pub from : (least x : T) → Passes in_type least → IsAtMost cmp least x → code least ≤ code x
  pub stands : (least x : T) → Passes in_type least → IsAtMost cmp least x
      → cell x ≡ cells least (code x - code least)
  pub below : (x greatest : T) → IsAtMost cmp x greatest → code x ≤ code greatest
