-- Each cell of columns is of the type that they share.
use Rattle.std.proofs.Common.{◌≡◌, ℕ, Bool, true, false, not, List, [], ◌∷◌, map, Some, None, Ok, refl, sym, ◌∙◌, ap, subst}
use Rattle.std.specs.Prelude.{Option}
use Rattle.std.specs.List.{list_all, list_any, AllByRecursion}
use Rattle.std.proofs.lemmas.Bool.{true≢false, and_parts, and_from, or_parts}
use Rattle.col_model.specs.ColumnType.{ColumnType, same_type}
use Rattle.col_model.specs.ColumnType as types
use Rattle.col_model.specs.Category.{Category, category_of, only_type}
use Rattle.col_model.specs.Limits.{is_of_type}
use Rattle.col_model.specs.Merge.{all_cells, shared_type, joined_type}
use Rattle.col_model.specs.Refusal.{◌>>=◌, refuse_if, cannot_coerce}
use Rattle.col_model.specs.Table.{Column}
use Rattle.col_model.proofs.SharedTypes.{low, high, is_i64, number_type, type_by, some≢none, same-some, IsNumber, an_i64, a_u64, numbers-in, only-type, shared-type}
use Rattle.col_model.proofs.SharedTypes as shared
use Rattle.col_model.proofs.JoinedTypes.{category-type_by}
use Rattle.col_model.proofs.CellRanges.{cells-i64, cells-u64}
use Rattle.col_dynamic.specs.declared.dynamic_column.DynamicColumn.{DynamicColumn}
use Rattle.col_merge_slot.specs.Segments.{column_seen, IsOfCategory, is_read_as}
use Rattle.col_merge_slot.proofs.SegmentLemmas.{all-read}
use Rattle.col_merge_slot.specs.Kept.{IsOwn}

-- ---- columns as the definition has them

-- each cell is of the column's own type
abbrev HasOwnCells : Column → Type 0
HasOwnCells d = list_all (is_of_type d.column_type) (all_cells d) ≡ true

abbrev AreNumbers : List Column → Type 0
AreNumbers ds = AllByRecursion (λ d. IsNumber d.column_type) ds

abbrev AreOfType : ColumnType → List Column → Type 0
AreOfType t ds = AllByRecursion (λ d. list_all (is_of_type t) (all_cells d) ≡ true) ds

own-as : (d : Column) (t : ColumnType) → d.column_type ≡ t → HasOwnCells d → list_all (is_of_type t) (all_cells d) ≡ true
own-as d t e own = ap (λ t. list_all (is_of_type t) (all_cells d)) (sym e) ∙ own

pub are-i64 : (ds : List Column) → AreNumbers ds → AllByRecursion HasOwnCells ds → list_any high ds ≡ false → AreOfType types.i64 ds
are-i64 [] numbers own h = tt
are-i64 (d ∷ ds) (an_i64 e, numbers) own h =
    (own-as d types.i64 e own.0, are-i64 ds numbers own.1 (or_parts (high d) (list_any high ds) h).1)
are-i64 (d ∷ ds) (a_u64 e, numbers) own h =
    let parts = or_parts (high d) (list_any high ds) h in (
      cells-i64 (all_cells d) (own-as d types.u64 e own.0)
          (ap (λ t. shared.is_high t (all_cells d)) (sym e) ∙ parts.0),
      are-i64 ds numbers own.1 parts.1,
    )

pub are-u64 : (ds : List Column) → AreNumbers ds → AllByRecursion HasOwnCells ds → list_any low ds ≡ false → AreOfType types.u64 ds
are-u64 [] numbers own h = tt
are-u64 (d ∷ ds) (a_u64 e, numbers) own h =
    (own-as d types.u64 e own.0, are-u64 ds numbers own.1 (or_parts (low d) (list_any low ds) h).1)
are-u64 (d ∷ ds) (an_i64 e, numbers) own h =
    let parts = or_parts (low d) (list_any low ds) h in (
      cells-u64 (all_cells d) (own-as d types.i64 e own.0)
          (ap (λ t. shared.is_low t (all_cells d)) (sym e) ∙ parts.0),
      are-u64 ds numbers own.1 parts.1,
    )

pub only-u64 : (ds : List Column) → AreNumbers ds → AllByRecursion HasOwnCells ds → list_any is_i64 ds ≡ false → AreOfType types.u64 ds
only-u64 [] numbers own h = tt
only-u64 (d ∷ ds) (a_u64 e, numbers) own h =
    (own-as d types.u64 e own.0, only-u64 ds numbers own.1 (or_parts (is_i64 d) (list_any is_i64 ds) h).1)
only-u64 (d ∷ ds) (an_i64 e, numbers) own h =
    absurd (true≢false (sym (ap (λ t. same_type t types.i64) e) ∙ (or_parts (is_i64 d) (list_any is_i64 ds) h).0))

are-only : (k : Category) (u : ColumnType) (ds : List Column) → only_type k ≡ Some u
    → AllByRecursion (shared.IsIn k) ds → AllByRecursion HasOwnCells ds → AreOfType u ds
are-only k u [] e within own = tt
are-only k u (d ∷ ds) e within own =
    (own-as d u (only-type d.column_type u (ap only_type within.0 ∙ e)) own.0, are-only k u ds e within.1 own.1)

-- by the three tests of numbers
by-tests : (ds : List Column) (t : ColumnType) → AreNumbers ds → AllByRecursion HasOwnCells ds → (l : Bool)
    → list_any low ds ≡ l → (h : Bool) → list_any high ds ≡ h → (i : Bool) → list_any is_i64 ds ≡ i
    → number_type l h i ≡ Some t → AreOfType t ds
by-tests ds t numbers own true p true q i r f = absurd (some≢none t (sym f))
by-tests ds t numbers own false p true q i r f = subst (λ t. AreOfType t ds) (same-some types.u64 t f) (are-u64 ds numbers own p)
by-tests ds t numbers own l p false q true r f = subst (λ t. AreOfType t ds) (same-some types.i64 t f) (are-i64 ds numbers own q)
by-tests ds t numbers own l p false q false r f = subst (λ t. AreOfType t ds) (same-some types.u64 t f) (only-u64 ds numbers own r)

-- the type that columns of a category share is of it, and their cells are of that type
shared-cells : (k : Category) (ds : List Column) (t : ColumnType) → AllByRecursion (shared.IsIn k) ds
    → AllByRecursion HasOwnCells ds → shared_type ds ≡ Some t → (category_of t ≡ k) × AreOfType t ds
shared-cells k [] t within own e = absurd (some≢none t (sym e))
shared-cells k (d ∷ ds) t within own e = (
  category-type_by k (list_any low (d ∷ ds)) (list_any high (d ∷ ds)) (list_any is_i64 (d ∷ ds)) t found,
  by (only_type k) refl found,
)
  where
    found : type_by (only_type k) (list_any low (d ∷ ds)) (list_any high (d ∷ ds)) (list_any is_i64 (d ∷ ds)) ≡ Some t
    found = sym (shared-type k d ds within) ∙ e

    by : (o : Option ColumnType) → only_type k ≡ o
        → type_by o (list_any low (d ∷ ds)) (list_any high (d ∷ ds)) (list_any is_i64 (d ∷ ds)) ≡ Some t
        → AreOfType t (d ∷ ds)
    by (Some u) p f = subst (λ t. AreOfType t (d ∷ ds)) (same-some u t f) (are-only k u (d ∷ ds) p within own)
    by None p f =
        by-tests (d ∷ ds) t (numbers-in k p (d ∷ ds) within) own (list_any low (d ∷ ds)) refl
        (list_any high (d ∷ ds)) refl (list_any is_i64 (d ∷ ds)) refl f

-- ---- columns that are open

module _ (name : List ℕ) where
  seen-in : (k : Category) (cs : List DynamicColumn) → AllByRecursion (IsOfCategory k) cs
      → AllByRecursion (shared.IsIn k) (map (column_seen name) cs)
  seen-in k [] all = tt
  seen-in k (c ∷ cs) all = (all.0, seen-in k cs all.1)

  seen-own : (cs : List DynamicColumn) → AllByRecursion IsOwn cs → AllByRecursion HasOwnCells (map (column_seen name) cs)
  seen-own [] all = tt
  seen-own (c ∷ cs) all = ((and_parts _ _ all.0).1, seen-own cs all.1)

  of-type : (t : ColumnType) (ds : List Column) → AreOfType t ds → list_all (λ d. list_all (is_of_type t) (all_cells d)) ds ≡ true
  of-type t [] all = refl
  of-type t (d ∷ ds) all = and_from _ _ all.0 (of-type t ds all.1)

  -- columns are read as the type that they share
  pub shared-read : (k : Category) (cs : List DynamicColumn) (t : ColumnType) → AllByRecursion (IsOfCategory k) cs
      → AllByRecursion IsOwn cs → shared_type (map (column_seen name) cs) ≡ Some t
      → (category_of t ≡ k) × (list_all (is_read_as t) cs ≡ true)
  shared-read k cs t within own e =
      let cells = shared-cells k (map (column_seen name) cs) t (seen-in k cs within) (seen-own cs own) e in (
        cells.0,
        all-read t name cs (subst (λ k. AllByRecursion (IsOfCategory k) cs) (sym cells.0) within)
            ∙ of-type t (map (column_seen name) cs) cells.1,
      )

-- a type that is wanted is the joined one exactly where each cell is of it
pub wanted-type : (t : ColumnType) (ds : List Column) (b : Bool)
    → list_all (λ d. list_all (is_of_type t) (all_cells d)) ds ≡ b
    → joined_type (Some t) ds ≡ (refuse_if (not b) cannot_coerce >>= λ _. Ok t)
wanted-type t ds b e = ap (λ b. refuse_if (not b) cannot_coerce >>= λ _. Ok t) e
