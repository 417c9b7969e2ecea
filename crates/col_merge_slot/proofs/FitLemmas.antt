-- Which columns fit a slot: those that are read as its type.
use Rattle.std.proofs.Common.{◌≡◌, ◌∙◌, ℕ, zero, suc, ◌==◌, ◌||◌, ◌&&◌, Bool, true, false, cond, List, [], ◌∷◌, take, filter_map, get_or, slice_get, option_map, Option, Some, None, IfSome, Result, Ok, Err, IfOk, refl, sym, ap, ap₂, subst}
use Rattle.std.specs.List.{list_all, list_any, AllByRecursion}
use Rattle.std.proofs.lemmas.Bool.{and_parts, or_parts, eqb-true}
use Rattle.col_common.specs.declared.error.ColumnarError.{ColumnarError}
use Rattle.col_common.specs.declared.error.ColumnarError.TheVariants as refusals
use Rattle.col_model.specs.Category.{Category, category_of, category_place, only_type}
use Rattle.col_model.specs.ColumnType.{ColumnType, is_numerical}
use Rattle.col_model.specs.ColumnType as types
use Rattle.col_model.specs.Limits.{is_of_type}
use Rattle.col_model.specs.U64List.{joined_lists}
use Rattle.col_model.proofs.OrderedColumns.{category_at, place-category}
use Rattle.col_model.proofs.SharedTypes.{IsNumber, an_i64, a_u64, numbers, number_type, some≢none, same-some, only-type, own-type}
use Rattle.col_types.specs.Kinds.{kind_of}
use Rattle.col_types.specs.declared.column_type.ColumnType as kinds
use Rattle.col_dynamic.specs.Dynamic.{type_of, content_of}
use Rattle.col_dynamic.specs.declared.dynamic_column.DynamicColumn.{DynamicColumn}
use Rattle.col_merge_slot.specs.Kept.{IsOwn}
use Rattle.col_merge_slot.specs.Segments.{where_set, kept_of, column_seen, same_category, is_read_as, is_none_or}
use Rattle.col_merge_slot.specs.SlotTypes.{HaveSeen, is_signed, is_low, is_high, type_seen}
use Rattle.col_merge_slot.specs.Taken.{FitAs, LeavesFor, fits_slot}
use Rattle.col_merge_slot.specs.declared.shared_type.NumbersSeen.{NumbersSeen}
use Rattle.col_merge_slot.proofs.SegmentLemmas.{any-kept}
use Rattle.col_merge_slot.proofs.SharedLemmas.{are-i64, are-u64, only-u64}
use Rattle.col_merge_slot.proofs.SlotTypeLemmas.{many}

-- ---- one column

-- types of one category have it in common
one-category : (s t : ColumnType) → same_category s t ≡ true → category_of s ≡ category_of t
one-category s t e =
    sym (place-category (category_of s))
    ∙ ap category_at (eqb-true (category_place (category_of s)) (category_place (category_of t)) e)
    ∙ place-category (category_of t)

-- each cell of a column is of the type
abbrev has_type : ColumnType → DynamicColumn → Bool
has_type t c = list_all (is_of_type t) (joined_lists (content_of c).rows)

-- a column is read as a type of its category, where each of its cells is of the type
read-by : (t : ColumnType) (c : DynamicColumn)
    → (same_category (type_of c) t ≡ true → has_type t c ≡ true)
    → is_read_as t c ≡ same_category (type_of c) t
read-by t c cells = by (same_category (type_of c) t) refl
  where
    by : (b : Bool) → same_category (type_of c) t ≡ b → is_read_as t c ≡ same_category (type_of c) t
    by true e = ap (λ b. b && has_type t c) e ∙ cells e ∙ sym e
    by false e = ap (λ b. b && has_type t c) e ∙ sym e

-- each column is read as the type exactly where it is of the type's category
abbrev ReadsCategory : ColumnType → List DynamicColumn → Type 0
ReadsCategory t cs = AllByRecursion (λ c. is_read_as t c ≡ same_category (type_of c) t) cs

-- of another category than the numerical one
reads-only : (t : ColumnType) (cs : List DynamicColumn) → is_numerical t ≡ false → AllByRecursion IsOwn cs → ReadsCategory t cs
reads-only t [] h own = tt
reads-only t (c ∷ cs) h own =
    let cells : same_category (type_of c) t ≡ true → has_type t c ≡ true = λ e.
    let same : type_of c ≡ t = only-type (type_of c) t (ap only_type (one-category (type_of c) t e) ∙ own-type t h) in
    ap (λ u. has_type u c) (sym same) ∙ (and_parts _ _ own.0).1 in
    (read-by t c cells, reads-only t cs h own.1)

number-of : (t : ColumnType) (c : DynamicColumn) → is_numerical t ≡ true → same_category (type_of c) t ≡ true → IsNumber (type_of c)
number-of t c h e = numbers (type_of c) (ap only_type (one-category (type_of c) t e) ∙ many t h)

reads-i64 : (cs : List DynamicColumn) → AllByRecursion IsOwn cs → list_any is_high cs ≡ false → ReadsCategory types.i64 cs
reads-i64 [] own h = tt
reads-i64 (c ∷ cs) own h =
    let parts = or_parts (is_high c) (list_any is_high cs) h in (
      read-by types.i64 c (λ e. (are-i64 (column_seen [] c ∷ []) (number-of types.i64 c refl e, tt)
          ((and_parts _ _ own.0).1, tt) (ap (λ b. b || false) parts.0)).0),
      reads-i64 cs own.1 parts.1,
    )

reads-u64 : (cs : List DynamicColumn) → AllByRecursion IsOwn cs → list_any is_low cs ≡ false → ReadsCategory types.u64 cs
reads-u64 [] own h = tt
reads-u64 (c ∷ cs) own h =
    let parts = or_parts (is_low c) (list_any is_low cs) h in (
      read-by types.u64 c (λ e. (are-u64 (column_seen [] c ∷ []) (number-of types.u64 c refl e, tt)
          ((and_parts _ _ own.0).1, tt) (ap (λ b. b || false) parts.0)).0),
      reads-u64 cs own.1 parts.1,
    )

none-signed : (cs : List DynamicColumn) → AllByRecursion IsOwn cs → list_any is_signed cs ≡ false → ReadsCategory types.u64 cs
none-signed [] own h = tt
none-signed (c ∷ cs) own h =
    let parts = or_parts (is_signed c) (list_any is_signed cs) h in (
      read-by types.u64 c (λ e. (only-u64 (column_seen [] c ∷ []) (number-of types.u64 c refl e, tt)
          ((and_parts _ _ own.0).1, tt) (ap (λ b. b || false) parts.0)).0),
      none-signed cs own.1 parts.1,
    )

-- ---- the type of a slot

-- by the three tests of numbers, the type is a numerical one that holds all numbers
reads-number : (cs : List DynamicColumn) (t : ColumnType) → AllByRecursion IsOwn cs → (l h i : Bool)
    → list_any is_low cs ≡ l → list_any is_high cs ≡ h → list_any is_signed cs ≡ i → number_type l h i ≡ Some t
    → (category_of t ≡ category_of types.i64) × ReadsCategory t cs
reads-number cs t own true true i p q r f = absurd (some≢none t (sym f))
reads-number cs t own false true i p q r f =
    subst (λ t. (category_of t ≡ category_of types.i64) × ReadsCategory t cs) (same-some types.u64 t f) (refl, reads-u64 cs own p)
reads-number cs t own l false true p q r f =
    subst (λ t. (category_of t ≡ category_of types.i64) × ReadsCategory t cs) (same-some types.i64 t f) (refl, reads-i64 cs own q)
reads-number cs t own l false false p q r f =
    subst (λ t. (category_of t ≡ category_of types.i64) × ReadsCategory t cs) (same-some types.u64 t f) (refl, none-signed cs own r)

-- the category of numerical types
number-category : (t : ColumnType) → is_numerical t ≡ true → category_of t ≡ category_of types.i64
number-category t h = by (numbers t (many t h))
  where
    by : IsNumber t → category_of t ≡ category_of types.i64
    by (an_i64 e) = ap category_of e
    by (a_u64 e) = ap category_of e

-- columns that are of a type's category are of that of the first of them, where this is the same
fit-first : (t : ColumnType) (first : DynamicColumn) (rest cs : List DynamicColumn) → category_of t ≡ category_of (type_of first)
    → ReadsCategory t cs → AllByRecursion (λ c. is_read_as t c ≡ fits_slot None (first ∷ rest) c) cs
fit-first t first rest [] same all = tt
fit-first t first rest (c ∷ cs) same all = (
  all.0 ∙ ap (λ k. category_place (category_of (type_of c)) == category_place k) same,
  fit-first t first rest cs same all.1,
)

-- a type that isn't numerical, of the first column that is kept
pub only-fit : (cs : List DynamicColumn) (t : ColumnType) → option_map type_of (slice_get cs 0) ≡ Some t
    → is_numerical t ≡ false → AllByRecursion IsOwn cs → FitAs t None cs
only-fit [] t e h own = tt
only-fit (c ∷ cs) t e h own =
    fit-first t c cs (c ∷ cs) (ap category_of (sym (same-some (type_of c) t e))) (reads-only t (c ∷ cs) h own)

-- the numerical type, where the first column that is kept is of numbers
pub seen-fit : (kept : List (Option DynamicColumn)) (u : ColumnType) (n : NumbersSeen) (found : Option kinds.ColumnType)
    → option_map type_of (slice_get (filter_map (λ o. o) kept) 0) ≡ Some u → is_numerical u ≡ true → HaveSeen kept n
    → option_map kind_of found ≡ type_seen n → AllByRecursion IsOwn (filter_map (λ o. o) kept)
    → IfSome found (λ t. FitAs (kind_of t) None (filter_map (λ o. o) kept))
seen-fit kept u n None e h seen is own = tt
seen-fit kept u n (Some t) e h seen is own = by (filter_map (λ o. o) kept) e reads.1
  where
    reads : (category_of (kind_of t) ≡ category_of types.i64) × ReadsCategory (kind_of t) (filter_map (λ o. o) kept)
    reads =
        reads-number (filter_map (λ o. o) kept) (kind_of t) own n.some_low n.some_high n.some_signed
        (sym (any-kept is_low kept) ∙ sym seen.some_low) (sym (any-kept is_high kept) ∙ sym seen.some_high)
        (sym (any-kept is_signed kept) ∙ sym seen.some_signed) (sym is)

    by : (cs : List DynamicColumn) → option_map type_of (slice_get cs 0) ≡ Some u → ReadsCategory (kind_of t) cs
        → FitAs (kind_of t) None cs
    by [] e all = tt
    by (c ∷ cs) e all =
        fit-first (kind_of t) c cs (c ∷ cs)
        (reads.0 ∙ sym (number-category u h) ∙ ap category_of (sym (same-some (type_of c) u e))) all

-- a type that is wanted
pub wanted-fit : (t : ColumnType) (kept cs : List DynamicColumn) → AllByRecursion (λ c. is_read_as t c ≡ fits_slot (Some t) kept c) cs
wanted-fit t kept [] = tt
wanted-fit t kept (c ∷ cs) = (refl, wanted-fit t kept cs)

-- where no type was found, none has to fit
pub no-fit : (P : kinds.ColumnType → Type 0) (result : Result (Option kinds.ColumnType) ColumnarError) (b : Bool)
    → result ≡ cond b (Err refusals.NumericalConflict) (Ok None) → IfOk result (λ found. IfSome found P)
no-fit P result true e = subst (λ r. IfOk r (λ found. IfSome found P)) (sym e) tt
no-fit P result false e = subst (λ r. IfOk r (λ found. IfSome found P)) (sym e) tt

-- ---- what is left

module _ {A : Type 0} (f g : A → Bool) where
  same-before : (os : List (Option A)) (n : ℕ) → AllByRecursion (λ a. f a ≡ g a) (filter_map (λ o. o) os)
      → list_all (is_none_or f) (take n os) ≡ list_all (is_none_or g) (take n os)
  same-before [] zero all = refl
  same-before [] (suc n) all = refl
  same-before (o ∷ os) zero all = refl
  same-before (None ∷ os) (suc n) all = same-before os n all
  same-before (Some a ∷ os) (suc n) all = ap₂ (λ a b. a && b) all.0 (same-before os n all.1)

  same-at : (os : List (Option A)) (n : ℕ) → AllByRecursion (λ a. f a ≡ g a) (filter_map (λ o. o) os)
      → is_none_or f (get_or os n None) ≡ is_none_or g (get_or os n None)
  same-at [] zero all = refl
  same-at [] (suc n) all = refl
  same-at (None ∷ os) zero all = refl
  same-at (Some a ∷ os) zero all = all.0
  same-at (None ∷ os) (suc n) all = same-at os n all
  same-at (Some a ∷ os) (suc n) all = same-at os n all.1

  -- what is left for one test is left for each that agrees with it on all columns that are kept
  pub leaves-like : (old : List (Option A)) (flags : List Bool) (new : List (Option A)) (e : ColumnarError)
      → AllByRecursion (λ a. f a ≡ g a) (kept_of old flags) → LeavesFor f old flags new e → LeavesFor g old flags new e
  leaves-like old flags new refusals.CannotCoerce all leaves = record {
    place = leaves.place;
    before = sym (same-before (where_set old flags) leaves.place all) ∙ leaves.before;
    unfit = sym (same-at (where_set old flags) leaves.place all) ∙ leaves.unfit;
    left = leaves.left;
  }
  leaves-like old flags new refusals.OutOfMemory all leaves = leaves
  leaves-like old flags new refusals.ReadFault all leaves = leaves
  leaves-like old flags new refusals.WriteFault all leaves = leaves
  leaves-like old flags new refusals.InvalidData all leaves = leaves
  leaves-like old flags new refusals.BadOrder all leaves = leaves
  leaves-like old flags new refusals.BadName all leaves = leaves
  leaves-like old flags new refusals.RequiredConflict all leaves = leaves
  leaves-like old flags new refusals.NumericalConflict all leaves = leaves
  leaves-like old flags new refusals.TooLarge all leaves = leaves
  leaves-like old flags new refusals.NoCodec all leaves = leaves
  leaves-like old flags new refusals.ForcedType all leaves = leaves
  leaves-like old flags new refusals.DocOrder all leaves = leaves
  leaves-like old flags new refusals.DocOutOfRange all leaves = leaves
  leaves-like old flags new refusals.TieBreakerStart all leaves = leaves
  leaves-like old flags new refusals.NotUtf8 all leaves = leaves
