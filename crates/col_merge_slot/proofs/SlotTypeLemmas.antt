-- The type that the columns of a slot share, by what is seen of them.
use Rattle.std.proofs.Common.{◌≡◌, ◌∙◌, ℕ, ◌≤◌, ◌||◌, Bool, true, false, List, [], ◌∷◌, length, drop, map, filter_map, slice_get, option_map, Option, Some, None, refl, sym, ap}
use Rattle.std.specs.List.{list_any, AllByRecursion}
use Rattle.std.proofs.lemmas.Bool.{true≢false}
use Rattle.std.proofs.lemmas.List.{drop_all}
use Rattle.col_model.proofs.SharedTypes.{number_type, type_by, shared-type, some≢none, same-some, own-type}
use Rattle.col_model.proofs.SharedTypes as shared
use Rattle.col_model.specs.Category.{Category, category_of, only_type}
use Rattle.col_model.specs.ColumnType.{ColumnType, is_numerical}
use Rattle.col_model.specs.ColumnType as types
use Rattle.col_model.specs.Merge.{shared_type}
use Rattle.col_model.specs.Table.{Column}
use Rattle.col_values.specs.Values.{passes}
use Rattle.col_dynamic.specs.Dynamic.{type_of}
use Rattle.col_dynamic.specs.declared.dynamic_column.DynamicColumn.{DynamicColumn}
use Rattle.col_merge_slot.specs.Segments.{column_seen, IsOfCategory}
use Rattle.col_merge_slot.specs.SlotTypes.{HaveSeen, is_signed, is_low, is_high, type_seen}
use Rattle.col_merge_slot.specs.declared.shared_type.NumbersSeen.{NumbersSeen}
use Rattle.col_merge_slot.proofs.SegmentLemmas.{any-kept}

-- ---- the first column that is kept

-- behind the last item nothing is left
pub first-none : {A : Type 0} (os : List (Option A)) (i : ℕ) → length os ≤ i → filter_map (λ o. o) (drop i os) ≡ []
first-none os i h = ap (filter_map (λ o. o)) (drop_all i os h)

-- ---- the type

any-seen : (name : List ℕ) (p : Column → Bool) (cs : List DynamicColumn)
    → list_any p (map (column_seen name) cs) ≡ list_any (λ c. p (column_seen name c)) cs
any-seen name p [] = refl
any-seen name p (c ∷ cs) = ap (λ b. p (column_seen name c) || b) (any-seen name p cs)

all-seen : (category : Category) (name : List ℕ) (cs : List DynamicColumn) → AllByRecursion (IsOfCategory category) cs
    → AllByRecursion (shared.IsIn category) (map (column_seen name) cs)
all-seen category name [] all = tt
all-seen category name (c ∷ cs) all = (all.0, all-seen category name cs all.1)

pub many : (t : ColumnType) → is_numerical t ≡ true → only_type (category_of t) ≡ None
many types.i64 e = refl
many types.u64 e = refl
many types.bytes e = absurd (true≢false (sym e))
many types.str e = absurd (true≢false (sym e))
many types.bool e = absurd (true≢false (sym e))
many types.ip e = absurd (true≢false (sym e))
many types.datetime e = absurd (true≢false (sym e))

-- of another category than the numerical one
pub only-shared : (category : Category) (name : List ℕ) (cs : List DynamicColumn) (t : ColumnType)
    → AllByRecursion (IsOfCategory category) cs → option_map type_of (slice_get cs 0) ≡ Some t → is_numerical t ≡ false
    → shared_type (map (column_seen name) cs) ≡ Some t
only-shared category name [] t all e h = absurd (some≢none t (sym e))
only-shared category name (c ∷ cs) t all e h =
    let columns = map (column_seen name) cs in
    let is : type_of c ≡ t = same-some (type_of c) t e in
    let one : only_type category ≡ Some t = ap only_type (sym all.0) ∙ ap (λ u. only_type (category_of u)) is ∙ own-type t h in
    shared-type category (column_seen name c) columns (all-seen category name (c ∷ cs) all)
    ∙ ap (λ o. type_by o (list_any shared.low (column_seen name c ∷ columns))
    (list_any shared.high (column_seen name c ∷ columns))
    (list_any shared.is_i64 (column_seen name c ∷ columns))) one

-- of the numerical one
pub seen-shared :
    (category : Category) (name : List ℕ) (kept : List (Option DynamicColumn)) (t : ColumnType) (n : NumbersSeen)
    → AllByRecursion (IsOfCategory category) (filter_map (λ o. o) kept)
    → option_map type_of (slice_get (filter_map (λ o. o) kept) 0) ≡ Some t → is_numerical t ≡ true → HaveSeen kept n
    → shared_type (map (column_seen name) (filter_map (λ o. o) kept)) ≡ type_seen n
seen-shared category name kept t n all e h seen = by (filter_map (λ o. o) kept) refl all e
  where
    tests : (p : Column → Bool) (q : DynamicColumn → Bool) (b : Bool) (cs : List DynamicColumn)
        → ((c : DynamicColumn) → p (column_seen name c) ≡ q c) → b ≡ list_any (passes q) kept
        → filter_map (λ o. o) kept ≡ cs → list_any p (map (column_seen name) cs) ≡ b
    tests p q b cs same was are =
        any-seen name p cs ∙ ap (λ r. list_any r cs) (λ i c. same c i) ∙ ap (list_any q) (sym are)
        ∙ sym (any-kept q kept) ∙ sym was

    by : (cs : List DynamicColumn) → filter_map (λ o. o) kept ≡ cs → AllByRecursion (IsOfCategory category) cs
        → option_map type_of (slice_get cs 0) ≡ Some t → shared_type (map (column_seen name) cs) ≡ type_seen n
    by [] are all e = absurd (some≢none t (sym e))
    by (c ∷ cs) are all e =
        let columns = map (column_seen name) (c ∷ cs) in
        let is : type_of c ≡ t = same-some (type_of c) t e in
        let none : only_type category ≡ None = ap only_type (sym all.0) ∙ ap (λ u. only_type (category_of u)) is ∙ many t h in
        let low = tests shared.low is_low n.some_low (c ∷ cs) (λ c. refl) seen.some_low are in
        let high = tests shared.high is_high n.some_high (c ∷ cs) (λ c. refl) seen.some_high are in
        let signed = tests shared.is_i64 is_signed n.some_signed (c ∷ cs) (λ c. refl) seen.some_signed are in
        shared-type category (column_seen name c) (map (column_seen name) cs) (all-seen category name (c ∷ cs) all)
        ∙ ap (λ o. type_by o (list_any shared.low columns) (list_any shared.high columns) (list_any shared.is_i64 columns)) none
        ∙ (λ i. number_type (low i) (high i) (signed i))
