-- What is there and has its flag set, and the parts of segments one by one.
use Rattle.std.proofs.Common.{◌≡◌, ◌∙◌, ◌⊎◌, inl, inr, ℕ, zero, suc, ◌+◌, ◌<◌, ◌≤◌, ◌==◌, ◌&&◌, ◌||◌, Bool, true, false, if◌then◌else◌, List, [], ◌∷◌, ◌++◌, length, take, drop, map, filter_map, get_or, set, slice_get, slice_index, option_map, Option, Some, None, IfSome, Result, Ok, Err, IfOk, refl, sym, ap, ap₂, subst, arith}
use Rattle.std.specs.List.{list_all, list_any, AllByRecursion}
use Rattle.std.proofs.lemmas.Bool.{eq-eqb}
use Rattle.std.proofs.lemmas.List.{get_or-drop, get_or_default, drop-drop, drop-set-lt, length_push, length-map, take_all}
use Rattle.std.proofs.lemmas.List.Folds.{list_all_more, list_all_at}
use Rattle.std.proofs.lemmas.Option.{none-some, slice_get-map, slice_get-get_or, slice_get_within, get_or_from_slice_get}
use Rattle.col_model.specs.Category.{category_of, category_place}
use Rattle.col_model.specs.ColumnType.{ColumnType}
use Rattle.col_model.specs.Index.{Shape, empty_shape}
use Rattle.col_model.specs.Limits.{is_of_type}
use Rattle.col_model.specs.Merge.{all_cells}
use Rattle.col_model.specs.Table.{Cell, Content}
use Rattle.col_model.specs.U64List.{joined_lists}
use Rattle.col_model.proofs.ListLaws.{item-at}
use Rattle.col_column.specs.Columns.{row_count, content_seen}
use Rattle.col_dynamic.specs.Dynamic.{type_of, content_of, dynamic_shape, value_count}
use Rattle.col_dynamic.specs.declared.dynamic_column.DynamicColumn.{DynamicColumn}
use Rattle.col_values.specs.Values.{passes}
use Rattle.col_merge_column.specs.Merges.{columns_by}
use Rattle.col_merge_slot.specs.Segments.{where_set, column_seen, IsOfCategory, HaveRows, same_category, is_read_as, is_none_or, IsPart, AreParts, AreSegmentColumns}

-- ---- what is kept

-- a choice between nothing and nothing
none-either : {A : Type 0} (b : Bool) → ◌≡◌ {A = Option A} None (if b then None else None)
none-either true = refl
none-either false = refl

-- what stands at a place
pub set-at : {A : Type 0} (os : List (Option A)) (flags : List Bool) (k : ℕ)
    → get_or (where_set os flags) k None ≡ (if get_or flags k false then get_or os k None else None)
set-at [] flags zero = none-either (get_or flags zero false)
set-at [] flags (suc k) = none-either (get_or flags (suc k) false)
set-at (o ∷ os) [] zero = refl
set-at (o ∷ os) [] (suc k) = set-at os [] k
set-at (o ∷ os) (flag ∷ flags) zero = refl
set-at (o ∷ os) (flag ∷ flags) (suc k) = set-at os flags k

-- there is one option for each, with its flag set or not
pub length-set : {A : Type 0} (os : List (Option A)) (flags : List Bool) → length (where_set os flags) ≡ length os
length-set [] flags = refl
length-set (o ∷ os) [] = ap (λ n. suc n) (length-set os [])
length-set (o ∷ os) (flag ∷ flags) = ap (λ n. suc n) (length-set os flags)

-- a test of some item that is there, and of each
pub any-kept : {A : Type 0} (p : A → Bool) (os : List (Option A)) → list_any (passes p) os ≡ list_any p (filter_map (λ o. o) os)
any-kept p [] = refl
any-kept p (None ∷ os) = any-kept p os
any-kept p (Some a ∷ os) = ap (λ b. p a || b) (any-kept p os)

-- a test that all which is there pass is one that each passes or isn't there
pub all-kept : {A : Type 0} (p : A → Bool) (os : List (Option A)) → list_all (is_none_or p) os ≡ list_all p (filter_map (λ o. o) os)
all-kept p [] = refl
all-kept p (None ∷ os) = all-kept p os
all-kept p (Some a ∷ os) = ap (λ b. p a && b) (all-kept p os)

-- Of columns of one category each is read as the type exactly where each cell is of the type.
pub all-read : (t : ColumnType) (name : List ℕ) (cs : List DynamicColumn) → AllByRecursion (IsOfCategory (category_of t)) cs
    → list_all (is_read_as t) cs ≡ list_all (λ c. list_all (is_of_type t) (all_cells c)) (map (column_seen name) cs)
all-read t name [] all = refl
all-read t name (c ∷ cs) all =
    let same : same_category (type_of c) t ≡ true =
    ap (λ k. category_place k == category_place (category_of t)) all.0
    ∙ eq-eqb (category_place (category_of t)) (category_place (category_of t)) refl in
    ap₂ (λ a b. (a && list_all (is_of_type t) (joined_lists (content_of c).rows)) && b) same (all-read t name cs all.1)

-- ---- lists that grow

-- an item of a list with one more
pub get-more : {A : Type 0} (xs : List A) (x y : A) (k : ℕ) → slice_get (xs ++ x ∷ []) k ≡ Some y
    → (slice_get xs k ≡ Some y) ⊎ ((k ≡ length xs) × (x ≡ y))
get-more [] x y zero e = inr (refl, same e)
  where
    same : ◌≡◌ {A = Option _} (Some x) (Some y) → x ≡ y
    same e = grind arith
get-more [] x y (suc k) e = absurd (none-some y e)
get-more (z ∷ xs) x y zero e = inl e
get-more (z ∷ xs) x y (suc k) e = elim (get-more xs x y k e) [
  | inl there ↦ inl there
  | inr last ↦ inr (ap (λ n. suc n) last.0, last.1)
]

-- the parts of the first i segments
pub record ArePartsUpTo {V : Type 0} (t : ColumnType) (count : V → ℕ) (content : Shape → V → Content)
    (counts : List ℕ) (kept : List (Option DynamicColumn)) (i : ℕ) (shapes : List Shape) (vs : List V) : Type 0
  where
    pub shapes_long : length shapes ≡ i
    pub lists_long : length vs ≡ i
    pub each : (k : ℕ) (s : Shape) (v : V) → slice_get shapes k ≡ Some s → slice_get vs k ≡ Some v
        → IsPart count content (slice_index counts k) (get_or kept k None) s v
    pub read : list_all (is_none_or (is_read_as t)) (take i kept) ≡ true

module _ {V : Type 0} (t : ColumnType) (count : V → ℕ) (content : Shape → V → Content) (counts : List ℕ)
    (kept : List (Option DynamicColumn)) where
  -- before the first
  pub no-parts : ArePartsUpTo t count content counts kept 0 [] []
  no-parts = record {
    shapes_long = refl;
    lists_long = refl;
    each = λ k s v e f. absurd (omega (arith, slice_get_within [] k s e));
    read = refl;
  }

  -- one more
  pub one-more :
      (i : ℕ) (shapes more : List Shape) (vs most : List V) (n : ℕ) (o : Option DynamicColumn) (s : Shape) (v : V)
      → i < length kept → ArePartsUpTo t count content counts kept i shapes vs → n ≡ slice_index counts i
      → o ≡ get_or kept i None → is_none_or (is_read_as t) o ≡ true → IsPart count content n o s v
      → more ≡ shapes ++ s ∷ [] → most ≡ vs ++ v ∷ [] → ArePartsUpTo t count content counts kept (i + 1) more most
  one-more i shapes more vs most n o s v h before rows column read part more_is most_is = record {
    shapes_long = ap length more_is ∙ length_push shapes s ∙ ap (λ n. n + 1) before.shapes_long;
    lists_long = ap length most_is ∙ length_push vs v ∙ ap (λ n. n + 1) before.lists_long;
    each = each;
    read =
        list_all_more (is_none_or (is_read_as t)) kept i None h
        ∙ ap₂ (λ a b. a && b) before.read (ap (is_none_or (is_read_as t)) (sym column) ∙ read);
  }
    where
      each : (k : ℕ) (r : Shape) (w : V) → slice_get more k ≡ Some r → slice_get most k ≡ Some w
          → IsPart count content (slice_index counts k) (get_or kept k None) r w
      each k r w e f =
          by (get-more shapes s r k (ap (λ xs. slice_get xs k) (sym more_is) ∙ e))
          (get-more vs v w k (ap (λ xs. slice_get xs k) (sym most_is) ∙ f))
        where
          moved : i ≡ k → s ≡ r → v ≡ w → IsPart count content (slice_index counts k) (get_or kept k None) r w
          moved place shape value =
              subst (λ j. IsPart count content (slice_index counts j) (get_or kept j None) r w) place
              (subst (λ r. IsPart count content (slice_index counts i) (get_or kept i None) r w) shape
              (subst (λ w. IsPart count content (slice_index counts i) (get_or kept i None) s w) value
              (subst (λ m. IsPart count content m (get_or kept i None) s v) rows (subst (λ p. IsPart count content n p s v) column part))))

          by : (slice_get shapes k ≡ Some r) ⊎ ((k ≡ length shapes) × (s ≡ r))
              → (slice_get vs k ≡ Some w) ⊎ ((k ≡ length vs) × (v ≡ w))
              → IsPart count content (slice_index counts k) (get_or kept k None) r w
          by (inl a) (inl b) = before.each k r w a b
          by (inl a) (inr b) = absurd (omega (arith, slice_get_within shapes k r a, b.0, before.shapes_long, before.lists_long))
          by (inr a) (inl b) = absurd (omega (arith, slice_get_within vs k w b, a.0, before.shapes_long, before.lists_long))
          by (inr a) (inr b) = moved (sym before.shapes_long ∙ sym a.0) a.1 b.1

  -- behind the last
  pub all-parts : (i : ℕ) (shapes : List Shape) (vs : List V) → length kept ≡ length counts → length kept ≤ i
      → i ≤ length kept → ArePartsUpTo t count content counts kept i shapes vs
      → AreParts t count content counts kept shapes vs
  all-parts i shapes vs long low high before = record {
    shapes_long = omega (arith, before.shapes_long, long);
    lists_long = omega (arith, before.lists_long, long);
    each = before.each;
    read = sym (all-kept (is_read_as t) kept) ∙ ap (list_all (is_none_or (is_read_as t))) (sym (take_all i kept low)) ∙ before.read;
  }

  -- a column that isn't of the type
  pub not-read : (i : ℕ) → i < length kept → is_none_or (is_read_as t) (get_or kept i None) ≡ false
      → list_all (is_read_as t) (filter_map (λ o. o) kept) ≡ false
  not-read i h other = sym (all-kept (is_read_as t) kept) ∙ list_all_at (is_none_or (is_read_as t)) kept i None h other

-- ---- the columns that are left

-- the column of the next segment is the one that was there
pub next-left : {A : Type 0} (left whole : List (Option A)) (i : ℕ) (d : Option A) → i < length whole
    → drop i left ≡ drop i whole → get_or left i d ≡ get_or whole i None
next-left left whole i d h same =
    ap (λ k. get_or left k d) (omega arith) ∙ sym (get_or-drop i left 0 d)
    ∙ ap (λ xs. get_or xs 0 d) same ∙ get_or-drop i whole 0 d ∙ ap (λ k. get_or whole k d) (omega arith)
    ∙ get_or_default whole i d None h

-- it is taken where its flag is set
pub taken : {A : Type 0} (left whole : List (Option A)) (flags : List Bool) (i : ℕ) (d : Option A)
    → i < length whole → drop i left ≡ drop i whole
    → (if get_or flags i false then get_or left i d else None) ≡ get_or (where_set whole flags) i None
taken left whole flags i d h same =
    ap (λ o. if get_or flags i false then o else None) (next-left left whole i d h same) ∙ sym (set-at whole flags i)

-- what a test says of it, it says of the column that is kept there
pub tested-at : {A : Type 0} (test : Option A → Bool) (left whole : List (Option A)) (flags : List Bool) (i : ℕ)
    (d : Option A) (b : Bool) → i < length whole → drop i left ≡ drop i whole
    → b ≡ test (if get_or flags i false then get_or left i d else None) → test (get_or (where_set whole flags) i None) ≡ b
tested-at test left whole flags i d b h same is = ap test (sym (taken left whole flags i d h same)) ∙ sym is

-- taking it leaves those behind it
pub left-behind : {A : Type 0} (left whole : List (Option A)) (i : ℕ) (o : Option A) → drop i left ≡ drop i whole
    → drop (i + 1) (set left i o) ≡ drop (i + 1) whole
left-behind left whole i o same =
    drop-set-lt (i + 1) left i o (omega arith) ∙ sym (drop-drop 1 i left) ∙ ap (drop 1) same ∙ drop-drop 1 i whole

-- its rows are the segment's
pub rows-of : (counts : List ℕ) (columns left : List (Option DynamicColumn)) (i n : ℕ) (d : Option DynamicColumn)
    → HaveRows counts columns → i < length columns → drop i left ≡ drop i columns → n ≡ slice_index counts i
    → IfSome (get_or left i d) (λ c. row_count (dynamic_shape c) (value_count c) ≡ n)
rows-of counts columns left i n d have h same rows = by (get_or left i d) (next-left left columns i d h same)
  where
    by : (o : Option DynamicColumn) → o ≡ get_or columns i None → IfSome o (λ c. row_count (dynamic_shape c) (value_count c) ≡ n)
    by None e = tt
    by (Some c) e = have.rows i c (slice_get-get_or columns i None h ∙ ap Some (sym e)) ∙ sym rows

-- ---- values as lists

-- what follows of an answer's value
pub ok-then : {A E : Type 0} (r : Result A E) {P Q : A → Type 0} → IfOk r P → ((a : A) → P a → Q a) → IfOk r Q
ok-then (Ok a) p f = f a p
ok-then (Err e) p f = tt

module _ {V T : Type 0} (list : V → List T) (cell : T → Cell) where
  -- the values of a segment, as a list
  as-list : (n : ℕ) (o : Option DynamicColumn) (s : Shape) (v : V)
      → IsPart (λ v. length (list v)) (λ s v. content_seen [] cell s (list v)) n o s v
      → IsPart length (content_seen [] cell) n o s (list v)
  as-list n None s v part = record { rows = part.rows; counted = part.counted; seen = part.seen }
  as-list n (Some c) s v part = record { rows = part.rows; counted = part.counted; seen = part.seen }

  -- parts of segments are columns for a merge
  pub parts-columns :
      (t : ColumnType) (counts : List ℕ) (kept : List (Option DynamicColumn)) (shapes : List Shape) (vs : List V)
      → AreParts t (λ v. length (list v)) (λ s v. content_seen [] cell s (list v)) counts kept shapes vs
      → AreSegmentColumns t cell counts kept (columns_by shapes (map list vs))
  parts-columns t counts kept shapes vs are = record {
    columns = record {
      shapes = are.shapes_long;
      lists = length-map vs list ∙ are.lists_long;
      each = λ k h. record { rows = (part-at k h).rows; counted = (part-at k h).counted };
    };
    each = λ k h. (part-at k h).seen;
    read = are.read;
  }
    where
      part-at : (k : ℕ) → k < length counts
          → IsPart length (content_seen [] cell) (slice_index counts k) (get_or kept k None)
          (get_or shapes k (empty_shape 0)) (get_or (map list vs) k [])
      part-at k h =
          let item = item-at vs k (omega (arith, are.lists_long)) in
          let shape = slice_get-get_or shapes k (empty_shape 0) (omega (arith, are.shapes_long)) in
          let part = are.each k (get_or shapes k (empty_shape 0)) item.0 shape item.1 in
          let value = sym (get_or_from_slice_get (map list vs) k (list item.0) []
          (slice_get-map list vs k ∙ ap (option_map list) item.1)) in
          subst (IsPart length (content_seen [] cell) (slice_index counts k) (get_or kept k None) (get_or shapes k (empty_shape 0))) value
          (as-list (slice_index counts k) (get_or kept k None) (get_or shapes k (empty_shape 0)) item.0 part)
