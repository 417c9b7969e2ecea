-- Keys of columns stand for the columns' cells.
use Rattle.std.proofs.Common.{◌≡◌, ◌<◌, ◌≤◌, ℕ, zero, suc, ◌+◌, not, Bool, List, [], ◌∷◌, map, refl, sym, ◌∙◌, ap, ap₂, subst, length, get_or, drop, add-one, replicate, arith, IsPermutation}
use Rattle.std.specs.Prelude.{Option, Some, None, IfSome, slice_get, slice_index_or}
use Rattle.std.specs.List.{AllByRecursion, AllZip}
use Rattle.std.specs.declared.cmp.Ordering.{Ordering}
use Rattle.std.specs.declared.cmp.Ordering.TheVariants.{Less, Equal, Greater}
use Rattle.std.specs.Ordering.{is_le, is_gt}
use Rattle.std.proofs.Math.ListN.{drop_of_length-le}
use Rattle.std.proofs.Math.Seq.{drop-cons}
use Rattle.std.proofs.lemmas.List.{length-replicate}
use Rattle.col_model.specs.Category.{Category}
use Rattle.col_model.specs.Cells.{AreCells}
use Rattle.col_model.specs.Lookup.{is_at_most}
use Rattle.col_model.specs.Order.{all_rows}
use Rattle.col_model.specs.Sorted.{sorted_items}
use Rattle.col_model.specs.SortOrder.{are_keys_in_order}
use Rattle.col_model.specs.Table.{Cell}
use Rattle.col_column.specs.Columns.{row_count}
use Rattle.col_dynamic.specs.Dynamic.{content_of, dynamic_shape, value_count}
use Rattle.col_dynamic.specs.declared.dynamic_column.DynamicColumn.{DynamicColumn}
use Rattle.col_dynamic.proofs.RowLemmas.{seen-rows}
use Rattle.col_merge_slot.specs.Segments.{HaveRows}
use Rattle.col_sort_rows.specs.Keys.{SplitRows, added, rows_from, rows_of_all, rows_by_keys}
use Rattle.col_sort.specs.Columns.{first_in, segment_keys, all_keys, AreOf, rows_by_cells, SortsColumns}
use Rattle.col_sort.proofs.CellLemmas.{AgreesAs, Compare, cells-by-keys}
use Rattle.col_sort_rows.proofs.AddedLemmas.{added-segment, added-all}
use Rattle.col_sort.proofs.AgreeLemmas.{rows-agree, none-agree, first-at, none-at}
use Rattle.col_sort.proofs.MovedLemmas.{rows-moved}

-- ---- the cells that rows begin with

-- of a segment of so many rows
unfoldable pub first_cells : Option DynamicColumn → ℕ → List (Option Cell)
first_cells (Some c) n = map (λ row. slice_get row 0) (content_of c).rows
first_cells None n = replicate n None

-- of all segments
unfoldable pub all_cells : List (Option DynamicColumn) → List ℕ → List (List (Option Cell))
all_cells [] ns = []
all_cells (o ∷ os) [] = []
all_cells (o ∷ os) (n ∷ ns) = first_cells o n ∷ all_cells os ns

-- they are the cells of the definition
pub cells-at : (os : List (Option DynamicColumn)) (ns : List ℕ) (j i : ℕ) → length os ≡ length ns
    → first_in os (j, i) ≡ slice_index_or (slice_index_or (all_cells os ns) j []) i None
unfolding all_cells first_cells
cells-at [] ns j i e = refl
cells-at (o ∷ os) [] j i e = absurd (omega arith)
cells-at (Some c ∷ os) (n ∷ ns) zero i e = first-at (content_of c).rows i
cells-at (None ∷ os) (n ∷ ns) zero i e = sym (none-at n i)
cells-at (o ∷ os) (n ∷ ns) (suc j) i e = cells-at os ns j i (omega arith)

-- ---- keys for them

-- the keys of columns of a kind stand for their cells, and those of any column are as many as its rows
pub record AreKeysOf {K : Type 0} (P : DynamicColumn → Type 0) (R : Cell → K → Type 0)
    (keys : DynamicColumn → List (Option K)) : Type 0 where
  pub agree : (c : DynamicColumn) → P c
      → AllZip (AgreesAs R) (map (λ row. slice_get row 0) (content_of c).rows) (keys c)
  pub many : (c : DynamicColumn) → length (keys c) ≡ length (content_of c).rows

module _ {K : Type 0} (P : DynamicColumn → Type 0) (R : Cell → K → Type 0) (keys : DynamicColumn → List (Option K))
    (are : AreKeysOf P R keys) where
  segment-agrees : (o : Option DynamicColumn) (n : ℕ) → IfSome o P
      → AllZip (AgreesAs R) (first_cells o n) (segment_keys keys o n)
  unfolding first_cells
  segment-agrees (Some c) n h = are.agree c h
  segment-agrees None n h = none-agree R n

  all-agree : (os : List (Option DynamicColumn)) (ns : List ℕ) → AllByRecursion (λ o. IfSome o P) os
      → AllZip (λ cs ks. AllZip (AgreesAs R) cs ks) (all_cells os ns) (all_keys keys os ns)
  unfolding all_cells all_keys
  all-agree [] ns h = tt
  all-agree (o ∷ os) [] h = tt
  all-agree (o ∷ os) (n ∷ ns) h = (segment-agrees o n h.0, all-agree os ns h.1)

  segment-many : (o : Option DynamicColumn) (n : ℕ)
      → ((c : DynamicColumn) → o ≡ Some c → row_count (dynamic_shape c) (value_count c) ≡ n)
      → length (segment_keys keys o n) ≡ n
  segment-many (Some c) n h = are.many c ∙ seen-rows c ∙ h c refl
  segment-many None n h = length-replicate n None

  all-many : (os : List (Option DynamicColumn)) (ns : List ℕ) → HaveRows ns os → map length (all_keys keys os ns) ≡ ns
  unfolding all_keys
  all-many [] [] h = refl
  all-many [] (n ∷ ns) h = let e = h.segments in absurd (omega arith)
  all-many (o ∷ os) [] h = let e = h.segments in absurd (omega arith)
  all-many (o ∷ os) (n ∷ ns) h =
      let e = h.segments in
      ap₂ (λ m ms. m ∷ ms) (segment-many o n (λ c is. h.rows 0 c (ap Some is)))
      (all-many os ns (record { segments = omega arith; rows = λ k c is. h.rows (suc k) c is }))

  -- rows by the keys of columns are those by the columns' cells
  pub columns-sorted : (category : Category) (cmp : K → K → Ordering) → Compare cmp R → (reversed : Bool)
      (os : List (Option DynamicColumn)) (ns : List ℕ) (rows : List (ℕ × ℕ))
      → (AreOf category os → AllByRecursion (λ o. IfSome o P) os) → HaveRows ns os
      → rows ≡ rows_by_keys cmp reversed (all_keys keys os ns)
      → SortsColumns category ns os reversed rows
  unfolding rows_by_cells
  columns-sorted category cmp laws reversed os ns rows kind h is =
      let kss = all_keys keys os ns in
      let many = all-many os ns h in
      let by_cell = λ (a b : ℕ × ℕ). are_keys_in_order reversed (first_in os a) (first_in os b) in
      record {
        moved = subst (IsPermutation (all_rows ns)) (sym is) (rows-moved cmp reversed kss ns many);
        sorted = λ all. is ∙ sym (ap (λ counts. sorted_items by_cell (all_rows counts)) (sym many)
            ∙ cells-by-keys cmp R laws reversed (first_in os) kss
            (rows-agree R (first_in os) 0 (all_cells os ns) kss
            (λ j i. (let e : 0 + j ≡ j = omega arith in ap (λ m. first_in os (m, i)) e) ∙ cells-at os ns j i h.segments)
            (all-agree os ns (kind all))));
      }

-- ---- segments that are left

-- the keys of the first one
pub keys-next : {K : Type 0} (keys : DynamicColumn → List (Option K)) (os : List (Option DynamicColumn)) (ns : List ℕ) (j : ℕ)
    (o : Option DynamicColumn) → length os ≡ length ns → j < length os → o ≡ get_or os j o
    → all_keys keys (drop j os) (drop j ns)
    ≡ segment_keys keys o (get_or ns j 0) ∷ all_keys keys (drop (j + 1) os) (drop (j + 1) ns)
unfolding all_keys
keys-next keys os ns j o long h is =
    (λ i. all_keys keys (drop-cons os j o h i) (drop-cons ns j 0 (omega (arith, long)) i))
    ∙ (λ i. segment_keys keys (sym is i) (get_or ns j 0) ∷ all_keys keys (drop (sym (add-one j) i) os) (drop (sym (add-one j) i) ns))

-- the segment at a place, of those that are left
pub columns-next : {K : Type 0} (keys : DynamicColumn → List (Option K)) (os : List (Option DynamicColumn)) (ns : List ℕ)
    (j : ℕ) (o : Option DynamicColumn) (now next all : SplitRows K) → length os ≡ length ns → j < length os → o ≡ get_or os j o
    → added now (rows_of_all j (all_keys keys (drop j os) (drop j ns))) ≡ all
    → next ≡ added now (rows_from j 0 (segment_keys keys o (get_or ns j 0)))
    → added next (rows_of_all (j + 1) (all_keys keys (drop (j + 1) os) (drop (j + 1) ns))) ≡ all
columns-next keys os ns j o now next all long h is e f =
    added-segment now next all j (segment_keys keys o (get_or ns j 0)) (all_keys keys (drop (j + 1) os) (drop (j + 1) ns))
    (ap (λ kss. added now (rows_of_all j kss)) (sym (keys-next keys os ns j o long h is)) ∙ e) f

-- none is left
pub columns-end : {K : Type 0} (keys : DynamicColumn → List (Option K)) (os : List (Option DynamicColumn)) (ns : List ℕ)
    (j : ℕ) (now all : SplitRows K) → length os ≤ j
    → added now (rows_of_all j (all_keys keys (drop j os) (drop j ns))) ≡ all → now ≡ all
unfolding all_keys
columns-end keys os ns j now all h e =
    added-all now all j (ap (λ os. added now (rows_of_all j (all_keys keys os (drop j ns)))) (sym (drop_of_length-le os h)) ∙ e)

-- cells that compare as their keys
pub compare-cells : {K : Type 0} (cmp : K → K → Ordering) (cell : K → Cell) → AreCells (λ a b. Some (cmp a b)) cell
    → Compare cmp (λ c k. c ≡ cell k)
compare-cells cmp cell laws = record {
  at_most = λ a b k l h g. (λ i. is_at_most (h i) (g i)) ∙ laws.at_most k l ∙ upto (cmp k l);
}
  where
    upto : (r : Ordering) → is_le r ≡ not (is_gt r)
    upto Less = refl
    upto Equal = refl
    upto Greater = refl
