-- The columns that parts keep under a slot are those of which the flags are set.
use Rattle.std.proofs.Common.{◌≡◌, inl, inr, ℕ, zero, suc, ◌+◌, ◌<◌, ◌==◌, nat_lt, not, Bool, true, false, cond, List, [], ◌∷◌, length, map, find, get_or, slice_get, unwrap_or, option_map, Option, Some, None, refl, sym, ap, ap₂, ◌∙◌, subst, arith}
use Rattle.std.specs.Prelude.{◌&&◌, ◌||◌, option_and_then, is_some, is_none}
use Rattle.std.specs.List.{list_all, list_any, enumerate_from, filter_map, cons_option, AllByRecursion}
use Rattle.std.proofs.lemmas.Bool.{and_parts, cases_eq, ne_eqb, lt-ltb}
use Rattle.std.proofs.lemmas.Grind.{common_steps}
use Rattle.std.proofs.lemmas.List.{length-map}
use Rattle.std.proofs.lemmas.List.FromFn.{get_or-map-range_with_len}
use Rattle.std.proofs.lemmas.Option.{none-some, gets, slice_get_cases, slice_get_within}
use Rattle.col_common.specs.Reading.{only_if}
use Rattle.col_model.proofs.ListLaws.{item-at}
use Rattle.col_model.proofs.OrderedColumns.{same-slots}
use Rattle.col_model.specs.Category.{Slot, category_of, same_slot}
use Rattle.col_model.specs.Column.{term_cell}
use Rattle.col_model.specs.ColumnType.{ColumnType}
use Rattle.col_model.specs.File.{Part, PartColumn, whole_column}
use Rattle.col_model.specs.Index.{Shape}
use Rattle.col_model.specs.Lookup.{row_of}
use Rattle.col_model.specs.Merge.{Required, required_slot, required_type, part_slot, column_in, whole_column_in, kept_column, kept_columns, has_bad_column, row_counts}
use Rattle.col_model.specs.Order.{has_row}
use Rattle.col_model.specs.Positions.{count_in}
use Rattle.col_model.specs.Table.{Cell, number, Column}
use Rattle.col_types.specs.Cells.{unsigned_cell, bool_cell}
use Rattle.col_numbers.specs.NumValues.{num_values_of}
use Rattle.col_column.specs.Columns.{row_count, rows_by, row_at, content_seen}
use Rattle.col_column.specs.IpValues.{ip_values_of}
use Rattle.col_column.proofs.CellLemmas.{row-map}
use Rattle.col_dynamic.specs.Dynamic.{content_of, dynamic_shape, value_count}
use Rattle.col_dynamic.specs.declared.dynamic_column.DynamicColumn.{DynamicColumn}
use Rattle.col_dynamic.specs.declared.dynamic_column.DynamicColumn.TheVariants as columns
use Rattle.col_merge_column.proofs.MergedRowLemmas.{row-length}
use Rattle.col_merge_column.specs.Merges.{FitsShape}
use Rattle.col_merge_slot.specs.JoinedSlots.{part_seen, AreOpened, AreKept}
use Rattle.col_merge_slot.specs.Kept.{has_value, keeps, kept_flags, IsCountedBy, IsCountedIn}
use Rattle.col_merge_slot.specs.Segments.{where_set, kept_of, column_seen, IsOfCategory, HaveRows}
use Rattle.col_merge_slot.proofs.KeptLemmas.{column-at, counted-at}
use Rattle.col_merge_slot.proofs.SegmentLemmas.{set-at, length-set}

-- ---- a row has as many cells as the index counts

-- a row has as many cells as its shape counts there
pub row-count : {T : Type 0} (cell : T → Cell) (terms : List (List ℕ)) (n : ℕ) (s : Shape) (xs : List T) (d : ℕ)
    → FitsShape n s xs → d < n → length (row_of (content_seen terms cell s xs) d) ≡ count_in s d
row-count cell terms n s xs d is h =
    ap length (row-map cell (rows_by s xs) d) ∙ length-map (row_at (rows_by s xs) d) cell ∙ row-length n s xs d is h

dynamic-row : (n : ℕ) (c : DynamicColumn) (d : ℕ) → row_count (dynamic_shape c) (value_count c) ≡ n → IsCountedBy c
    → d < n → length (row_of (content_of c) d) ≡ count_in (dynamic_shape c) d
dynamic-row n (columns.Bool c) d rows counted h =
    row-count bool_cell [] n c.shape (num_values_of c.values) d (record { rows = rows; counted = counted }) h
dynamic-row n (columns.I64 c) d rows counted h =
    row-count number [] n c.shape (num_values_of c.values) d (record { rows = rows; counted = counted }) h
dynamic-row n (columns.U64 c) d rows counted h =
    row-count unsigned_cell [] n c.shape (num_values_of c.values) d (record { rows = rows; counted = counted }) h
dynamic-row n (columns.IpAddr c) d rows counted h =
    row-count unsigned_cell [] n c.shape (ip_values_of c.values) d (record { rows = rows; counted = counted }) h
dynamic-row n (columns.DateTime c) d rows counted h =
    row-count number [] n c.shape (num_values_of c.values) d (record { rows = rows; counted = counted }) h
dynamic-row n (columns.Bytes c) d rows counted h =
    row-count (term_cell c.terms) c.terms n c.ords.shape (num_values_of c.ords.values) d
    (record { rows = rows; counted = counted }) h
dynamic-row n (columns.Str c) d rows counted h =
    row-count (term_cell c.terms) c.terms n c.ords.shape (num_values_of c.ords.values) d
    (record { rows = rows; counted = counted }) h

positive : (m : ℕ) → nat_lt 0 m ≡ not (m == 0)
positive zero = refl
positive (suc m) = lt-ltb 0 (suc m) (omega arith) ∙ ap not (sym (ne_eqb (suc m) 0 (λ e. omega (arith, e))))

-- the row that a pick names is there
pub row-within : (counts : List ℕ) (p : ℕ × ℕ) → has_row counts p ≡ true → p.1 < get_or counts p.0 0
row-within counts p h = grind (arith, common_steps, gets, slice_get_cases counts p.0)

-- ---- the flag of a segment

module _ (counts : List ℕ) (k : ℕ) (c : DynamicColumn) (rows : row_count (dynamic_shape c) (value_count c) ≡ get_or
    counts k 0) (counted : IsCountedBy c) where
  tested : (q : ℕ × ℕ) → has_row counts q ≡ true
      → ((q.0 == k) && nat_lt 0 (length (row_of (content_of c) q.1))) ≡ ((q.0 == k) && has_value (Some c) q.1)
  tested q there = elim (cases_eq q.0 k) [
    | inl same ↦
        let within : q.1 < get_or counts k 0 = omega (arith, row-within counts q there, ap (λ j. get_or counts j 0) same) in
        ap (λ b. (q.0 == k) && b) (ap (nat_lt 0) (dynamic-row (get_or counts k 0) c q.1 rows counted within)
        ∙ positive (count_in (dynamic_shape c) q.1))
    | inr other ↦
        ap (λ b. b && nat_lt 0 (length (row_of (content_of c) q.1))) (ne_eqb q.0 k other)
        ∙ sym (ap (λ b. b && has_value (Some c) q.1) (ne_eqb q.0 k other))
  ]

  all-tested : (ps : List (ℕ × ℕ)) → list_all (has_row counts) ps ≡ true
      → list_any (λ q. (q.0 == k) && nat_lt 0 (length (row_of (content_of c) q.1))) ps
      ≡ list_any (λ q. (q.0 == k) && has_value (Some c) q.1) ps
  all-tested [] all = refl
  all-tested (q ∷ ps) all =
      let parts = and_parts (has_row counts q) (list_all (has_row counts) ps) all in
      ap₂ (λ a b. a || b) (tested q parts.0) (all-tested ps parts.1)

-- ---- columns by flags

-- what holds of each column holds of those of which the flag is set
pub kept-each : (P : DynamicColumn → Type 0) (os : List (Option DynamicColumn)) (fs : List Bool)
    → ((j : ℕ) (c : DynamicColumn) → get_or os j None ≡ Some c → P c) → AllByRecursion P (kept_of os fs)
kept-each P [] fs each = tt
kept-each P (o ∷ os) [] each = kept-each P os [] (λ j c e. each (suc j) c e)
kept-each P (o ∷ os) (false ∷ fs) each = kept-each P os fs (λ j c e. each (suc j) c e)
kept-each P (None ∷ os) (true ∷ fs) each = kept-each P os fs (λ j c e. each (suc j) c e)
kept-each P (Some c ∷ os) (true ∷ fs) each = (each 0 c refl, kept-each P os fs (λ j c e. each (suc j) c e))

-- ---- lists

filter-map : {A B : Type 0} (f : A → Option B) (xs : List A) → filter_map f xs ≡ filter_map (λ o. o) (map f xs)
filter-map f [] = refl
filter-map f (x ∷ xs) = ap (λ ys. cons_option (f x) ys) (filter-map f xs)

filter-mapped : {A B : Type 0} (f : A → B) (os : List (Option A))
    → filter_map (λ o. o) (map (option_map f) os) ≡ map f (filter_map (λ o. o) os)
filter-mapped f [] = refl
filter-mapped f (None ∷ os) = filter-mapped f os
filter-mapped f (Some x ∷ os) = ap (λ ys. f x ∷ ys) (filter-mapped f os)

-- ---- what is found under a slot

found-part : (slot : Slot) (cs : List PartColumn) (d : PartColumn)
    → find (λ c. same_slot (part_slot c) slot) cs ≡ Some d → part_slot d ≡ slot
found-part slot [] d e = absurd (none-some d e)
found-part slot (c ∷ cs) d e = by (same_slot (part_slot c) slot) refl e (λ q. found-part slot cs d q)
  where
    by : (b : Bool) → same_slot (part_slot c) slot ≡ b
        → cond b (Some c) (find (λ c. same_slot (part_slot c) slot) cs) ≡ Some d
        → (find (λ c. same_slot (part_slot c) slot) cs ≡ Some d → part_slot d ≡ slot) → part_slot d ≡ slot
    by true p q later = ap part_slot (sym (ap (λ o. unwrap_or o c) q)) ∙ same-slots (part_slot c) slot p
    by false p q later = later q

-- a required type is one of the slot's category
pub required-category : (required : List Required) (slot : Slot) (t : ColumnType)
    → required_type required slot ≡ Some t → category_of t ≡ slot.category
required-category [] slot t e = absurd (none-some t e)
required-category (r ∷ rs) slot t e = by (same_slot (required_slot r) slot) refl e (λ q. required-category rs slot t q)
  where
    by : (b : Bool) → same_slot (required_slot r) slot ≡ b
        → option_map (λ r. r.column_type) (cond b (Some r) (find (λ r. same_slot (required_slot r) slot) rs))
        ≡ Some t → (required_type rs slot ≡ Some t → category_of t ≡ slot.category) → category_of t ≡ slot.category
    by true p q later =
        ap category_of (sym (ap (λ o. unwrap_or o r.column_type) q))
        ∙ ap (λ (s : Slot). s.category) (same-slots (required_slot r) slot p)
    by false p q later = later q

whole-seen : (name : List ℕ) (o : Option DynamicColumn)
    → option_and_then whole_column (option_map (part_seen name) o) ≡ option_map (column_seen name) o
whole-seen name None = refl
whole-seen name (Some c) = refl

-- ---- the parts of a slot

module _ (counts : List ℕ) (cols : List (Option DynamicColumn)) (picked : List (ℕ × ℕ)) (slot : Slot)
    (parts : List Part) (have : HaveRows counts cols) (counted : AllByRecursion IsCountedIn cols)
    (named : list_all (has_row counts) picked ≡ true) (same : row_counts parts ≡ counts)
    (opened : AreOpened slot parts cols) where
  abbrev flags : List Bool
  flags = kept_flags cols picked

  long : length cols ≡ length parts
  long = have.segments ∙ ap length (sym same) ∙ length-map parts (λ p. p.row_count)

  flag-at : (k : ℕ) (c : DynamicColumn) → k < length cols → get_or cols k None ≡ Some c
      → list_any (λ q. (q.0 == k) && nat_lt 0 (length (row_of (content_of c) q.1))) picked ≡ get_or flags k false
  flag-at k c h e =
      let counted-here : IsCountedIn (Some c) = subst IsCountedIn e (counted-at cols k counted) in
      all-tested counts k c (have.rows k c (column-at cols k c e)) counted-here picked named
      ∙ sym (ap (λ o. list_any (λ q. (q.0 == k) && has_value o q.1) picked) e)
      ∙ sym (get_or-map-range_with_len (keeps cols picked) 0 (length cols) k k false h (omega arith))

  seen-if : (b : Bool) (o : Option DynamicColumn) (name : List ℕ) (test : Column → Bool)
      → ((c : DynamicColumn) → o ≡ Some c → test (column_seen name c) ≡ b)
      → option_and_then (λ c. only_if (test c) c) (option_map (column_seen name) o)
      ≡ option_map (column_seen name) (cond b o None)
  seen-if true None name test h = refl
  seen-if false None name test h = refl
  seen-if true (Some c) name test h = ap (λ b. only_if b (column_seen name c)) (h c refl)
  seen-if false (Some c) name test h = ap (λ b. only_if b (column_seen name c)) (h c refl)

  pub kept-part : (k : ℕ) (p : Part) → slice_get parts k ≡ Some p
      → kept_column slot picked (k, p)
      ≡ option_map (column_seen slot.name) (get_or (where_set cols (kept_flags cols picked)) k None)
  kept-part k p e =
      let test : Column → Bool = λ c. list_any (λ q. (q.0 == k) && nat_lt 0 (length (row_of c.content q.1))) picked in
      let within : k < length cols = omega (arith, slice_get_within parts k p e, long) in
      ap (option_and_then (λ c. only_if (test c) c))
      (ap (option_and_then whole_column) (opened.each k p e) ∙ whole-seen slot.name (get_or cols k None))
      ∙ seen-if (get_or flags k false) (get_or cols k None) slot.name test (λ c f. flag-at k c within f)
      ∙ ap (option_map (column_seen slot.name)) (sym (set-at cols flags k))

  -- the columns whose flags are set are those that the parts keep under the slot
  pub are-kept : AreKept slot picked parts (where_set cols (kept_flags cols picked))
  are-kept = record { each = kept-part }

  listed : (k : ℕ) (ps : List Part) (os : List (Option DynamicColumn)) → length os ≡ length ps
      → ((j i : ℕ) (p : Part) → i ≡ k + j → slice_get ps j ≡ Some p
      → kept_column slot picked (i, p) ≡ option_map (column_seen slot.name) (get_or os j None))
      → map (kept_column slot picked) (enumerate_from k ps) ≡ map (option_map (column_seen slot.name)) os
  listed k [] [] e each = refl
  listed k [] (o ∷ os) e each = absurd (omega (arith, e))
  listed k (p ∷ ps) [] e each = absurd (omega (arith, e))
  listed k (p ∷ ps) (o ∷ os) e each =
      ap₂ (λ a b. a ∷ b) (each 0 k p (omega arith) refl)
      (listed (k + 1) ps os (omega (arith, e)) (λ j i q f g. each (suc j) i q (omega (arith, f)) g))

  -- those that the definition joins
  pub kept-columns : kept_columns slot picked parts ≡ map (column_seen slot.name) (kept_of cols (kept_flags cols picked))
  kept-columns =
      filter-map (kept_column slot picked) (enumerate_from 0 parts)
      ∙ ap (filter_map (λ o. o)) (listed 0 parts (where_set cols flags) (length-set cols flags ∙ long)
      (λ j i p e f. ap (λ n. kept_column slot picked (n, p)) (let h : i ≡ j = omega (arith, e) in h) ∙ kept-part j p f))
      ∙ filter-mapped (column_seen slot.name) (where_set cols flags)

  column-category : (k : ℕ) (c : DynamicColumn) → get_or cols k None ≡ Some c → IsOfCategory slot.category c
  column-category k c e =
      let within : k < length parts = omega (arith, slice_get_within cols k (Some c) (column-at cols k c e), long) in
      let part = item-at parts k within in
      ap (λ (s : Slot). s.category) (found-part slot part.0.columns (part_seen slot.name c)
      (opened.each k part.0 part.1 ∙ ap (option_map (part_seen slot.name)) e))

  -- all of them are of the slot's category
  pub kept-category : (fs : List Bool) → AllByRecursion (IsOfCategory slot.category) (kept_of cols fs)
  kept-category fs = kept-each (IsOfCategory slot.category) cols fs column-category

  whole-part : (o : Option DynamicColumn) (p : Part) → column_in slot p ≡ option_map (part_seen slot.name) o
      → (is_some (column_in slot p) && is_none (whole_column_in slot p)) ≡ false
  whole-part None p e = ap (λ o. is_some o && is_none (option_and_then whole_column o)) e
  whole-part (Some c) p e = ap (λ o. is_some o && is_none (option_and_then whole_column o)) e

  none-bad : (ps : List Part)
      → ((j : ℕ) (p : Part) → slice_get ps j ≡ Some p
      → (is_some (column_in slot p) && is_none (whole_column_in slot p)) ≡ false) → has_bad_column slot ps ≡ false
  none-bad [] each = refl
  none-bad (p ∷ ps) each = ap₂ (λ a b. a || b) (each 0 p refl) (none-bad ps (λ j q e. each (suc j) q e))

  -- none is outside the grammar
  pub not-bad : has_bad_column slot parts ≡ false
  not-bad = none-bad parts (λ j p e. whole-part (get_or cols j None) p (opened.each j p e))
