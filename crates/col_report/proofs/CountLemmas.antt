-- Counts of cells in a report.
use Rattle.std.proofs.Common.{◌≡◌, ◌∙◌, ℕ, ℤ, pos, negsuc, zero, suc, ◌+◌, ◌-◌, ◌<◌, ◌≤◌, ◌==◌, not, Bool, true, false, List, [], ◌∷◌, ◌++◌, map, flat_map, length, take, drop, get_or, slice_get, unwrap_or, decimal, codes, refl, sym, ap, ap₂, append-nil, append_assoc, arith}
use Rattle.std.specs.List.{AllByRecursion}
use Rattle.std.proofs.lemmas.Bool.{false≢true, ne_eqb}
use Rattle.std.proofs.lemmas.List.{drop_more, drop_all, take_all}
use Rattle.serde_json.specs.Data.{Data, boolean}
use Rattle.serde_json.specs.Written.{compact_text}
use Rattle.col_model.specs.ColumnType.{ColumnType, same_type}
use Rattle.col_model.specs.ColumnType as types
use Rattle.col_model.specs.Facets.{cell_order, counts_of_cells, facet_of}
use Rattle.col_model.specs.Lookup.{row_of}
use Rattle.col_model.specs.Sorted.{distinct_items}
use Rattle.col_model.specs.Table.{Cell, Content}
use Rattle.col_model.specs.Table as cells
use Rattle.col_model.proofs.ListLaws.{all-two}
use Rattle.col_model.proofs.RangeCodes.{all-distinct}
use Rattle.col_model.proofs.StatsLaws.{all_items}
use Rattle.col_types.specs.Cells.{unsigned_cell}
use Rattle.col_column.specs.Columns.{rows_by}
use Rattle.col_column.specs.IpValues.{ip_values_of}
use Rattle.col_dynamic.specs.Dynamic.{type_of, content_of}
use Rattle.col_dynamic.specs.declared.dynamic_column.DynamicColumn.{DynamicColumn}
use Rattle.col_dynamic.specs.declared.dynamic_column.DynamicColumn.TheVariants as columns
use Rattle.col_facet.specs.Facets.{facet_cell, counted_as}
use Rattle.col_program.specs.Report.{cell_data, list_data, count_data, counted_data}
use Rattle.col_report.specs.Counted.{shown_cell, shown_count}
use Rattle.col_report.specs.Printed.{Spells, more_text}
use Rattle.col_report.proofs.DocLemmas.{list-text}
use Rattle.col_report.proofs.RowLemmas.{more-value, more-none}

-- ---- cells

-- the cell of facets is shown as the cell that it stands for
abbrev IsShown : ColumnType → Cell → Type 0
IsShown t c = shown_cell t (facet_cell t c) ≡ cell_data t c

any-shown : (t : ColumnType) → same_type t types.ip ≡ false → (c : Cell) → IsShown t c
any-shown types.i64 e (cells.number z) = refl
any-shown types.u64 e (cells.number z) = refl
any-shown types.bytes e (cells.number z) = refl
any-shown types.str e (cells.number z) = refl
any-shown types.bool e (cells.number z) = refl
any-shown types.ip e (cells.number z) = absurd (false≢true (sym e))
any-shown types.datetime e (cells.number z) = refl
any-shown types.i64 e (cells.text s) = refl
any-shown types.u64 e (cells.text s) = refl
any-shown types.bytes e (cells.text s) = refl
any-shown types.str e (cells.text s) = refl
any-shown types.bool e (cells.text s) = refl
any-shown types.ip e (cells.text s) = refl
any-shown types.datetime e (cells.text s) = refl

-- ---- the cells of a column

all-rows : {A : Type 0} {P : A → Type 0} → ((x : A) → P x) → (rows : List (List A)) → AllByRecursion (AllByRecursion P) rows
all-rows f [] = tt
all-rows f (row ∷ rows) = (all_items f row, all-rows f rows)

mapped-items : {A B : Type 0} (P : B → Type 0) (g : A → B) → ((x : A) → P (g x)) → (xs : List A) → AllByRecursion P (map g xs)
mapped-items P g f [] = tt
mapped-items P g f (x ∷ xs) = (f x, mapped-items P g f xs)

mapped-rows : {A B : Type 0} (P : B → Type 0) (g : A → B) → ((x : A) → P (g x)) → (rows : List (List A))
    → AllByRecursion (AllByRecursion P) (map (map g) rows)
mapped-rows P g f [] = tt
mapped-rows P g f (row ∷ rows) = (mapped-items P g f row, mapped-rows P g f rows)

rows-shown : (c : DynamicColumn) → AllByRecursion (AllByRecursion (IsShown (type_of c))) (content_of c).rows
rows-shown (columns.Bool c) = all-rows (any-shown types.bool refl) (content_of (columns.Bool c)).rows
rows-shown (columns.I64 c) = all-rows (any-shown types.i64 refl) (content_of (columns.I64 c)).rows
rows-shown (columns.U64 c) = all-rows (any-shown types.u64 refl) (content_of (columns.U64 c)).rows
rows-shown (columns.IpAddr c) = mapped-rows (IsShown types.ip) unsigned_cell (λ n. refl) (rows_by c.shape (ip_values_of c.values))
rows-shown (columns.DateTime c) = all-rows (any-shown types.datetime refl) (content_of (columns.DateTime c)).rows
rows-shown (columns.Bytes c) = all-rows (any-shown types.bytes refl) (content_of (columns.Bytes c)).rows
rows-shown (columns.Str c) = all-rows (any-shown types.str refl) (content_of (columns.Str c)).rows

module _ (P : Cell → Type 0) where
  row-all : (rows : List (List Cell)) → AllByRecursion (AllByRecursion P) rows → (d : ℕ)
      → AllByRecursion P (unwrap_or (slice_get rows d) [])
  row-all [] all d = tt
  row-all (row ∷ rows) all zero = all.0
  row-all (row ∷ rows) all (suc d) = row-all rows all.1 d

  docs-all : (c : Content) → AllByRecursion (AllByRecursion P) c.rows → (docs : List ℕ)
      → AllByRecursion P (flat_map (row_of c) docs)
  docs-all c all [] = tt
  docs-all c all (d ∷ docs) = all-two P (row_of c d) (flat_map (row_of c) docs) (row-all c.rows all d) (docs-all c all docs)

  with-counts : (f : Cell → ℕ) (cs : List Cell) → AllByRecursion P cs
      → AllByRecursion (λ (p : Cell × ℕ). P p.0) (map (λ c. (c, f c)) cs)
  with-counts f [] all = tt
  with-counts f (c ∷ cs) all = (all.0, with-counts f cs all.1)

  counts-all : (cs : List Cell) → AllByRecursion P cs → AllByRecursion (λ (p : Cell × ℕ). P p.0) (counts_of_cells cs)
  unfolding counts_of_cells
  counts-all cs all = with-counts _ (distinct_items cell_order cs) (all-distinct P cell_order cs all)

shown-all : (t : ColumnType) (ps : List (Cell × ℕ)) → AllByRecursion (λ (p : Cell × ℕ). IsShown t p.0) ps
    → map (shown_count t) (counted_as t ps) ≡ map (counted_data t) ps
shown-all t [] all = refl
shown-all t (p ∷ ps) all = ap₂ (λ d ds. list_data (d ∷ count_data p.1 ∷ []) ∷ ds) all.0 (shown-all t ps all.1)

-- the counts of a column's cells are shown as the report has them
pub counts-shown : (c : DynamicColumn) (docs : List ℕ)
    → map (shown_count (type_of c)) (counted_as (type_of c) (facet_of (content_of c) docs))
    ≡ map (counted_data (type_of c)) (facet_of (content_of c) docs)
counts-shown c docs = shown-all (type_of c) (facet_of (content_of c) docs)
    (counts-all (IsShown (type_of c)) (flat_map (row_of (content_of c)) docs)
    (docs-all (IsShown (type_of c)) (content_of c) (rows-shown c) docs))

-- ---- their text

-- a flag that isn't set, and one that is
pub unset-spelled : (a b : List ℕ) (z : ℤ) → z ≡ pos 0 → b ≡ a ++ codes "false" → Spells a b (cell_data types.bool (cells.number z))
unfolding Spells
unset-spelled a b z is e = rw is e

pub set-spelled : (a b : List ℕ) (z : ℤ) → (z ≡ pos 0 → ⊥) → b ≡ a ++ codes "true" → Spells a b (cell_data types.bool (cells.number z))
unfolding Spells
set-spelled a b (pos n) is e = by (n == 0) (ne_eqb n 0 (λ z. is (ap pos z)))
  where
    by : (t : Bool) → t ≡ false → b ≡ a ++ compact_text (boolean (not t))
    by true f = absurd (false≢true (sym f))
    by false f = e
set-spelled a b (negsuc n) is e = e

-- a cell and its count
pub count-spelled : (a b c d e f : List ℕ) (cell : Data) (n : ℕ) → b ≡ a ++ 91 ∷ [] → Spells b c cell → d ≡ c ++ 44 ∷ []
    → e ≡ d ++ decimal n → f ≡ e ++ 93 ∷ [] → Spells a f (list_data (cell ∷ count_data n ∷ []))
unfolding Spells more_text
count-spelled a b c d e f cell n one two three four five =
    let chain : f ≡ a ++ 91 ∷ (compact_text cell ++ (44 ∷ (decimal n ++ []) ++ 93 ∷ [])) =
    rw (five, four, three, two, one) (simp (append_assoc, append-nil)) in
    chain ∙ ap (λ t. a ++ t) (sym (list-text cell (count_data n ∷ [])))

-- an array: the first item, then the others with a comma in front of each
pub items-spelled : (a b c d e : List ℕ) (x : Data) (xs all : List Data) → all ≡ x ∷ xs → b ≡ a ++ 91 ∷ []
    → Spells b c x → d ≡ c ++ more_text xs → e ≡ d ++ 93 ∷ [] → Spells a e (list_data all)
unfolding Spells
items-spelled a b c d e x xs all is one two three four =
    let chain : e ≡ a ++ 91 ∷ (compact_text x ++ (more_text xs ++ 93 ∷ [])) = rw (four, three, two, one) (simp append_assoc) in
    chain ∙ ap (λ t. a ++ t) (sym (list-text x xs) ∙ ap (λ ds. compact_text (list_data ds)) (sym is))

-- the same of the items of a list, by what each is shown as
pub listed-spelled : {X : Type 0} (f : X → Data) (a b c d e : List ℕ) (x : X) (others xs : List X) → xs ≡ x ∷ others
    → b ≡ a ++ 91 ∷ [] → Spells b c (f x) → d ≡ c ++ more_text (map f others) → e ≡ d ++ 93 ∷ []
    → Spells a e (list_data (map f xs))
listed-spelled f a b c d e x others xs is one two three four =
    items-spelled a b c d e (f x) (map f others) (map f xs) (ap (map f) is) one two three four

-- an empty list
pub none-listed : {X : Type 0} (f : X → Data) (a b : List ℕ) (xs : List X) → length xs < 1 → b ≡ a ++ codes "[]"
    → Spells a b (list_data (map f xs))
unfolding Spells
none-listed f a b [] none e = e
none-listed f a b (x ∷ xs) none e = absurd (omega arith)

-- a list that isn't empty is its first item and the others
pub first-listed : {X : Type 0} (xs : List X) (x : X) → 1 ≤ length xs → x ≡ get_or xs 0 x
    → xs ≡ x ∷ take (length xs - 1) (drop 1 xs)
first-listed [] x some is = absurd (omega arith)
first-listed (y ∷ ys) x some is =
    ap₂ (λ z zs. z ∷ zs) (sym is) (sym (take_all (suc (length ys) - 1) ys (omega arith)))

-- one item more
pub item-more : {X : Type 0} (f : X → Data) (a b c r : List ℕ) (xs : List X) (i : ℕ) (x : X) → i < length xs
    → x ≡ get_or xs i x → a ++ more_text (map f (drop i xs)) ≡ r → b ≡ a ++ 44 ∷ [] → Spells b c (f x)
    → c ++ more_text (map f (drop (i + 1) xs)) ≡ r
unfolding Spells
item-more f a b c r xs i x within is left comma spelled =
    let step : drop i xs ≡ x ∷ drop (i + 1) xs = drop_more xs i x within ∙ ap (λ y. y ∷ drop (i + 1) xs) (sym is) in
    let now = ap (λ ys. a ++ more_text (map f ys)) (sym step) ∙ left in
    more-value a b c r (f x) (map f (drop (i + 1) xs)) now comma spelled

-- where none is left, all were spelled
pub items-end : {X : Type 0} (f : X → Data) (a r : List ℕ) (xs : List X) (i : ℕ) → length xs ≤ i
    → a ++ more_text (map f (drop i xs)) ≡ r → a ≡ r
items-end f a r xs i past left = more-none a r (map f (drop i xs)) left (ap (map f) (drop_all i xs past))
