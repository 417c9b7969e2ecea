-- What is written of an entry, by the document of each row.
use Rattle.std.proofs.Common.{◌≡◌, ℕ, List, [], ◌∷◌, length, map, Bool, true, false, Option, Some, None, Result, Ok, refl, sym, ap, ◌∙◌, subst}
use Rattle.std.specs.Prelude.{ℤ, pos, ◌+ℤ◌}
use Rattle.std.specs.List.{range_with_len, zip}
use Rattle.std.proofs.lemmas.List.FromFn.{length-map-range_with_len}
use Rattle.col_common.specs.Outside.{SeenSink}
use Rattle.col_common.specs.declared.error.ColumnarError.{ColumnarError}
use Rattle.col_model.specs.Category.{Category}
use Rattle.col_model.specs.ColumnType.{ColumnType}
use Rattle.col_model.specs.Limits.{tightest, is_too_large}
use Rattle.col_model.specs.Refusal.{◌>>=◌, refuse_if, or_refuse, numerical_conflict, tie_breaker_start, too_large}
use Rattle.col_model.specs.Table.{Cell, number, Content}
use Rattle.col_model.specs.Written.{Record, Entry, texts_of, entry_type, entry_content, is_past_ties, doc_at}
use Rattle.col_writer_rows.specs.Counted.{SerializesColumn}
use Rattle.col_writer_rows.specs.RowOrders.{docs_placed}
use Rattle.col_writer_rows.specs.Rows.{cell_rows}
use Rattle.col_writer_rows.proofs.EntryLemmas.{entry-content}
use Rattle.col_writer_file.specs.OnRows.{cells_by_doc, content_on, type_on}

-- ---- a column that refuses nothing

-- the column has this type, its tie start fits, and its content is within the limits
pub record Stands (c : Category) (e : Entry) (ds : List ℕ) (kind : ColumnType) : Type 0 where
  pub typed : entry_type c e ≡ Some kind
  pub tied : is_past_ties (length ds) e.tie_start ≡ false
  pub small : is_too_large kind (content_on e ds) ≡ false

-- a column with a type has this type, a tie start that fits, and a content within the limits
pub stands : (c : Category) (e : Entry) (ds : List ℕ) (kind : ColumnType) → type_on c e ds ≡ Ok kind → Stands c e ds kind
stands c e ds kind h = by (entry_type c e) refl h
  where
    more : (t : ColumnType) → entry_type c e ≡ Some t → (a b : Bool) → is_past_ties (length ds) e.tie_start ≡ a
        → is_too_large t (content_on e ds) ≡ b
        → (refuse_if a tie_breaker_start >>= λ _. refuse_if b too_large >>= λ _. Ok t) ≡ Ok kind
        → Stands c e ds kind
    more t p true b q r h = absurd (cc)
    more t p false true q r h = absurd (cc)
    more t p false false q r h =
        let same : t ≡ kind = cc in
        record { typed = p ∙ ap Some same; tied = q; small = ap (λ u. is_too_large u (content_on e ds)) (sym same) ∙ r }

    by : (o : Option ColumnType) → entry_type c e ≡ o
        → (or_refuse o numerical_conflict >>= λ t. refuse_if (is_past_ties (length ds) e.tie_start)
        tie_breaker_start >>= λ _. refuse_if (is_too_large t (content_on e ds)) too_large >>= λ _. Ok t) ≡ Ok kind
        → Stands c e ds kind
    by None p h = absurd (cc)
    by (Some t) p h = more t p (is_past_ties (length ds) e.tie_start) (is_too_large t (content_on e ds)) refl refl h

-- ---- what stands in a column

-- a permutation places n documents at n rows
pub length-placed : (n : ℕ) (perm : Option (List ℕ)) → length (docs_placed n perm) ≡ n
length-placed n perm = length-map-range_with_len (doc_at perm) 0 n

-- the content of an entry by its rows' documents
pub content-placed : (e : Entry) (n : ℕ) (perm : Option (List ℕ)) → entry_content e n perm ≡ content_on e (docs_placed n perm)
content-placed e n perm = by e.records e.forced e.sorts e.tie_start
  where
    by : (records : List Record) (forced : Option ColumnType) (sorts : Bool) (start : Option ℤ)
        → entry_content (record { records = records; forced = forced; sorts = sorts; tie_start = start }) n perm
        ≡ content_on (record { records = records; forced = forced; sorts = sorts; tie_start = start })
        (docs_placed n perm)
    by records forced sorts None = entry-content records forced sorts n perm
    by records forced sorts (Some start) =
        ap (λ k. let rows = map (λ r. number (start +ℤ pos r) ∷ []) (range_with_len 0 k) in record
        { cardinality = tightest rows; terms = texts_of (map (λ r. r.cell) records); rows = rows })
        (sym (length-placed n perm))

-- records are their cells beside their documents
pub by-doc : (records : List Record) → cells_by_doc records ≡ zip (map (λ r. r.doc) records) (map (λ r. r.cell) records)
by-doc [] = refl
by-doc (r ∷ records) = ap (λ rest. (r.doc, r.cell) ∷ rest) (by-doc records)

-- the content of an entry without a tie start, whose rows aren't sorted
pub plain-content : (e : Entry) (ds docs : List ℕ) (cells : List Cell) → e.tie_start ≡ None → e.sorts ≡ false
    → map (λ r. r.doc) e.records ≡ docs → map (λ r. r.cell) e.records ≡ cells
    → content_on e ds ≡ (let rows = cell_rows false ds (zip docs cells) in record
    { cardinality = tightest rows; terms = texts_of cells; rows = rows })
plain-content e ds docs cells untied unsorted same_docs same_cells =
    ap (λ o. content_on (record { records = e.records; forced = e.forced; sorts = e.sorts; tie_start = o }) ds) untied
    ∙ (λ i. let rows = cell_rows (unsorted i) ds ((by-doc e.records ∙ (λ j. zip (same_docs j) (same_cells j))) i) in
    record { cardinality = tightest rows; terms = texts_of (same_cells i); rows = rows })

-- a column by its content
pub column-as :
    (old new : SeenSink) (result : Result (Unit {0}) ColumnarError) (t : ColumnType) (n m : ℕ) (a b : Content)
    → n ≡ m → a ≡ b → SerializesColumn old new result t n a → SerializesColumn old new result t m b
column-as old new result t n m a b e f h =
    subst (λ k. SerializesColumn old new result t k b) e (subst (SerializesColumn old new result t n) f h)
