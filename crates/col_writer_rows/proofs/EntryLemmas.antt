-- What stands in the column of an entry, by the cells of its records.
use Rattle.std.proofs.Common.{◌≡◌, ℕ, zero, suc, ◌+◌, List, [], ◌∷◌, length, map, filter, Bool, true, false, cond, Option, Some, None, refl, ap, ◌∙◌}
use Rattle.std.specs.Prelude.{ℤ, pos, ◌+ℤ◌, ◌==◌, nat_le, filter_map}
use Rattle.std.specs.List.{list_all, range_with_len, cons_option}
use Rattle.std.specs.Ordering.{nat_cmp}
use Rattle.std.specs.Cmp.Lexicographic.{slice_cmp}
use Rattle.col_model.specs.Column.{number_cell}
use Rattle.col_model.specs.ColumnType.{ColumnType}
use Rattle.col_model.specs.ColumnType as types
use Rattle.col_model.specs.Limits.{tightest}
use Rattle.col_model.specs.Sorted.{distinct_items}
use Rattle.col_model.specs.Table.{Cell, number, full, optional, multivalued}
use Rattle.col_model.specs.Written.{Record, Entry, cells_of, row_cells, doc_at, text_of, texts_of, entry_content}
use Rattle.col_writer_rows.specs.RowOrders.{docs_placed}
use Rattle.col_writer_rows.specs.Rows.{values_at, picked_rows, cells_in_order, cell_rows, rows_content, tie_content}

-- records as cells beside their documents
abbrev pub record_cells : List Record → List (ℕ × Cell)
record_cells rs = map (λ r. (r.doc, r.cell)) rs

cells-at : (rs : List Record) (d : ℕ) → cells_of rs d ≡ values_at (record_cells rs) d
cells-at [] d = refl
cells-at (r ∷ rs) d =
    elim (r.doc == d) as (λ b. map (λ x. x.cell) (cond b (r ∷ filter (λ x. x.doc == d) rs)
    (filter (λ x. x.doc == d) rs)) ≡ map (λ p. p.1) (cond b ((r.doc, r.cell) ∷ filter (λ p. p.0 == d)
    (record_cells rs)) (filter (λ p. p.0 == d) (record_cells rs)))) [
      | true ↦ ap (λ x. r.cell ∷ x) (cells-at rs d)
      | false ↦ cells-at rs d
    ]

-- an entry without a tie start
abbrev pub plain_entry : List Record → Option ColumnType → Bool → Entry
plain_entry records forced sorts = record { records = records; forced = forced; sorts = sorts; tie_start = None }

-- and with one
abbrev pub tied_entry : List Record → Option ColumnType → Bool → ℤ → Entry
tied_entry records forced sorts start = record { records = records; forced = forced; sorts = sorts; tie_start = Some start }

rows-from : (records : List Record) (forced : Option ColumnType) (sorts : Bool) (perm : Option (List ℕ)) (a m : ℕ)
    → map (λ r. row_cells (plain_entry records forced sorts) (doc_at perm r)) (range_with_len a m)
    ≡ map (cells_in_order sorts) (map (values_at (record_cells records)) (map (doc_at perm) (range_with_len a m)))
rows-from records forced sorts perm a zero = refl
rows-from records forced sorts perm a (suc m) =
    λ i. cells_in_order sorts (cells-at records (doc_at perm a) i) ∷ rows-from records forced sorts perm (a + 1) m i

-- the column of an entry without a tie start has rows of its records' cells, placed by the
-- permutation
pub entry-content :
    (records : List Record) (forced : Option ColumnType) (sorts : Bool) (n : ℕ) (perm : Option (List ℕ))
    → entry_content (plain_entry records forced sorts) n perm
    ≡ rows_content sorts (docs_placed n perm) (texts_of (map (λ r. r.cell) records)) (record_cells records)
unfolding cell_rows picked_rows
entry-content records forced sorts n perm =
    let rows = rows-from records forced sorts perm 0 n in
    λ i. record { cardinality = tightest (rows i); terms = texts_of (map (λ r. r.cell) records); rows = rows i }

-- ---- numbers are no texts

no-text : (t : ColumnType) (x : ℕ) → text_of (number_cell t x) ≡ None
no-text types.i64 x = refl
no-text types.u64 x = refl
no-text types.bytes x = refl
no-text types.str x = refl
no-text types.bool x = refl
no-text types.ip x = refl
no-text types.datetime x = refl

no-texts : (t : ColumnType) (xs : List ℕ) → filter_map text_of (map (number_cell t) xs) ≡ []
no-texts t [] = refl
no-texts t (x ∷ xs) = ap (λ o. cons_option o (filter_map text_of (map (number_cell t) xs))) (no-text t x) ∙ no-texts t xs

-- numbers have no terms
pub texts-none : (t : ColumnType) (xs : List ℕ) → texts_of (map (number_cell t) xs) ≡ []
unfolding distinct_items
texts-none t xs = ap (distinct_items (slice_cmp nat_cmp)) (no-texts t xs)

-- ---- ties

ones-full : (start : ℤ) (a m : ℕ) → list_all (λ row. length row == 1) (map (λ r. number (start +ℤ pos r) ∷ []) (range_with_len a m)) ≡ true
ones-full start a zero = refl
ones-full start a (suc m) = ones-full start (a + 1) m

-- the column of an entry with a tie start and no texts has numbers that rise by 1 from it
pub tied-content :
    (records : List Record) (forced : Option ColumnType) (sorts : Bool) (start : ℤ) (n : ℕ) (perm : Option (List ℕ))
    → texts_of (map (λ r. r.cell) records) ≡ []
    → entry_content (tied_entry records forced sorts start) n perm ≡ tie_content start n
tied-content records forced sorts start n perm none =
    let rows = map (λ r. number (start +ℤ pos r) ∷ []) (range_with_len 0 n) in
    let tight : tightest rows ≡ full = ap
    (λ b. cond b full (cond (list_all (λ row. nat_le (length row) 1) rows) optional multivalued))
    (ones-full start 0 n) in
    λ i. record { cardinality = tight i; terms = none i; rows = rows }
