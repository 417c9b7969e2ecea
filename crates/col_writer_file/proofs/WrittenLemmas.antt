-- A written table, by the documents of its rows.
use Rattle.std.proofs.Common.{◌≡◌, ℕ, List, [], ◌∷◌, length, filter, Bool, true, false, not, Option, Some, None, Result, Ok, Err, refl, sym, ap, ◌∙◌}
use Rattle.std.specs.List.{list_any}
use Rattle.col_model.specs.Category.{Slot}
use Rattle.col_model.specs.ColumnType.{ColumnType}
use Rattle.col_model.specs.Limits.{is_too_large}
use Rattle.col_model.specs.Refusal.{Refusal, ◌>>=◌, refuse_if, or_refuse, each_ok, doc_out_of_range, bad_order, numerical_conflict, tie_breaker_start, too_large}
use Rattle.col_model.specs.Table.{Content, Column, Table}
use Rattle.col_model.specs.Written.{Entry, Recorded, entry_type, is_past_ties, written_column, is_permutation, has_zero, is_past_docs, written}
use Rattle.col_writer_rows.specs.RowOrders.{docs_placed}
use Rattle.col_writer_file.specs.EntryColumns.{column_on}
use Rattle.col_writer_file.specs.OnRows.{content_on, type_on}
use Rattle.col_writer_file.specs.Tables.{slot_type_of, made}
use Rattle.col_writer_file.proofs.OnRowLemmas.{content-placed, length-placed}

-- ---- a column

abbrev column_as : List ℕ → Content → ColumnType → Column
column_as name content t = record { name = name; column_type = t; content = content }

abbrev table_as : ℕ → List Column → Table
table_as n columns = record { row_count = n; columns = columns }

steps : (o : Option ColumnType) (past : Bool) (large : ColumnType → Bool) (name : List ℕ) (content : Content) →
    (or_refuse o numerical_conflict >>= λ t. refuse_if past tie_breaker_start >>=
    λ _. refuse_if (large t) too_large >>= λ _. Ok (column_as name content t))
    ≡
    ((or_refuse o numerical_conflict >>=
    λ t. refuse_if past tie_breaker_start >>= λ _. refuse_if (large t) too_large >>= λ _. Ok t) >>=
    λ t. Ok (column_as name content t))
steps None past large name content = refl
steps (Some t) true large name content = refl
steps (Some t) false large name content = last (large t)
  where
    last : (b : Bool) → (refuse_if b too_large >>= λ _. Ok (column_as name content t))
        ≡ ((refuse_if b too_large >>= λ _. Ok t) >>= λ t. Ok (column_as name content t))
    last true = refl
    last false = refl

pub column-placed : (n : ℕ) (perm : Option (List ℕ)) (p : Slot × Entry) → written_column n perm p ≡ column_on (docs_placed n perm) p
column-placed n perm (slot, e) =
    (λ i. or_refuse (entry_type slot.category e) numerical_conflict >>= λ t. refuse_if
    (is_past_ties (sym (length-placed n perm) i) e.tie_start) tie_breaker_start >>= λ _. refuse_if
    (is_too_large t (content-placed e n perm i)) too_large >>=
    λ _. Ok (record { name = slot.name; column_type = t; content = content-placed e n perm i }))
    ∙ steps (entry_type slot.category e) (is_past_ties (length (docs_placed n perm)) e.tie_start)
    (λ t. is_too_large t (content_on e (docs_placed n perm))) slot.name (content_on e (docs_placed n perm))

columns-placed : (n : ℕ) (perm : Option (List ℕ)) (es : Recorded)
    → each_ok (written_column n perm) es ≡ each_ok (column_on (docs_placed n perm)) es
columns-placed n perm [] = refl
columns-placed n perm (p ∷ es) = λ i. column-placed n perm p i >>= λ c. columns-placed n perm es i >>= λ cs. Ok (c ∷ cs)

-- ---- columns by their types

columns-by-type : (ds : List ℕ) (es : Recorded) → each_ok (column_on ds) es ≡ (each_ok (slot_type_of ds) es >>= λ ts. Ok (made ds es ts))
unfolding made
columns-by-type ds [] = refl
columns-by-type ds ((slot, e) ∷ es) =
    ap (λ r. column_on ds (slot, e) >>= λ c. r >>= λ cs. Ok (c ∷ cs)) (columns-by-type ds es)
    ∙ by (type_on slot.category e ds) (each_ok (slot_type_of ds) es)
  where
    by : (a : Result ColumnType Refusal) (b : Result (List ColumnType) Refusal) →
        ((a >>= λ t. Ok (record { name = slot.name; column_type = t; content = content_on e ds })) >>=
        λ c. (b >>= λ ts. Ok (made ds es ts)) >>= λ cs. Ok (c ∷ cs))
        ≡ ((a >>= λ t. b >>= λ ts. Ok (t ∷ ts)) >>= λ ts. Ok (made ds ((slot, e) ∷ es) ts))
    by (Err r) b = refl
    by (Ok t) (Err r) = refl
    by (Ok t) (Ok ts) = refl

-- ---- a table

-- the entries whose names have no zero byte
abbrev pub named : Recorded → Recorded
named w = filter (λ p. not (has_zero p.0.name)) w

-- records past the documents are refused as out of range
pub written-past : (w : Recorded) (n : ℕ) (perm : Option (List ℕ)) → list_any (is_past_docs n) w ≡ true
    → written w n perm ≡ Err doc_out_of_range
unfolding written
written-past w n perm e =
    ap (λ b. refuse_if b doc_out_of_range >>= λ _. refuse_if (not (is_permutation n perm)) bad_order >>=
    λ _. each_ok (written_column n perm) (named w) >>= λ columns. Ok (record { row_count = n; columns = columns }))
    e

-- what is no permutation is refused as a bad order, where no record is past the documents
pub written-misplaced : (w : Recorded) (n : ℕ) (perm : Option (List ℕ)) → list_any (is_past_docs n) w ≡ false
    → is_permutation n perm ≡ false → written w n perm ≡ Err bad_order
unfolding written
written-misplaced w n perm e f =
    λ i. refuse_if (e i) doc_out_of_range >>= λ _. refuse_if (not (f i)) bad_order >>=
    λ _. each_ok (written_column n perm) (named w) >>= λ columns. Ok (record { row_count = n; columns = columns })

-- records within the documents are written column by column, at the places of a permutation
pub written-placed : (w : Recorded) (n : ℕ) (perm : Option (List ℕ)) → list_any (is_past_docs n) w ≡ false
    → is_permutation n perm ≡ true
    → written w n perm ≡ (each_ok (slot_type_of (docs_placed n perm)) (named w) >>=
    λ ts. Ok (record { row_count = n; columns = made (docs_placed n perm) (named w) ts }))
unfolding written
written-placed w n perm e f =
    (λ i. refuse_if (e i) doc_out_of_range >>= λ _. refuse_if (not (f i)) bad_order >>= λ _. (
    columns-placed n perm (named w) ∙ columns-by-type (docs_placed n perm) (named w)) i >>=
    λ columns. Ok (record { row_count = n; columns = columns }))
    ∙ by (each_ok (slot_type_of (docs_placed n perm)) (named w))
  where
    by : (r : Result (List ColumnType) Refusal)
        → ((r >>= λ ts. Ok (made (docs_placed n perm) (named w) ts)) >>= λ columns. Ok (table_as n columns))
        ≡ (r >>= λ ts. Ok (table_as n (made (docs_placed n perm) (named w) ts)))
    by (Ok ts) = refl
    by (Err r) = refl
