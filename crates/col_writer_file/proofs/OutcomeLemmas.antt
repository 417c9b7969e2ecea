-- What writing a table answers.
use Rattle.std.proofs.Common.{◌≡◌, ◌⊎◌, ℕ, List, [], ◌∷◌, length, map, Bool, true, false, not, cond, Option, Result, Ok, Err, refl, sym, ap, ◌∙◌, subst, T, arith, inl, inr}
use Rattle.std.specs.Prelude.{nat_lt, nat_le, ◌&&◌, ◌||◌}
use Rattle.std.specs.FinMap.Entries.{is_sorted, is_sorted-where_key}
use Rattle.std.specs.List.{list_all, list_any}
use Rattle.std.proofs.lemmas.Bool.{and_from}
use Rattle.col_common.specs.Outside.{SeenSink}
use Rattle.col_common.specs.Serializing.{Serializes}
use Rattle.col_common.specs.declared.error.ColumnarError.{ColumnarError}
use Rattle.col_common.specs.declared.error.ColumnarError.TheVariants as answers
use Rattle.col_common.proofs.SerializingLemmas.{serializes-no_memory}
use Rattle.col_common.specs.Ascending.{are_below}
use Rattle.col_model.specs.Category.{Slot, slot_cmp}
use Rattle.col_model.specs.ColumnType.{ColumnType}
use Rattle.col_model.specs.Refusal.{Refusal, ◌>>=◌, each_ok, doc_out_of_range, bad_order}
use Rattle.col_model.specs.Table.{Table}
use Rattle.col_model.specs.Written.{Record, Entry, Recorded, has_zero, is_past_docs, is_permutation, written}
use Rattle.col_model.proofs.RefusalLaws.{same_Ok}
use Rattle.col_writer_rows.specs.RowOrders.{docs_placed}
use Rattle.col_writer_columns.specs.Answers.{Refuses, answer_of}
use Rattle.col_writer_file.specs.OnRows.{recorded_docs}
use Rattle.col_writer_file.specs.Tables.{named_entry, slot_type_of, made, WritesFile, WritesTable}
use Rattle.col_writer_file.specs.declared.named_entry.NamedEntry.{NamedEntry}
use Rattle.col_writer_file.proofs.OnRowLemmas.{length-placed}
use Rattle.col_writer_file.proofs.WrittenLemmas.{named, written-past, written-misplaced, written-placed}

-- ---- refusals

same-refusal : (r s : Refusal) → ◌≡◌ {A = Result Table Refusal} (Err r) (Err s) → r ≡ s
same-refusal r s e = cc

refused-not_ok : (r : Refusal) (t : Table) → ◌≡◌ {A = Result Table Refusal} (Err r) (Ok t) → ⊥
refused-not_ok r t e = cc

pub table-refused : (a : SeenSink) (expected : Result Table Refusal) (r : Refusal) (e : ColumnarError)
    → expected ≡ Err r → e ≡ answer_of r → WritesTable a a (Err e) expected
table-refused a expected r e is as_answer = record {
  table = λ t p. absurd (refused-not_ok r t (sym is ∙ p));
  refusal = λ s p. record { same = refl; refused = inl (ap Err (as_answer ∙ ap answer_of (same-refusal r s (sym is ∙ p)))) };
}

-- want of memory may be answered of any table, with nothing written
pub table-no_memory : (a : SeenSink) (expected : Result Table Refusal) (e : ColumnarError) → e ≡ answers.OutOfMemory
    → WritesTable a a (Err e) expected
table-no_memory a expected e is = record {
  table = λ t p. record { file = []; stands = tt; written = subst (λ x. Serializes a a (Err x) []) (sym is) (serializes-no_memory a []) };
  refusal = λ r p. record { same = refl; refused = inr (ap Err is) };
}

-- records past the documents are refused first, with nothing written
pub past-refused : (a : SeenSink) (w : Recorded) (n : ℕ) (perm : Option (List ℕ))
    → list_any (is_past_docs n) w ≡ true → WritesTable a a (Err answers.DocOutOfRange) (written w n perm)
past-refused a w n perm e = table-refused a (written w n perm) doc_out_of_range answers.DocOutOfRange (written-past w n perm e) refl

-- what is no permutation is refused next, with nothing written, as is want of memory
pub order-refused : (a : SeenSink) (w : Recorded) (n : ℕ) (perm : Option (List ℕ)) (e : ColumnarError)
    → list_any (is_past_docs n) w ≡ false → (e ≡ answers.BadOrder) ⊎ (e ≡ answers.OutOfMemory)
    → (e ≡ answers.BadOrder → is_permutation n perm ≡ false) → WritesTable a a (Err e) (written w n perm)
order-refused a w n perm e free (inl p) misplaced =
    table-refused a (written w n perm) bad_order e (written-misplaced w n perm free (misplaced p)) p
order-refused a w n perm e free (inr p) misplaced = table-no_memory a (written w n perm) e p

-- a test of some column
pub any-named_entry : (test : Slot × Entry → Bool) (xs : List NamedEntry)
    → list_any (λ c. test (named_entry c)) xs ≡ list_any test (map named_entry xs)
any-named_entry test [] = refl
any-named_entry test (x ∷ xs) = ap (λ b. test (named_entry x) || b) (any-named_entry test xs)

-- ---- once documents have their rows

-- the documents of the rows, which are those of a permutation
pub record ArePlaced (w : Recorded) (n : ℕ) (perm : Option (List ℕ)) (ds : List ℕ) : Type 0 where
  pub free : list_any (is_past_docs n) w ≡ false
  pub permuted : is_permutation n perm ≡ true
  pub placed : ds ≡ docs_placed n perm

-- documents below the count that an order has placed
pub placed-here : (xs : List NamedEntry) (n : ℕ) (perm : Option (List ℕ)) (ds : List ℕ) (past : Bool)
    → past ≡ list_any (λ c. is_past_docs n (named_entry c)) xs → past ≡ false
    → (ds ≡ docs_placed n perm) × (is_permutation n perm ≡ true) → ArePlaced (map named_entry xs) n perm ds
placed-here xs n perm ds past told free order =
    record
    { free = sym (any-named_entry (is_past_docs n) xs) ∙ sym told ∙ free; permuted = order.1; placed = order.0 }

-- there are as many rows as documents
rows-placed : (w : Recorded) (n : ℕ) (perm : Option (List ℕ)) (ds : List ℕ) → ArePlaced w n perm ds → length ds ≡ n
rows-placed w n perm ds h = ap length h.placed ∙ length-placed n perm

-- the table by the documents of its rows
written-on : (w : Recorded) (n : ℕ) (perm : Option (List ℕ)) (ds : List ℕ) → ArePlaced w n perm ds
    → written w n perm
    ≡ (each_ok (slot_type_of ds) (named w) >>= λ ts. Ok (record { row_count = n; columns = made ds (named w) ts }))
written-on w n perm ds h =
    written-placed w n perm h.free h.permuted
    ∙ ap (λ rows. each_ok (slot_type_of rows) (named w) >>=
    λ ts. Ok (record { row_count = n; columns = made rows (named w) ts })) (sym h.placed)

-- the first refusal of the columns' types, or want of memory, is the table's, with nothing written
pub columns-refused :
    (a : SeenSink) (w es : Recorded) (n : ℕ) (perm : Option (List ℕ)) (ds : List ℕ) (e : ColumnarError)
    → ArePlaced w n perm ds → es ≡ named w → (e ≡ answers.OutOfMemory) ⊎ Refuses (each_ok (slot_type_of ds) es) e
    → WritesTable a a (Err e) (written w n perm)
columns-refused a w es n perm ds e h same (inl p) = table-no_memory a (written w n perm) e p
columns-refused a w es n perm ds e h same (inr (r, at, as_answer)) =
    table-refused a (written w n perm) r e
    (written-on w n perm ds h
    ∙ ap (λ o. o >>= λ ts. Ok (record { row_count = n; columns = made ds (named w) ts }))
    (ap (each_ok (slot_type_of ds)) (sym same) ∙ at)) as_answer

-- a file of columns with their types is the table's
pub columns-written : (a b : SeenSink) (result : Result (Unit {0}) ColumnarError) (w es : Recorded) (n : ℕ)
    (perm : Option (List ℕ)) (ds : List ℕ) (ts : List ColumnType) → ArePlaced w n perm ds → es ≡ named w
    → each_ok (slot_type_of ds) es ≡ Ok ts
    → WritesFile a b result (record { row_count = length ds; columns = made ds es ts })
    → WritesTable a b result (written w n perm)
columns-written a b result w es n perm ds ts h same typed file =
    let is : written w n perm ≡ Ok (record { row_count = length ds; columns = made ds es ts }) =
    written-on w n perm ds h ∙ ap (λ o. o >>= λ us. Ok (record { row_count = n; columns = made ds (named w) us }))
    (ap (each_ok (slot_type_of ds)) (sym same) ∙ typed)
    ∙ (λ i. Ok (record { row_count = sym (rows-placed w n perm ds h) i; columns = made ds (sym same i) ts })) in
    record {
      table = λ t p. subst (WritesFile a b result) (same_Ok _ t (sym is ∙ p)) file;
      refusal = λ r p. absurd (refused-not_ok r _ (sym p ∙ is));
    }

-- ---- documents below the count

docs-below : (n : ℕ) (records : List Record) → list_any (λ r. nat_le n r.doc) records ≡ false
    → are_below n (map (λ r. r.doc) records) ≡ true
docs-below n [] e = refl
docs-below n (r ∷ records) e = by (nat_le n r.doc) refl e (docs-below n records)
  where
    by : (b : Bool) → nat_le n r.doc ≡ b → (b || list_any (λ r. nat_le n r.doc) records) ≡ false
        → (list_any (λ r. nat_le n r.doc) records ≡ false → are_below n (map (λ r. r.doc) records) ≡ true)
        → (nat_lt r.doc n && are_below n (map (λ r. r.doc) records)) ≡ true
    by true p e later = absurd (cc)
    by false p e later = let low : nat_lt r.doc n ≡ true = grind arith in and_from _ _ low (later e)

all-below : (n : ℕ) (w : Recorded) → list_any (is_past_docs n) w ≡ false → list_all (λ p. are_below n (recorded_docs p.1)) (named w) ≡ true
all-below n [] e = refl
all-below n ((slot, entry) ∷ w) e = by (is_past_docs n (slot, entry)) refl e (all-below n w)
  where
    kept : (b : Bool) → are_below n (recorded_docs entry) ≡ true
        → list_all (λ p. are_below n (recorded_docs p.1)) (named w) ≡ true
        → list_all (λ p. are_below n (recorded_docs p.1)) (cond b ((slot, entry) ∷ named w) (named w)) ≡ true
    kept true here later = and_from _ _ here later
    kept false here later = later

    by : (b : Bool) → is_past_docs n (slot, entry) ≡ b → (b || list_any (is_past_docs n) w) ≡ false
        → (list_any (is_past_docs n) w ≡ false → list_all (λ p. are_below n (recorded_docs p.1)) (named w) ≡ true)
        → list_all (λ p. are_below n (recorded_docs p.1)) (named ((slot, entry) ∷ w)) ≡ true
    by true p e later = absurd (cc)
    by false p e later = kept (not (has_zero slot.name)) (docs-below n entry.records p) (later e)

-- a test of the entries of named columns is that of the named columns
pub all-named_entry : (test : Slot × Entry → Bool) (xs : List NamedEntry)
    → list_all (λ c. test (named_entry c)) xs ≡ list_all test (map named_entry xs)
all-named_entry test [] = refl
all-named_entry test (x ∷ xs) = ap (λ b. test (named_entry x) && b) (all-named_entry test xs)

-- the documents of all columns are below the number of rows, where none was past it
pub columns-below : (w : Recorded) (n : ℕ) (perm : Option (List ℕ)) (ds : List ℕ) (xs : List NamedEntry)
    → ArePlaced w n perm ds → map named_entry xs ≡ named w
    → list_all (λ c. are_below (length ds) (recorded_docs (named_entry c).1)) xs ≡ true
columns-below w n perm ds xs h same =
    all-named_entry (λ p. are_below (length ds) (recorded_docs p.1)) xs
    ∙ (λ i. list_all (λ p. are_below (rows-placed w n perm ds h i) (recorded_docs p.1)) (same i))
    ∙ all-below n w h.free

all-kept : (w : Recorded) → list_all (λ p. not (has_zero p.0.name)) (named w) ≡ true
all-kept [] = refl
all-kept (p ∷ w) = by (not (has_zero p.0.name)) refl (all-kept w)
  where
    by : (b : Bool) → not (has_zero p.0.name) ≡ b → list_all (λ q. not (has_zero q.0.name)) (named w) ≡ true
        → list_all (λ q. not (has_zero q.0.name)) (cond b (p ∷ named w) (named w)) ≡ true
    by true e later = and_from _ _ e later
    by false e later = later

-- no column has a name with a zero byte
pub columns-named : (w : Recorded) (xs : List NamedEntry) → map named_entry xs ≡ named w
    → list_all (λ c. not (has_zero (named_entry c).0.name)) xs ≡ true
columns-named w xs same = all-named_entry (λ p. not (has_zero p.0.name)) xs ∙ ap (list_all (λ p. not (has_zero p.0.name))) same ∙ all-kept w

is-true : (b : Bool) → T b → b ≡ true
is-true true t = refl
is-true false t = absurd t

-- the named columns of a sorted content are sorted by their slots
pub columns-sorted : (w : Recorded) (xs : List NamedEntry) → map named_entry xs ≡ named w
    → is_sorted slot_cmp w ≡ true → is_sorted slot_cmp (map named_entry xs) ≡ true
columns-sorted w xs same sorted =
    ap (is_sorted slot_cmp) same ∙ is-true _ (is_sorted-where_key slot_cmp (λ q. not (has_zero q.name)) w (subst T (sym sorted) tt))

past-in : (n : ℕ) (records : List Record) → list_any (λ d. nat_le n d) (map (λ r. r.doc) records) ≡ list_any (λ r. nat_le n r.doc) records
past-in n [] = refl
past-in n (r ∷ records) = ap (λ b. nat_le n r.doc || b) (past-in n records)

-- a document past n among a column's is one among its entry's
pub past-told : (n : ℕ) (docs : List ℕ) (c : NamedEntry) (b : Bool) → b ≡ list_any (λ d. nat_le n d) docs
    → docs ≡ recorded_docs (named_entry c).1 → b ≡ is_past_docs n (named_entry c)
past-told n docs c b e same = e ∙ ap (list_any (λ d. nat_le n d)) same ∙ past-in n (named_entry c).1.records
