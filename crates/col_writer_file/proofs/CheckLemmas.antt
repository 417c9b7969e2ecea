-- Tests of columns, before their first byte.
use Rattle.std.proofs.Common.{◌≡◌, ◌<◌, ◌^◌, ◌+◌, ℕ, zero, suc, List, [], ◌∷◌, length, map, Bool, true, false, Option, Some, None, Result, Ok, Err, refl, sym, ap, ◌∙◌, subst, arith, inr}
use Rattle.std.specs.Prelude.{ℤ, pos, ◌+ℤ◌, nat_le, ◌||◌}
use Rattle.std.specs.List.{range_with_len}
use Rattle.std.specs.Ordering.{nat_cmp}
use Rattle.std.specs.Cmp.Lexicographic.{slice_cmp}
use Rattle.std.proofs.lemmas.List.Sums.{sum_by-cons}
use Rattle.std.proofs.lemmas.List.{length-map}
use Rattle.col_common.specs.declared.error.ColumnarError.{ColumnarError}
use Rattle.col_common.specs.declared.error.ColumnarError.TheVariants as answers
use Rattle.col_model.specs.Category.{Category}
use Rattle.col_model.specs.Column.{number_cell}
use Rattle.col_model.specs.ColumnType.{ColumnType}
use Rattle.col_model.specs.ColumnType as types
use Rattle.col_model.specs.Limits.{cell_count, dictionary_length, has_many_codes, is_too_large}
use Rattle.col_model.specs.Refusal.{Refusal, ◌>>=◌, refuse_if, or_refuse, numerical_conflict, tie_breaker_start, too_large}
use Rattle.col_model.specs.Sorted.{distinct_items}
use Rattle.col_model.specs.Table.{Cell, number, text}
use Rattle.col_model.specs.Written.{Record, Entry, texts_of, entry_type, is_past_ties}
use Rattle.col_writer_rows.specs.RowOrders.{AreRowDocs}
use Rattle.col_writer_rows.specs.Rows.{cell_rows}
use Rattle.col_writer_rows.proofs.LimitLemmas.{few-too_large, few-cells}
use Rattle.col_writer_rows.proofs.EntryLemmas.{texts-none}
use Rattle.col_writer_columns.specs.Answers.{Gives, answer_of}
use Rattle.col_writer_columns.specs.Columns.{text_entry, plain_entry}
use Rattle.col_writer_columns.specs.Numerical.{AreCodes}
use Rattle.col_writer_columns.specs.Texts.{RecordedTexts}
use Rattle.col_writer_columns.specs.declared.plain_column_writer.PlainColumnWriter.{PlainColumnWriter}
use Rattle.col_writer_columns.proofs.NumericalLemmas.{records-length}
use Rattle.col_types.specs.Kinds.{kind_of, numerical_kind_of}
use Rattle.col_types.specs.declared.numerical_type.NumericalType.{NumericalType}
use Rattle.col_types.specs.declared.numerical_type.NumericalType.TheVariants as kinds
use Rattle.col_types.specs.declared.column_type.ColumnType.{ColumnType as Kind}
use Rattle.col_writer_columns.proofs.EntryLemmas.{records-long}
use Rattle.col_writer_file.specs.OnRows.{cells_by_doc, rows_on, content_on, type_on, is_past_terms}
use Rattle.col_writer_file.proofs.NumberLemmas.{codes-textless}
use Rattle.col_writer_file.proofs.PlainLemmas.{cells-in-records}
use Rattle.col_writer_file.proofs.TextEntryLemmas.{texts-in}

-- ---- the steps of a type

pub type-found : (c : Category) (e : Entry) (ds : List ℕ) (t : ColumnType) (a b : Bool) → entry_type c e ≡ Some t
    → is_past_ties (length ds) e.tie_start ≡ a → is_too_large t (content_on e ds) ≡ b
    → type_on c e ds ≡ (refuse_if a tie_breaker_start >>= λ _. refuse_if b too_large >>= λ _. Ok t)
type-found c e ds t a b p q r =
    ap (λ o. or_refuse o numerical_conflict >>= λ u. refuse_if (is_past_ties (length ds) e.tie_start)
    tie_breaker_start >>= λ _. refuse_if (is_too_large u (content_on e ds)) too_large >>= λ _. Ok u) p
    ∙ (λ i. refuse_if (q i) tie_breaker_start >>= λ _. refuse_if (r i) too_large >>= λ _. Ok t)

pub type-missing : (c : Category) (e : Entry) (ds : List ℕ) → entry_type c e ≡ None → type_on c e ds ≡ Err numerical_conflict
type-missing c e ds p =
    ap (λ o. or_refuse o numerical_conflict >>= λ u. refuse_if (is_past_ties (length ds) e.tie_start)
    tie_breaker_start >>= λ _. refuse_if (is_too_large u (content_on e ds)) too_large >>= λ _. Ok u) p

pub type-given : (k : Kind) (expected : Result ColumnType Refusal) → expected ≡ Ok (kind_of k) → Gives kind_of (Ok k) expected
type-given k expected e = record { ok = e; refused = tt }

pub type-refused : (r : Refusal) (x : ColumnarError) (expected : Result ColumnType Refusal) → expected ≡ Err r
    → x ≡ answer_of r → Gives kind_of (Err x) expected
type-refused r x expected e as_answer = record { ok = tt; refused = inr (r, e, as_answer) }

-- ---- what is too large

-- an entry without a tie start, of few records
pub untied-large : (t : ColumnType) (e : Entry) (ds : List ℕ) → e.tie_start ≡ None → AreRowDocs (length ds) ds
    → length e.records < 2 ^ 32
    → is_too_large t (content_on e ds)
    ≡ (nat_le (2 ^ 32) (dictionary_length (texts_of (map (λ r. r.cell) e.records)))
    || has_many_codes t (rows_on e ds))
untied-large t e ds untied rows few =
    subst (λ o. is_too_large t
    (content_on (record { records = e.records; forced = e.forced; sorts = e.sorts; tie_start = o }) ds)
    ≡ (nat_le (2 ^ 32) (dictionary_length (texts_of (map (λ r. r.cell) e.records)))
    || has_many_codes t
    (rows_on (record { records = e.records; forced = e.forced; sorts = e.sorts; tie_start = o }) ds)))
    (sym untied)
    (few-too_large t (texts_of (map (λ r. r.cell) e.records)) (cell_rows e.sorts ds (cells_by_doc e.records))
    (omega (
      arith,
      few-cells e.sorts (length ds) ds (cells_by_doc e.records) rows,
      length-map {B = ℕ × Cell} e.records
          (λ (r : Record). (r.doc, r.cell)),
      few,
    )))

-- a type other than that of addresses needs no codes
pub no-codes : (t : ColumnType) (rows : List (List Cell)) → (t ≡ types.ip → ⊥) → has_many_codes t rows ≡ false
no-codes types.ip rows h = absurd (h refl)
no-codes types.i64 rows h = refl
no-codes types.u64 rows h = refl
no-codes types.bytes rows h = refl
no-codes types.str rows h = refl
no-codes types.bool rows h = refl
no-codes types.datetime rows h = refl

-- numbers are never too large
pub numbers-small : (t : ColumnType) (e : Entry) (ds : List ℕ) → (t ≡ types.ip → ⊥)
    → texts_of (map (λ r. r.cell) e.records) ≡ [] → e.tie_start ≡ None → AreRowDocs (length ds) ds
    → length e.records < 2 ^ 32 → is_too_large t (content_on e ds) ≡ false
numbers-small t e ds other none untied rows few =
    untied-large t e ds untied rows few ∙ (λ i. nat_le (2 ^ 32) (dictionary_length (none i)) || no-codes t (rows_on e ds) other i)

tie-cells : (start : ℤ) (a m : ℕ) → cell_count (map (λ r. number (start +ℤ pos r) ∷ []) (range_with_len a m)) ≡ m
tie-cells start a zero = refl
tie-cells start a (suc m) =
    let rest = tie-cells start (a + 1) m in
    omega (
      arith,
      sum_by-cons length (number (start +ℤ pos a) ∷ [])
          (map (λ r. number (start +ℤ pos r) ∷ []) (range_with_len (a + 1) m)),
      rest,
    )

-- nor are tie breakers
pub ties-small : (t : ColumnType) (e : Entry) (ds : List ℕ) (start : ℤ) → (t ≡ types.ip → ⊥)
    → texts_of (map (λ r. r.cell) e.records) ≡ [] → e.tie_start ≡ Some start → length ds < 2 ^ 32
    → is_too_large t (content_on e ds) ≡ false
ties-small t e ds start other none tied few =
    let rows = map (λ r. number (start +ℤ pos r) ∷ []) (range_with_len 0 (length ds)) in
    ap (λ o. is_too_large t (content_on (record { records = e.records; forced = e.forced; sorts = e.sorts; tie_start = o }) ds)) tied
    ∙ few-too_large t (texts_of (map (λ r. r.cell) e.records)) rows (omega (arith, tie-cells start 0 (length ds), few))
    ∙ (λ i. nat_le (2 ^ 32) (dictionary_length (none i)) || no-codes t rows other i)

-- ---- by the kind of column

or-false : (b : Bool) → (b || false) ≡ b
or-false true = refl
or-false false = refl

-- texts are too large by their dictionary alone
pub texts-large : (t : ColumnType) (w : RecordedTexts) (ds : List ℕ) (n : ℕ) → (t ≡ types.ip → ⊥)
    → AreRowDocs (length ds) ds → n ≡ length w.values → n < 2 ^ 32
    → is_too_large t (content_on (text_entry t w) ds) ≡ is_past_terms w
texts-large t w ds n other rows count few =
    untied-large t (text_entry t w) ds refl rows (omega (arith, records-long t text w.values, count, few))
    ∙ (λ i. nat_le (2 ^ 32) (dictionary_length (distinct_items (slice_cmp nat_cmp) (texts-in t w.values i)))
    || no-codes t (rows_on (text_entry t w) ds) other i)
    ∙ or-false (is_past_terms w)

-- columns of numbers by their codes are too large by the codes that they need alone
pub plain-large :
    {X : Type 0} (t : ColumnType) (cell : X → Cell) (code : X → ℕ) (w : PlainColumnWriter X) (ds : List ℕ) (n : ℕ)
    → ((x : X) → cell x ≡ number_cell t (code x)) → AreRowDocs (length ds) ds → n ≡ length w.column → n < 2 ^ 32
    → is_too_large t (content_on (plain_entry t cell w) ds) ≡ has_many_codes t (rows_on (plain_entry t cell w) ds)
plain-large t cell code w ds n same rows count few =
    untied-large t (plain_entry t cell w) ds refl rows (omega (arith, records-long t cell w.column, count, few))
    ∙ (λ i. nat_le (2 ^ 32) (dictionary_length
    ((ap texts_of (cells-in-records t cell code w.column same)
    ∙ texts-none t (map code (map (λ p. p.1) w.column))) i))
    || has_many_codes t (rows_on (plain_entry t cell w) ds))

-- numbers are never too large
pub codes-small : (t : ColumnType) (e : Entry) (ds : List ℕ) (ps : List (ℕ × ℕ)) (n : ℕ) → (t ≡ types.ip → ⊥)
    → AreCodes e.records ps → AreRowDocs (length ds) ds → length ds < 2 ^ 32 → n ≡ length ps → n < 2 ^ 32
    → is_too_large t (content_on e ds) ≡ false
codes-small t e ds ps n other codes rows few count fits = by e.tie_start refl
  where
    by : (o : Option ℤ) → e.tie_start ≡ o → is_too_large t (content_on e ds) ≡ false
    by None p =
        numbers-small t e ds other (codes-textless e.records ps codes) p rows
        (omega (arith, ap length codes.are, records-length codes.kinds ps codes.many, count, fits))
    by (Some start) p = ties-small t e ds start other (codes-textless e.records ps codes) p few

-- no type of numbers is that of addresses
pub number-no_address : (k : NumericalType) → numerical_kind_of k ≡ types.ip → ⊥
number-no_address kinds.I64 e = cc
number-no_address kinds.U64 e = cc

-- ---- the answers

-- a type that is found
pub type-ok : (c : Category) (e : Entry) (ds : List ℕ) (k : Kind) → entry_type c e ≡ Some (kind_of k)
    → is_past_ties (length ds) e.tie_start ≡ false → is_too_large (kind_of k) (content_on e ds) ≡ false
    → Gives kind_of (Ok k) (type_on c e ds)
type-ok c e ds k typed tied small = type-given k (type_on c e ds) (type-found c e ds (kind_of k) false false typed tied small)

-- a column past a limit of its type is refused as too large
pub type-large : (c : Category) (e : Entry) (ds : List ℕ) (t : ColumnType) → entry_type c e ≡ Some t
    → is_past_ties (length ds) e.tie_start ≡ false → is_too_large t (content_on e ds) ≡ true
    → Gives kind_of (Err answers.TooLarge) (type_on c e ds)
type-large c e ds t typed tied large =
    type-refused too_large answers.TooLarge (type_on c e ds) (type-found c e ds t false true typed tied large) refl

-- a tie start that rises too far is refused as such
pub type-past : (c : Category) (e : Entry) (ds : List ℕ) (t : ColumnType) → entry_type c e ≡ Some t
    → is_past_ties (length ds) e.tie_start ≡ true → Gives kind_of (Err answers.TieBreakerStart) (type_on c e ds)
type-past c e ds t typed past =
    type-refused tie_breaker_start answers.TieBreakerStart (type_on c e ds)
    (type-found c e ds t true (is_too_large t (content_on e ds)) typed past refl) refl

-- numbers that no type holds are refused as a conflict
pub type-none : (c : Category) (e : Entry) (ds : List ℕ) → entry_type c e ≡ None
    → Gives kind_of (Err answers.NumericalConflict) (type_on c e ds)
type-none c e ds none = type-refused numerical_conflict answers.NumericalConflict (type_on c e ds) (type-missing c e ds none) refl
