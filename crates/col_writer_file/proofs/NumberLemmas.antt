-- Columns of numbers.
use Rattle.std.proofs.Common.{◌≡◌, ◌<◌, ℕ, suc, ◌-◌, ◌^◌, List, [], ◌∷◌, length, map, true, false, Some, None, Result, refl, sym, ap, ◌∙◌, subst, arith}
use Rattle.std.specs.Prelude.{ℤ, pos, int_le, filter_map}
use Rattle.std.specs.List.{list_all, zip}
use Rattle.std.proofs.lemmas.Bool.{and_parts}
use Rattle.std.proofs.lemmas.Bool.Decides.{nat_tests}
use Rattle.std.proofs.lemmas.Int.{ints}
use Rattle.std.proofs.lemmas.Option.{same_Some}
use Rattle.col_common.specs.Outside.{SeenSink}
use Rattle.col_common.specs.declared.error.ColumnarError.{ColumnarError}
use Rattle.col_model.specs.Category as categories
use Rattle.col_model.specs.Column.{number_cell, signed_of, is_stored}
use Rattle.col_model.specs.ColumnType.{ColumnType, is_numerical, has_terms}
use Rattle.col_model.specs.ColumnType as types
use Rattle.col_model.specs.Limits.{tightest}
use Rattle.col_model.specs.NumericalType.{accepts_i64, accepts_u64}
use Rattle.col_model.specs.Recording.{accept_type}
use Rattle.col_model.specs.Table.{number}
use Rattle.col_model.specs.Written.{Record, Entry, recorded_number, entry_type, text_of, texts_of}
use Rattle.col_column.specs.Written.{Stores64}
use Rattle.col_model.proofs.MergedSound.{distinct-none}
use Rattle.col_writer_rows.specs.Counted.{SerializesColumn}
use Rattle.col_writer_rows.specs.Documents.{docs_of}
use Rattle.col_writer_rows.specs.Rows.{cell_rows, number_content, tie_content}
use Rattle.col_writer_rows.proofs.EntryLemmas.{texts-none, tied-content}
use Rattle.col_writer_rows.proofs.TextLemmas.{stores-all}
use Rattle.col_writer_columns.specs.Numerical.{numerical_records, AreCodes}
use Rattle.col_writer_columns.specs.Values.{stored_number, unsigned_of}
use Rattle.col_writer_columns.proofs.NumericalLemmas.{docs-records}
use Rattle.col_writer_file.specs.OnRows.{Fit64, content_on}
use Rattle.col_writer_file.proofs.OnRowLemmas.{plain-content, column-as}

-- An entry of numbers with these codes, which a type holds. It has no tie start.
pub record IsNumbersOf (t : ColumnType) (e : Entry) (ps : List (ℕ × ℕ)) : Type 0 where
  pub codes : AreCodes e.records ps
  pub holds : accept_type e.records t ≡ true
  pub unsorted : e.sorts ≡ false
  pub untied : e.tie_start ≡ None

-- ---- a number by its code

signed-same : (t : ColumnType) (code : ℕ) → code < 2 ^ 64 → is_numerical t ≡ true
    → accepts_i64 (t, stored_number t code) ≡ true → stored_number t code ≡ signed_of code
signed-same types.i64 code fits h a = refl
signed-same types.u64 code fits h a =
    let small : unsigned_of code < 2 ^ 63 - 1 = grind (arith, nat_tests) in
    omega (arith, ints)
signed-same types.bytes code fits h a = refl
signed-same types.str code fits h a = refl
signed-same types.bool code fits h a = refl
signed-same types.ip code fits h a = refl
signed-same types.datetime code fits h a = refl

unsigned-same : (t : ColumnType) (code : ℕ) → code < 2 ^ 64 → is_numerical t ≡ true
    → accepts_u64 (t, stored_number t code) ≡ true → stored_number t code ≡ pos (unsigned_of code)
unsigned-same types.u64 code fits h a = refl
unsigned-same types.i64 code fits h a = unsigned-from code fits a
  where
    unsigned-from : (code : ℕ) → code < 2 ^ 64 → int_le (pos 0) (signed_of code) ≡ true → signed_of code ≡ pos (unsigned_of code)
    unsigned-from code fits a = grind (arith, ints)
unsigned-same types.bytes code fits h a = cc
unsigned-same types.str code fits h a = cc
unsigned-same types.bool code fits h a = cc
unsigned-same types.ip code fits h a = cc
unsigned-same types.datetime code fits h a = cc

-- the numbers of codes are those that are stored
signed-cells : (ts : List ColumnType) (ps : List (ℕ × ℕ)) → length ts ≡ length ps → list_all is_numerical ts ≡ true
    → accept_type (numerical_records ts ps) types.i64 ≡ true → Fit64 (map (λ p. p.1) ps)
    → map (λ r. r.cell) (numerical_records ts ps) ≡ map (number_cell types.i64) (map (λ p. p.1) ps)
unfolding numerical_records
signed-cells [] [] e h a fit = refl
signed-cells [] (p ∷ ps) e h a fit = absurd (omega arith)
signed-cells (t ∷ ts) [] e h a fit = absurd (omega arith)
signed-cells (t ∷ ts) (p ∷ ps) e h a fit =
    let kinds = and_parts (is_numerical t) (list_all is_numerical ts) h in
    let held = and_parts (accepts_i64 (t, stored_number t p.1))
    (list_all accepts_i64 (filter_map recorded_number (numerical_records ts ps))) a in
    λ i. number (signed-same t p.1 (fit 0) kinds.0 held.0 i) ∷ signed-cells ts ps (omega arith) kinds.1 held.1 (λ k. fit (suc k)) i

unsigned-cells : (ts : List ColumnType) (ps : List (ℕ × ℕ)) → length ts ≡ length ps
    → list_all is_numerical ts ≡ true → accept_type (numerical_records ts ps) types.u64 ≡ true
    → Fit64 (map (λ p. p.1) ps)
    → map (λ r. r.cell) (numerical_records ts ps)
    ≡ map (number_cell types.u64) (map unsigned_of (map (λ p. p.1) ps))
unfolding numerical_records
unsigned-cells [] [] e h a fit = refl
unsigned-cells [] (p ∷ ps) e h a fit = absurd (omega arith)
unsigned-cells (t ∷ ts) [] e h a fit = absurd (omega arith)
unsigned-cells (t ∷ ts) (p ∷ ps) e h a fit =
    let kinds = and_parts (is_numerical t) (list_all is_numerical ts) h in
    let held = and_parts (accepts_u64 (t, stored_number t p.1))
    (list_all accepts_u64 (filter_map recorded_number (numerical_records ts ps))) a in
    λ i. number (unsigned-same t p.1 (fit 0) kinds.0 held.0 i) ∷ unsigned-cells ts ps (omega arith) kinds.1 held.1 (λ k. fit (suc k)) i

-- the documents of an entry of codes
pub docs-in-codes : (records : List Record) (ps : List (ℕ × ℕ)) → AreCodes records ps → map (λ r. r.doc) records ≡ docs_of ps
docs-in-codes records ps h = ap (map (λ r. r.doc)) h.are ∙ docs-records h.kinds ps h.many

-- ---- columns

-- the content of an entry whose cells are numbers of a type
pub number-entry : (e : Entry) (t : ColumnType) (ds docs numbers : List ℕ) → e.tie_start ≡ None → e.sorts ≡ false
    → map (λ r. r.doc) e.records ≡ docs → map (λ r. r.cell) e.records ≡ map (number_cell t) numbers
    → number_content t ds docs numbers ≡ content_on e ds
number-entry e t ds docs numbers untied unsorted same_docs same_cells =
    let rows = cell_rows false ds (zip docs (map (number_cell t) numbers)) in
    (λ i. record { cardinality = tightest rows; terms = sym (texts-none t numbers) i; rows = rows })
    ∙ sym (plain-content e ds docs (map (number_cell t) numbers) untied unsorted same_docs same_cells)

pub stores-i64 : (xs : List ℕ) → Stores64 types.i64 xs
stores-i64 xs = record { list = λ bytes. refl; images = stores-all xs (is_stored types.i64) (λ x. refl) }

pub stores-u64 : (xs : List ℕ) → Stores64 types.u64 xs
stores-u64 xs = record { list = λ bytes. refl; images = stores-all xs (is_stored types.u64) (λ x. refl) }

-- a column as it is written for any type that stores its numbers
abbrev pub WritesNumbers : SeenSink → SeenSink → Result (Unit {0}) ColumnarError → List ℕ → List ℕ → List ℕ → Type 0
WritesNumbers old new result ds docs numbers =
    (t : ColumnType) → has_terms t ≡ false → Stores64 t numbers
    → SerializesColumn old new result t (length ds) (number_content t ds docs numbers)

-- codes of i64 numbers, written for any type that stores them, are the column of the entry
pub signed-written : (old new : SeenSink) (result : Result (Unit {0}) ColumnarError) (ds docs xs : List ℕ)
    (ps : List (ℕ × ℕ)) (e : Entry) → docs ≡ docs_of ps → xs ≡ map (λ p. p.1) ps → Fit64 xs
    → IsNumbersOf types.i64 e ps → WritesNumbers old new result ds docs xs
    → SerializesColumn old new result types.i64 (length ds) (content_on e ds)
signed-written old new result ds docs xs ps e same_docs same fit h written =
    let cells = ap (map (λ r. r.cell)) h.codes.are
    ∙ signed-cells h.codes.kinds ps h.codes.many h.codes.numerical
    (ap (λ r. accept_type r types.i64) (sym h.codes.are) ∙ h.holds) (subst Fit64 same fit)
    ∙ ap (map (number_cell types.i64)) (sym same) in
    column-as old new result types.i64 (length ds) (length ds) _ _ refl
    (number-entry e types.i64 ds docs xs h.untied h.unsorted (docs-in-codes e.records ps h.codes ∙ sym same_docs)
    cells) (written types.i64 refl (stores-i64 xs))

-- codes turned into u64 numbers, written for any type that stores them, are the column of the entry
pub unsigned-written : (old new : SeenSink) (result : Result (Unit {0}) ColumnarError) (ds docs xs : List ℕ)
    (ps : List (ℕ × ℕ)) (codes : List ℕ) (e : Entry) → docs ≡ docs_of ps → codes ≡ map (λ p. p.1) ps → Fit64 codes
    → xs ≡ map unsigned_of codes → IsNumbersOf types.u64 e ps → WritesNumbers old new result ds docs xs
    → SerializesColumn old new result types.u64 (length ds) (content_on e ds)
unsigned-written old new result ds docs xs ps codes e same_docs same fit is h written =
    let cells = ap (map (λ r. r.cell)) h.codes.are
    ∙ unsigned-cells h.codes.kinds ps h.codes.many h.codes.numerical
    (ap (λ r. accept_type r types.u64) (sym h.codes.are) ∙ h.holds) (subst Fit64 same fit)
    ∙ ap (λ r. map (number_cell types.u64) (map unsigned_of r)) (sym same)
    ∙ ap (map (number_cell types.u64)) (sym is) in
    column-as old new result types.u64 (length ds) (length ds) _ _ refl
    (number-entry e types.u64 ds docs xs h.untied h.unsorted (docs-in-codes e.records ps h.codes ∙ sym same_docs)
    cells) (written types.u64 refl (stores-u64 xs))

-- ---- by the type of the entry

-- what a type holds, where the entry has it
abbrev pub Holds : Entry → Type 0
Holds e = (t : ColumnType) → entry_type categories.numerical e ≡ Some t → accept_type e.records t ≡ true

-- a column of i64 whose type holds its records is written where one of its codes is
pub signed-typed : (old new : SeenSink) (result : Result (Unit {0}) ColumnarError) (e : Entry) (ds : List ℕ)
    (ps : List (ℕ × ℕ)) (t : ColumnType) → entry_type categories.numerical e ≡ Some t → t ≡ types.i64
    → AreCodes e.records ps → Holds e → e.sorts ≡ false → e.tie_start ≡ None
    → ((f : Entry) → IsNumbersOf types.i64 f ps
    → SerializesColumn old new result types.i64 (length ds) (content_on f ds))
    → SerializesColumn old new result t (length ds) (content_on e ds)
signed-typed old new result e ds ps t p same codes holds unsorted untied written =
    subst (λ u. SerializesColumn old new result u (length ds) (content_on e ds)) (sym same)
    (written e (record { codes = codes; holds = holds types.i64 (p ∙ ap Some same); unsorted = unsorted; untied = untied }))

-- a column of u64 whose type holds its records is written where one of its codes is
pub unsigned-typed : (old new : SeenSink) (result : Result (Unit {0}) ColumnarError) (e : Entry) (ds : List ℕ)
    (ps : List (ℕ × ℕ)) (t : ColumnType) → entry_type categories.numerical e ≡ Some t
    → entry_type categories.numerical e ≡ Some types.u64 → AreCodes e.records ps → Holds e → e.sorts ≡ false
    → e.tie_start ≡ None → ((f : Entry) → IsNumbersOf types.u64 f ps
    → SerializesColumn old new result types.u64 (length ds) (content_on f ds))
    → SerializesColumn old new result t (length ds) (content_on e ds)
unsigned-typed old new result e ds ps t p is codes holds unsorted untied written =
    subst (λ u. SerializesColumn old new result u (length ds) (content_on e ds)) (same_Some types.u64 t (sym is ∙ p))
    (written e (record { codes = codes; holds = holds types.u64 is; unsorted = unsorted; untied = untied }))

-- ---- numbers from a tie start on

none-found : (ts : List ColumnType) (ps : List (ℕ × ℕ)) → filter_map text_of (map (λ r. r.cell) (numerical_records ts ps)) ≡ []
unfolding numerical_records
none-found [] ps = refl
none-found (t ∷ ts) [] = refl
none-found (t ∷ ts) (p ∷ ps) = none-found ts ps

-- numbers have no texts
pub codes-textless : (records : List Record) (ps : List (ℕ × ℕ)) → AreCodes records ps → texts_of (map (λ r. r.cell) records) ≡ []
codes-textless records ps h = distinct-none _ (ap (λ rs. filter_map text_of (map (λ r. r.cell) rs)) h.are ∙ none-found h.kinds ps)

tied-is : (e : Entry) (ds : List ℕ) (start : ℤ) → e.tie_start ≡ Some start
    → texts_of (map (λ r. r.cell) e.records) ≡ [] → tie_content start (length ds) ≡ content_on e ds
tied-is e ds start tied none =
    sym (tied-content e.records e.forced e.sorts start (length ds) None none)
    ∙ ap
    (λ o. content_on (record { records = e.records; forced = e.forced; sorts = e.sorts; tie_start = o }) ds)
    (sym tied)

-- numbers that rise by 1 from the tie start are the column of an entry with one
pub ties-written : (old new : SeenSink) (result : Result (Unit {0}) ColumnarError) (e : Entry) (ds : List ℕ)
    (start z : ℤ) (n : ℕ) (ps : List (ℕ × ℕ)) → e.tie_start ≡ Some start → z ≡ start → n ≡ length ds
    → AreCodes e.records ps → SerializesColumn old new result types.i64 n (tie_content z n)
    → SerializesColumn old new result types.i64 (length ds) (content_on e ds)
ties-written old new result e ds start z n ps tied same count codes written =
    column-as old new result types.i64 n (length ds) _ _ count
    ((λ i. tie_content (same i) (count i)) ∙ tied-is e ds start tied (codes-textless e.records ps codes))
    written
