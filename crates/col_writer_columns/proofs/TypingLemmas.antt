-- Types that are forced, by the entry of a column.
use Rattle.std.proofs.Common.{◌≡◌, ℕ, List, Bool, true, false, Option, Some, None, Result, Ok, Err, refl, sym, ◌∙◌, ap, inr}
use Rattle.std.specs.Prelude.{ℤ, not, ◌||◌, cond, MatchOption, ⊤}
use Rattle.std.proofs.lemmas.Option.{same_Some}
use Rattle.col_common.specs.declared.error.ColumnarError.{ColumnarError}
use Rattle.col_common.specs.declared.error.ColumnarError.TheVariants as answers
use Rattle.col_model.specs.ColumnType.{ColumnType}
use Rattle.col_model.specs.ColumnType as types
use Rattle.col_model.specs.NumericalType.{numerical_type}
use Rattle.col_model.specs.Table.{Cell, text}
use Rattle.col_model.specs.Category.{category_of}
use Rattle.col_model.specs.Category as categories
use Rattle.col_model.specs.Written.{Record, Entry, entry_type}
use Rattle.col_model.specs.Recording.{accept_type, denies}
use Rattle.col_model.specs.Refusal.{Refusal, ◌>>=◌, refuse_if, forced_type}
use Rattle.col_types.specs.Kinds.{numerical_kind_of}
use Rattle.col_types.specs.declared.numerical_type.NumericalType.{NumericalType}
use Rattle.col_types.specs.declared.numerical_type.NumericalType.TheVariants as kinds
use Rattle.col_writer_columns.specs.Answers.{RecordsExactly, RecordsOrRefuses}
use Rattle.col_writer_columns.specs.Entries.{typed_entry, tied_entry}
use Rattle.col_writer_columns.specs.Numerical.{numerical_entry, numerical_records, IsSummary, HaveNumberTypes}
use Rattle.col_writer_columns.specs.Compatible.{is_accepted, accepted_type}
use Rattle.col_writer_columns.specs.Texts.{RecordedTexts}
use Rattle.col_writer_columns.specs.Columns.{records_of, forced_type_of, text_entry, plain_entry}
use Rattle.col_writer_columns.specs.declared.plain_column_writer.PlainColumnWriter.{PlainColumnWriter}
use Rattle.col_writer_columns.specs.declared.compatible_types.CompatibleNumericalTypes.{CompatibleNumericalTypes}
use Rattle.col_writer_columns.specs.declared.compatible_types.CompatibleNumericalTypes.TheVariants.{Dynamic, StaticType}
use Rattle.col_writer_columns.proofs.EntryLemmas.{own_type}

-- a call that wants no memory is one that may want it
pub exactly-records : {A : Type 0} (old new : A) (result : Result (Unit {0}) ColumnarError)
    (expected : Result A Refusal) → RecordsExactly old new result expected
    → RecordsOrRefuses old new result expected
exactly-records old new (Ok done) expected h = record { ok = h.ok; refused = tt; kept = tt }
exactly-records old new (Err e) expected h = record { ok = tt; refused = inr h.refused; kept = h.kept }

-- an entry whose type isn't denied
pub typed-answers : (e f : Entry) (t : ColumnType) (sorts : Bool) → denies e t ≡ false
    → f ≡ record { records = e.records; forced = Some t; sorts = sorts; tie_start = e.tie_start }
    → RecordsExactly e f (Ok tt) (typed_entry e t sorts)
unfolding typed_entry
typed-answers e f t sorts free made =
    record {
      ok = ap (λ b. refuse_if b forced_type >>=
          λ _. Ok (record { records = e.records; forced = Some t; sorts = sorts; tie_start = e.tie_start })) free
          ∙ ap Ok (sym made);
      refused = tt;
      kept = tt;
    }

-- a type that the entry denies is refused, and changes nothing
pub denied-answers : (e : Entry) (t : ColumnType) (sorts : Bool) → denies e t ≡ true
    → RecordsExactly e e (Err answers.ForcedType) (typed_entry e t sorts)
unfolding typed_entry
denied-answers e t sorts denied =
    record {
      ok = tt;
      refused = (
        forced_type,
        ap (λ b. refuse_if b forced_type >>=
            λ _. Ok (record { records = e.records; forced = Some t; sorts = sorts; tie_start = e.tie_start })) denied,
        refl,
      );
      kept = refl;
    }

-- ---- numbers

-- a type is denied where it isn't accepted
pub denied-accepted :
    (a : CompatibleNumericalTypes) (ts : List ColumnType) (ps : List (ℕ × ℕ)) (start : Option ℤ) (t : NumericalType)
    → IsSummary a (numerical_records ts ps)
    → denies (numerical_entry a ts ps start) (numerical_kind_of t) ≡ not (is_accepted a (numerical_kind_of t))
unfolding IsSummary
denied-accepted (Dynamic i u) ts ps start kinds.I64 s = ap not (sym s.0)
denied-accepted (Dynamic i u) ts ps start kinds.U64 s = ap not (sym s.1)
denied-accepted (StaticType kinds.I64) ts ps start kinds.I64 s = ap not s
denied-accepted (StaticType kinds.U64) ts ps start kinds.U64 s = ap not s
denied-accepted (StaticType kinds.I64) ts ps start kinds.U64 s = refl
denied-accepted (StaticType kinds.U64) ts ps start kinds.I64 s = refl

-- the forced type holds the records
pub forced-summary : (a : CompatibleNumericalTypes) (rs : List Record) (t : NumericalType) → IsSummary a rs
    → is_accepted a (numerical_kind_of t) ≡ true → IsSummary (StaticType t) rs
unfolding IsSummary
forced-summary (Dynamic i u) rs kinds.I64 s e = sym s.0 ∙ e
forced-summary (Dynamic i u) rs kinds.U64 s e = sym s.1 ∙ e
forced-summary (StaticType kinds.I64) rs kinds.I64 s e = s
forced-summary (StaticType kinds.U64) rs kinds.U64 s e = s
forced-summary (StaticType kinds.I64) rs kinds.U64 s e = cc
forced-summary (StaticType kinds.U64) rs kinds.I64 s e = cc

-- ---- columns of one type

-- a type forced on texts that it holds is the entry's, with the flag
pub text-typed : (t : ColumnType) (w v : RecordedTexts) (sorts : Bool) → v.values ≡ w.values → v.is_forced ≡ true
    → v.sorts ≡ sorts → accept_type (records_of t text w.values) t ≡ true
    → RecordsOrRefuses (text_entry t w) (text_entry t v) (Ok tt) (typed_entry (text_entry t w) t sorts)
text-typed t w v sorts values forced same accepted =
    exactly-records (text_entry t w) (text_entry t v) (Ok tt) (typed_entry (text_entry t w) t sorts)
    (typed-answers (text_entry t w) (text_entry t v) t sorts (λ i. own_type t w.is_forced i || not (accepted i))
    (λ i. record { records = records_of t text (values i); forced = forced_type_of t (forced i); sorts = same i; tie_start = None }))

-- a type forced on values that it holds is the entry's
pub plain-typed : {X : Type 0} (t : ColumnType) (cell : X → Cell) (w v : PlainColumnWriter X) → v.column ≡ w.column
    → v.is_forced ≡ true → accept_type (records_of t cell w.column) t ≡ true
    → RecordsOrRefuses (plain_entry t cell w) (plain_entry t cell v) (Ok tt) (typed_entry (plain_entry t cell w) t false)
plain-typed t cell w v column forced accepted =
    exactly-records (plain_entry t cell w) (plain_entry t cell v) (Ok tt) (typed_entry (plain_entry t cell w) t false)
    (typed-answers (plain_entry t cell w) (plain_entry t cell v) t false (λ i. own_type t w.is_forced i || not (accepted i))
    (λ i. record { records = records_of t cell (column i); forced = forced_type_of t (forced i); sorts = false; tie_start = None }))

-- the types of numbers are in the category of numbers
pub number-kind : (t : NumericalType) → category_of (numerical_kind_of t) ≡ categories.numerical
number-kind kinds.I64 = refl
number-kind kinds.U64 = refl

-- ---- the type of a column of numbers, and a tie start

untied-type : (b : CompatibleNumericalTypes) (ts : List ColumnType) (ps : List (ℕ × ℕ))
    → IsSummary b (numerical_records ts ps)
    → accepted_type b ≡ entry_type categories.numerical (numerical_entry b ts ps None)
unfolding IsSummary numerical_type
untied-type (StaticType t) ts ps s = refl
untied-type (Dynamic i u) ts ps s = λ j. cond (s.0 j) (Some types.i64) (cond (s.1 j) (Some types.u64) None)

-- the type that is accepted is that of the column's entry
pub accepted-type : (a : CompatibleNumericalTypes) (ts : List ColumnType) (ps : List (ℕ × ℕ)) (start : Option ℤ)
    → HaveNumberTypes a ts ps start → accepted_type a ≡ entry_type categories.numerical (numerical_entry a ts ps start)
accepted-type a ts ps (Some z) h = ap accepted_type h.tied
accepted-type a ts ps None h = untied-type a ts ps h.summary

-- a tie start on an entry that i64 isn't denied to forces i64
pub tied-answers : (e f : Entry) (start : ℤ) → denies e types.i64 ≡ false
    → f ≡ record { records = e.records; forced = Some types.i64; sorts = e.sorts; tie_start = Some start }
    → RecordsExactly e f (Ok tt) (tied_entry e start)
unfolding tied_entry
tied-answers e f start free made =
    record {
      ok = ap (λ b. refuse_if b forced_type >>=
          λ _. Ok (record { records = e.records; forced = Some types.i64; sorts = e.sorts; tie_start = Some start })) free
          ∙ ap Ok (sym made);
      refused = tt;
      kept = tt;
    }

-- a tie start on an entry that i64 is denied to is refused, and changes nothing
pub untied-answers : (e : Entry) (start : ℤ) → denies e types.i64 ≡ true
    → RecordsExactly e e (Err answers.ForcedType) (tied_entry e start)
unfolding tied_entry
untied-answers e start denied =
    record {
      ok = tt;
      refused = (
        forced_type,
        ap (λ b. refuse_if b forced_type >>=
            λ _. Ok (record { records = e.records; forced = Some types.i64; sorts = e.sorts; tie_start = Some start }))
            denied,
        refl,
      );
      kept = refl;
    }

-- the tie start of an entry that is tied
pub tied-entry : (ts : List ColumnType) (ps : List (ℕ × ℕ)) (a : CompatibleNumericalTypes) (old : Option ℤ)
    (now : Entry) (start z : ℤ) → numerical_entry a ts ps old ≡ now → z ≡ start
    → numerical_entry (StaticType kinds.I64) ts ps (Some z)
    ≡ record { records = now.records; forced = Some types.i64; sorts = now.sorts; tie_start = Some start }
tied-entry ts ps a old now start z is same =
    λ i. record
    { records = (is i).records; forced = Some types.i64; sorts = (is i).sorts; tie_start = Some (same i) }

-- numbers that i64 holds have their types under a tie start, too
pub tied-numbers :
    (a : CompatibleNumericalTypes) (ts : List ColumnType) (ps : List (ℕ × ℕ)) (old : Option ℤ) (z : ℤ)
    → HaveNumberTypes a ts ps old → is_accepted a types.i64 ≡ true → HaveNumberTypes (StaticType kinds.I64) ts ps (Some z)
tied-numbers a ts ps old z h accepted = record { many = h.many; summary = forced-summary a _ kinds.I64 h.summary accepted; tied = refl }

-- a forced type keeps what is tied
pub forced-numbers :
    (a : CompatibleNumericalTypes) (ts : List ColumnType) (ps : List (ℕ × ℕ)) (start : Option ℤ) (t : NumericalType)
    → HaveNumberTypes a ts ps start → is_accepted a (numerical_kind_of t) ≡ true → HaveNumberTypes (StaticType t) ts ps start
forced-numbers a ts ps start t h accepted =
    record
    { many = h.many; summary = forced-summary a _ t h.summary accepted; tied = still start t h.tied accepted }
  where
    one : (t : NumericalType) → is_accepted (StaticType kinds.I64) (numerical_kind_of t) ≡ true
        → ◌≡◌ {A = CompatibleNumericalTypes} (StaticType t) (StaticType kinds.I64)
    one kinds.I64 e = refl
    one kinds.U64 e = cc

    still : (start : Option ℤ) (t : NumericalType) → MatchOption start ⊤ (λ _. a ≡ StaticType kinds.I64)
        → is_accepted a (numerical_kind_of t) ≡ true
        → MatchOption start ⊤ (λ _. ◌≡◌ {A = CompatibleNumericalTypes} (StaticType t) (StaticType kinds.I64))
    still None t tied e = tt
    still (Some z) t tied e = one t (ap (λ b. is_accepted b (numerical_kind_of t)) (sym tied) ∙ e)

-- ---- the type of a column holds its numbers

holds : (a : CompatibleNumericalTypes) (rs : List Record) (t : ColumnType) → IsSummary a rs
    → accepted_type a ≡ Some t → accept_type rs t ≡ true
unfolding IsSummary
holds (StaticType s) rs t h e = ap (accept_type rs) (sym (same_Some (numerical_kind_of s) t e)) ∙ h
holds (Dynamic true u) rs t h e = ap (accept_type rs) (sym (same_Some types.i64 t e)) ∙ sym h.0
holds (Dynamic false true) rs t h e = ap (accept_type rs) (sym (same_Some types.u64 t e)) ∙ sym h.1
holds (Dynamic false false) rs t h e = cc

-- the type of the entry of numbers holds all its records
pub type-holds : (a : CompatibleNumericalTypes) (ts : List ColumnType) (ps : List (ℕ × ℕ)) (start : Option ℤ)
    (now : Entry) (t : ColumnType) → HaveNumberTypes a ts ps start → numerical_entry a ts ps start ≡ now
    → entry_type categories.numerical now ≡ Some t → accept_type now.records t ≡ true
type-holds a ts ps start now t h is e =
    ap (λ (x : Entry). accept_type x.records t) (sym is)
    ∙ holds a (numerical_records ts ps) t h.summary (accepted-type a ts ps start h ∙ ap (entry_type categories.numerical) is ∙ e)
