-- Entries of columns of one type, and records into them.
use Rattle.std.proofs.Common.{◌≡◌, ℕ, List, [], ◌∷◌, ◌++◌, length, Bool, true, false, None, Result, Ok, Err, unwrap_or, refl, sym, ◌∙◌, ap, subst}
use Rattle.std.specs.Prelude.{nat_lt, option_map}
use Rattle.std.specs.List.{last_or}
use Rattle.std.proofs.lemmas.List.{length-map}
use Rattle.col_common.specs.declared.error.ColumnarError.{ColumnarError}
use Rattle.col_model.specs.ColumnType.{ColumnType}
use Rattle.col_model.specs.ColumnType as types
use Rattle.col_model.specs.Table.{Cell, text}
use Rattle.col_model.specs.Written.{Record, Entry}
use Rattle.col_model.specs.Recording.{no_records, forces_other, is_late}
use Rattle.col_model.specs.Refusal.{◌>>=◌}
use Rattle.col_writer_rows.specs.Documents.{is_late_doc, docs_of}
use Rattle.col_writer_columns.specs.Posted.{posted_after}
use Rattle.col_writer_columns.specs.Answers.{RecordsOrRefuses}
use Rattle.col_writer_columns.specs.Entries.{recorded_entry}
use Rattle.col_writer_columns.specs.Texts.{RecordedTexts}
use Rattle.col_writer_columns.specs.Columns.{records_of, forced_type_of, text_entry, plain_entry}
use Rattle.col_writer_columns.specs.declared.plain_column_writer.PlainColumnWriter.{PlainColumnWriter}
use Rattle.col_writer_columns.proofs.TypeListLemmas.{map-push}
use Rattle.col_writer_columns.proofs.NumericalLemmas.{last_or-map, with_record, entry-posted, refused-entry, posted-value, seen_last}

-- ---- columns of one type

late : {X : Type 0} (t : ColumnType) (cell : X → Cell) (ps : List (ℕ × X)) (d : ℕ)
    → is_late (records_of t cell ps) d ≡ is_late_doc (docs_of ps) d
unfolding records_of is_late_doc
late {X} t cell ps d =
    let f : ℕ × X → Record = λ p. record { doc = p.0; recorded_type = t; cell = cell p.1 } in
    ap (λ o. unwrap_or (option_map (λ (r : Record). nat_lt d r.doc) o) false) (last_or-map f None ps)
    ∙ seen_last f (λ p. p.0) (λ r. nat_lt d r.doc) (λ l. nat_lt d l) (λ z. refl) (last_or None ps)
    ∙ ap (λ o. unwrap_or (option_map (λ l. nat_lt d l) o) false) (sym (last_or-map (λ (p : ℕ × X). p.0) None ps))

-- there are as many records as values
pub records-long : {X : Type 0} (t : ColumnType) (cell : X → Cell) (ps : List (ℕ × X)) → length (records_of t cell ps) ≡ length ps
unfolding records_of
records-long t cell ps = length-map ps _

more : {X : Type 0} (t : ColumnType) (cell : X → Cell) (ps : List (ℕ × X)) (d : ℕ) (x : X)
    → records_of t cell (ps ++ (d, x) ∷ [])
    ≡ records_of t cell ps ++ record { doc = d; recorded_type = t; cell = cell x } ∷ []
unfolding records_of
more t cell ps d x = map-push _ ps (d, x)

-- no values are no records
pub none-records : {X : Type 0} (t : ColumnType) (cell : X → Cell) → records_of t cell [] ≡ []
unfolding records_of
none-records t cell = refl

-- a type doesn't force another than itself
pub own_type : (t : ColumnType) (b : Bool) → forces_other (forced_type_of t b) t ≡ false
own_type t false = refl
own_type types.i64 true = refl
own_type types.u64 true = refl
own_type types.bytes true = refl
own_type types.str true = refl
own_type types.bool true = refl
own_type types.ip true = refl
own_type types.datetime true = refl

-- the entry of values of one type
abbrev entry_by : {X : Type 0} → ColumnType → (X → Cell) → Bool → Bool → List (ℕ × X) → Entry
entry_by t cell forced sorts ps =
    record { records = records_of t cell ps; forced = forced_type_of t forced; sorts = sorts; tie_start = None }

pub entry-answers : {X : Type 0} (t : ColumnType) (cell : X → Cell) (forced sorts : Bool) (ps qs : List (ℕ × X))
    (d : ℕ) (x : X) (r : Result (Unit {0}) ColumnarError) → RecordsOrRefuses ps qs r (posted_after ps d x)
    → RecordsOrRefuses (entry_by t cell forced sorts ps) (entry_by t cell forced sorts qs) r
    (recorded_entry (entry_by t cell forced sorts ps) d t (cell x))
entry-answers t cell forced sorts ps qs d x r h = by r h
  where
    e : Entry
    e = entry_by t cell forced sorts ps

    posted : recorded_entry (entry_by t cell forced sorts ps) d t (cell x)
        ≡ (posted_after ps d x >>= λ _. Ok (with_record (entry_by t cell forced sorts ps) d t (cell x)))
    posted =
        entry-posted (entry_by t cell forced sorts ps) d t (cell x) ps x (own_type t forced) (late t cell ps d)
        (records-long t cell ps)

    by : (r : Result (Unit {0}) ColumnarError) → RecordsOrRefuses ps qs r (posted_after ps d x)
        → RecordsOrRefuses (entry_by t cell forced sorts ps) (entry_by t cell forced sorts qs) r
        (recorded_entry (entry_by t cell forced sorts ps) d t (cell x))
    by (Ok u) h =
        let made : entry_by t cell forced sorts qs ≡ with_record (entry_by t cell forced sorts ps) d t (cell x) =
        ap (entry_by t cell forced sorts) (posted-value ps qs d x h.ok)
        ∙ (λ i. record
        { records = more t cell ps d x i; forced = forced_type_of t forced; sorts = sorts; tie_start = None })
        in
        record {
          ok = posted
              ∙ ap (λ o. o >>= λ _. Ok (with_record (entry_by t cell forced sorts ps) d t (cell x))) h.ok
              ∙ ap Ok (sym made);
          refused = tt;
          kept = tt;
        }
    by (Err y) h =
        record {
          ok = tt;
          refused = refused-entry (entry_by t cell forced sorts ps) d t (cell x) ps x y posted h.refused;
          kept = ap (entry_by t cell forced sorts) h.kept;
        }

-- what the values of a text column answer to one more, its entry answers to a record
pub text-answers : (t : ColumnType) (w v : RecordedTexts) (d : ℕ) (s : List ℕ) (r : Result (Unit {0}) ColumnarError)
    → RecordsOrRefuses w.values v.values r (posted_after w.values d s) → v.is_forced ≡ w.is_forced → v.sorts ≡ w.sorts
    → RecordsOrRefuses (text_entry t w) (text_entry t v) r (recorded_entry (text_entry t w) d t (text s))
text-answers t w v d s r h forced sorts =
    let same : entry_by t text w.is_forced w.sorts v.values ≡ text_entry t v = λ i. entry_by t text (sym forced i) (sym sorts i) v.values in
    let P : Entry → Type 0 = λ e. RecordsOrRefuses (text_entry t w) e r (recorded_entry (text_entry t w) d t (text s)) in
    subst P same (entry-answers t text w.is_forced w.sorts w.values v.values d s r h)

-- what the values of a plain column answer to one more, its entry answers to a record
pub plain-answers : {X : Type 0} (t : ColumnType) (cell : X → Cell) (w v : PlainColumnWriter X) (d : ℕ) (x : X)
    (r : Result (Unit {0}) ColumnarError) → RecordsOrRefuses w.column v.column r (posted_after w.column d x)
    → v.is_forced ≡ w.is_forced
    → RecordsOrRefuses (plain_entry t cell w) (plain_entry t cell v) r (recorded_entry (plain_entry t cell w) d t (cell x))
plain-answers t cell w v d x r h forced =
    let same : entry_by t cell w.is_forced false v.column ≡ plain_entry t cell v = λ i. entry_by t cell (sym forced i) false v.column in
    let P : Entry → Type 0 = λ e. RecordsOrRefuses (plain_entry t cell w) e r (recorded_entry (plain_entry t cell w) d t (cell x)) in
    subst P same (entry-answers t cell w.is_forced false w.column v.column d x r h)

-- a text column without values, type or flag has no records
pub text-new : (t : ColumnType) (w : RecordedTexts) → w ≡ record { values = []; is_forced = false; sorts = false }
    → text_entry t w ≡ no_records
text-new t w e = ap (text_entry t) e ∙ (λ i. record { records = none-records t text i; forced = None; sorts = false; tie_start = None })

-- a plain column without values and type has no records
pub plain-new : {X : Type 0} (t : ColumnType) (cell : X → Cell) (w : PlainColumnWriter X) → w.column ≡ []
    → w.is_forced ≡ false → plain_entry t cell w ≡ no_records
plain-new t cell w e f =
    (λ i. entry_by t cell (f i) false (e i))
    ∙ (λ i. record { records = none-records t cell i; forced = None; sorts = false; tie_start = None })
