-- Columns without values, and columns that are open for more.
use Rattle.std.proofs.Common.{◌≡◌, ◌∙◌, ◌<◌, ◌-◌, ◌^◌, ℕ, Bool, true, false, List, [], length, None, Ok, Err, refl, sym, ap, arith}
use Rattle.col_common.specs.declared.error.ColumnarError.{ColumnarError}
use Rattle.col_model.specs.ColumnType.{ColumnType}
use Rattle.col_model.specs.Recording.{is_late, no_records}
use Rattle.col_model.specs.Table.{Cell, text}
use Rattle.col_model.specs.Written.{Entry}
use Rattle.col_model.proofs.RefusalLaws.{same_Ok}
use Rattle.col_types.specs.Kinds.{numerical_kind_of}
use Rattle.col_types.specs.declared.numerical_type.NumericalType.{NumericalType}
use Rattle.col_types.specs.declared.numerical_type.NumericalType.TheVariants as kinds
use Rattle.col_writer_columns.specs.Answers.{RecordsExactly}
use Rattle.col_writer_columns.specs.Columns.{forced_type_of, plain_entry, records_of, text_entry}
use Rattle.col_writer_columns.specs.Entries.{typed_entry}
use Rattle.col_writer_columns.specs.Texts.{RecordedTexts}
use Rattle.col_writer_columns.specs.declared.plain_column_writer.PlainColumnWriter.{PlainColumnWriter}
use Rattle.col_writer_columns.proofs.EntryLemmas.{none-records}
use Rattle.col_csv_import.specs.Columns.{FilledColumn, HasRoom, IsOpen, column_entry}
use Rattle.col_csv_import.proofs.RecordLemmas.{not-late}

-- ---- without values

-- the entry of a column with these values
abbrev entry_by : {X : Type 0} → ColumnType → (X → Cell) → Bool → Bool → List (ℕ × X) → Entry
entry_by t cell forced sorts ps =
    record { records = records_of t cell ps; forced = forced_type_of t forced; sorts = sorts; tie_start = None }

-- an entry without values is that of a column without values
entry-new : {X : Type 0} (t : ColumnType) (cell : X → Cell) (forced sorts : Bool) (ps : List (ℕ × X)) → ps ≡ [] → forced ≡ true
    → sorts ≡ false → entry_by t cell forced sorts ps ≡ column_entry t []
entry-new t cell forced sorts ps none is plain =
    (λ i. entry_by t cell (is i) (plain i) (none i)) ∙ ap (column_entry t) (none-records t cell)

-- texts without values
pub text-new : (t k : ColumnType) (w : RecordedTexts) → k ≡ t → w.values ≡ [] → w.is_forced ≡ true → w.sorts ≡ false
    → (t ≡ k) × (text_entry t w ≡ column_entry k [])
text-new t k w same none is plain =
    (sym same, entry-new t text w.is_forced w.sorts w.values none is plain ∙ ap (λ t. column_entry t []) (sym same))

-- other values
pub plain-new : {X : Type 0} (t k : ColumnType) (cell : X → Cell) (w : PlainColumnWriter X) → k ≡ t → w.column ≡ [] → w.is_forced ≡ true
    → (t ≡ k) × (plain_entry t cell w ≡ column_entry k [])
plain-new t k cell w same none is =
    (sym same, entry-new t cell w.is_forced false w.column none is refl ∙ ap (λ t. column_entry t []) (sym same))

-- a column of numbers without values takes each type
typed-new : (k : NumericalType) → typed_entry no_records (numerical_kind_of k) false ≡ Ok (column_entry (numerical_kind_of k) [])
unfolding typed_entry
typed-new kinds.I64 = refl
typed-new kinds.U64 = refl

-- numbers without values refuse no type
pub numbers-refuse_none : (k : NumericalType) (old new : Entry) (e : ColumnarError) → old ≡ no_records
    → RecordsExactly old new (Err e) (typed_entry old (numerical_kind_of k) false) → ⊥
numbers-refuse_none k old new e none h =
    let (r, is, same) = h.refused in
    absurd (cc (sym is ∙ ap (λ e. typed_entry e (numerical_kind_of k) false) none ∙ typed-new k))

-- numbers of a type
pub numbers-new : (k : NumericalType) (old new : Entry) (done : Unit {0}) → old ≡ no_records
    → RecordsExactly old new (Ok done) (typed_entry old (numerical_kind_of k) false) → new ≡ column_entry (numerical_kind_of k) []
numbers-new k old new done none h =
    same_Ok new (column_entry (numerical_kind_of k) [])
    (sym h.ok ∙ ap (λ e. typed_entry e (numerical_kind_of k) false) none ∙ typed-new k)

-- ---- room

-- a column with room is open
pub room-open : (t : ColumnType) (d : ℕ) (e : Entry) (c : FilledColumn) → e ≡ column_entry t e.records → e.records ≡ c.records
    → d < 2 ^ 32 - 1 → HasRoom d c → IsOpen t d e
room-open t d e c typed same few room = record {
  forced = ap (λ (e : Entry). e.forced) typed;
  in_order = ap (λ rs. is_late rs d) same ∙ not-late d c.records room.before;
  few = let n = ap length same in omega (arith, n, room.few);
}
