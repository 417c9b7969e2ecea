-- Values that are recorded.
use Rattle.std.proofs.Common.{◌≡◌, ◌∙◌, ◌-◌, ◌^◌, ◌&&◌, ℤ, to_z, of_z, w64, ℕ, Bool, true, false, List, length, bytes_eq, Some, Ok, Err, refl, sym, ap, subst, arith, inl, inr}
use Rattle.std.specs.Prelude.{nat_le, option_map, Result}
use Rattle.std.specs.Str.Parse.{signed_digits_value}
use Rattle.std.proofs.lemmas.Bool.{lt-leb}
use Rattle.std.proofs.lemmas.Bool.Decides.{nat_tests}
use Rattle.std.proofs.lemmas.Int.{ints}
use Rattle.std.proofs.lemmas.Option.{same_Some}
use Rattle.col_common.specs.declared.error.ColumnarError.{ColumnarError}
use Rattle.col_common.specs.declared.error.ColumnarError.TheVariants as store
use Rattle.col_common.specs.Reading.{only_if}
use Rattle.col_model.specs.ColumnType.{ColumnType}
use Rattle.col_model.specs.ColumnType as types
use Rattle.col_model.specs.Limits.{is_of_type}
use Rattle.col_model.specs.Recording.{forces_other, is_late}
use Rattle.col_model.specs.Refusal.{Refusal, ◌>>=◌, refuse_if, forced_type, doc_order, too_large}
use Rattle.col_model.specs.Table.{Cell}
use Rattle.col_model.specs.Table as cells
use Rattle.col_model.specs.Written.{Entry}
use Rattle.col_model.proofs.OrderingLaws.{bytes_eq-same}
use Rattle.col_model.proofs.RefusalLaws.{same_Ok}
use Rattle.col_writer_columns.specs.Answers.{MayRefuse, RecordsOrRefuses}
use Rattle.col_writer_columns.specs.Entries.{recorded_entry}
use Rattle.col_writer_columns.proofs.EntryLemmas.{own_type}
use Rattle.col_csv.specs.Csv.{value_text}
use Rattle.col_csv.specs.CsvTable.{value_of_text}
use Rattle.col_csv.specs.Refused.{refusal_of}
use Rattle.col_csv.specs.declared.csv_error.CsvError.{CsvError}
use Rattle.col_csv_import.specs.Columns.{IsOpen, TakesText, with_value}

-- an entry that is open refuses nothing of its type
recorded-open : (t : ColumnType) (d : ℕ) (e : Entry) (cell : Cell) → IsOpen t d e → recorded_entry e d t cell ≡ Ok (with_value t d e cell)
unfolding recorded_entry
recorded-open t d e cell h =
    let last : Bool → Result Entry Refusal = λ b. refuse_if b too_large >>= λ _. Ok (with_value t d e cell) in
    let order : Bool → Result Entry Refusal =
    λ b. refuse_if b doc_order >>= λ _. last (nat_le (2 ^ 32 - 1) (length e.records)) in
    let typed : Bool → Result Entry Refusal = λ b. refuse_if b forced_type >>= λ _. order (is_late e.records d) in
    ap typed (ap (λ o. forces_other o t) h.forced ∙ own_type t true) ∙ ap order h.in_order
    ∙ ap last (lt-leb (2 ^ 32 - 1) (length e.records) h.few)

-- a value that was recorded
pub value-taken : (t : ColumnType) (d : ℕ) (old new : Entry) (s : List ℕ) (cell : Cell) (done : Unit {0}) → IsOpen t d old
    → value_of_text t s ≡ Some cell → RecordsOrRefuses old new (Ok done) (recorded_entry old d t cell)
    → TakesText t d old new (Ok tt) s
value-taken t d old new s cell done free is h = record {
  made = ap (option_map (with_value t d old)) is
      ∙ ap Some (same_Ok _ _ (sym (recorded-open t d old cell free) ∙ h.ok));
  kept = tt;
}

-- a value that wasn't
pub value-refused : (t : ColumnType) (d : ℕ) (old new : Entry) (s : List ℕ) (cell : Cell) (e : ColumnarError) (r : CsvError)
    → r ≡ refusal_of e → IsOpen t d old → RecordsOrRefuses old new (Err e) (recorded_entry old d t cell)
    → TakesText t d old new (Err r) s
value-refused t d old new s cell e r is free h =
    subst (λ r. TakesText t d old new (Err r) s) (sym (is ∙ ap refusal_of (out h.refused)))
    (record { made = tt; kept = h.kept })
  where
    out : MayRefuse (recorded_entry old d t cell) e → e ≡ store.OutOfMemory
    out m = elim m [ inl same ↦ same | inr other ↦ absurd (cc (sym other.1 ∙ recorded-open t d old cell free)) ]

-- a text is a value of its own
pub text-spelled : (s : List ℕ) → value_of_text types.str s ≡ Some (cells.text s)
text-spelled s = ap (λ b. only_if b (cells.text s)) (bytes_eq-same s)

-- ---- signed numbers

-- a number of 64 bits stays what it is
still : (z : ℤ) → is_of_type types.i64 (cells.number z) ≡ true → to_z w64 (of_z w64 z) ≡ z
still z h = grind (arith, ints, nat_tests)

-- a number that passes both tests is one of 64 bits
of-type : (z : ℤ) (s : List ℕ) (c : Cell)
    → only_if (is_of_type types.i64 c && bytes_eq (value_text types.i64 c) s) c ≡ Some (cells.number z)
    → is_of_type types.i64 (cells.number z) ≡ true
of-type z s c e = by (is_of_type types.i64 c) (bytes_eq (value_text types.i64 c) s) refl e
  where
    by : (a b : Bool) → is_of_type types.i64 c ≡ a → only_if (a && b) c ≡ Some (cells.number z)
        → is_of_type types.i64 (cells.number z) ≡ true
    by true true is e = subst (λ c. is_of_type types.i64 c ≡ true) (same_Some c (cells.number z) e) is
    by true false is e = absurd (cc e)
    by false b is e = absurd (cc e)

-- a number that a text spells is one of 64 bits
pub signed-still : (s : List ℕ) (z : ℤ) → Some (cells.number z) ≡ value_of_text types.i64 s → to_z w64 (of_z w64 z) ≡ z
signed-still s z e = still z (of-type z s (cells.number (signed_digits_value 10 s)) (sym e))

-- what is spelled, of a number as it is passed on
pub signed-spelled : (s : List ℕ) (z v : ℤ) → Some (cells.number z) ≡ value_of_text types.i64 s → v ≡ to_z w64 (of_z w64 z)
    → value_of_text types.i64 s ≡ Some (cells.number v)
signed-spelled s z v e is = sym e ∙ ap (λ z. Some (cells.number z)) (sym (is ∙ signed-still s z e))

-- the same of a point in time
pub time-spelled : (s : List ℕ) (z v : ℤ) → Some (cells.number z) ≡ value_of_text types.i64 s
    → Some (cells.number z) ≡ value_of_text types.datetime s → v ≡ to_z w64 (of_z w64 z)
    → value_of_text types.datetime s ≡ Some (cells.number v)
time-spelled s z v e f is = sym f ∙ ap (λ z. Some (cells.number z)) (sym (is ∙ signed-still s z e))

-- bytes that a text spells
pub bytes-spelled : (s bytes own : List ℕ) (found : Bool) → value_of_text types.bytes s ≡ only_if found (cells.text bytes)
    → found ≡ true → own ≡ bytes → value_of_text types.bytes s ≡ Some (cells.text own)
bytes-spelled s bytes own found e is same =
    e ∙ ap (λ b. only_if b (cells.text bytes)) is ∙ ap (λ bs. Some (cells.text bs)) (sym same)
