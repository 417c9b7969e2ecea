-- The columns of slots are put one after another, and the end of the file behind them.
use Rattle.std.proofs.Common.{◌≡◌, ℕ, ◌<◌, ◌^◌, true, false, List, map, length, Option, Some, None, IfSome, OnOk, Result, Ok, Err, refl, sym, ap, ◌∙◌, subst}
use Rattle.std.specs.Bool.{nat_eq}
use Rattle.std.specs.List.{AllByRecursion}
use Rattle.std.specs.Cmp.Lexicographic.{pointwise}
use Rattle.col_common.specs.Outside.{SeenSink}
use Rattle.col_common.specs.Serializing.{Serializes}
use Rattle.col_common.specs.declared.error.ColumnarError.{ColumnarError}
use Rattle.col_common.specs.declared.error.ColumnarError.TheVariants.{OutOfMemory, BadOrder, BadName, RequiredConflict}
use Rattle.col_model.specs.Category.{Slot}
use Rattle.col_model.specs.File.{Part, PartColumn}
use Rattle.col_model.specs.Keys.{Key}
use Rattle.col_model.specs.Merge.{Required, merged}
use Rattle.col_model.specs.Order.{Order, picks}
use Rattle.col_model.specs.Refusal.{Refusal, each_ok, bad_order, bad_name, required_conflict}
use Rattle.col_model.specs.Spelling.{file_bytes}
use Rattle.col_model.specs.Table.{Column, Content}
use Rattle.col_types.specs.Kinds.{kind_of}
use Rattle.col_types.specs.declared.column_type.ColumnType.{ColumnType}
use Rattle.col_keys.specs.KeyTables.{key_at}
use Rattle.col_keys.specs.Put.{PutColumns, Puts, HavePut, AreKeys, HasColumns}
use Rattle.col_order.specs.Orders.{counts_of, picks_of}
use Rattle.col_file.specs.Readers.{SeenReader, IsRead}
use Rattle.col_merge.specs.Joined.{joined_by, JoinsColumns}
use Rattle.col_merge_slot.specs.JoinedSlots.{IsJoined}
use Rattle.col_merge.specs.Merges.{WritesSlots, MergesFiles}
use Rattle.col_merge.specs.Parts.{told_parts}
use Rattle.col_merge_plan.specs.RequiredTypes.{RequiresTypes}
use Rattle.col_merge_plan.specs.Slots.{counts_read}
use Rattle.col_merge.specs.Turns.{RefusesMerge, IsPutAs, MergesOne, MergedSoFar}
use Rattle.col_merge_plan.proofs.CountLemmas.{alike-same}
use Rattle.col_merge.proofs.EndLemmas.{IsMergeOf, told-each, table-added, table-refused, end-refused}
use Rattle.col_merge.proofs.MergedLemmas.{other-order, merged-bad_order, merged-required}
use Rattle.col_merge.proofs.PartLemmas.{parts-told, counts-told}

-- ---- one slot

joined-put : (n : ℕ) (name : List ℕ) (t : ColumnType) (bytes : List ℕ) (expected : Result (Option Column) Refusal)
    → IsJoined name n (kind_of t) bytes expected → IsPutAs n (Some (key_at name t, bytes)) expected
joined-put n name t bytes expected h =
    let as_part : Option Content → PartColumn = λ o. record { name = name; column_type = kind_of t; content = o } in
    (record { name = name; column_type = kind_of t; content = h.content }, h.is, ap as_part h.read)

told-put : (n : ℕ) (name : List ℕ) (t : ColumnType) (bytes : List ℕ)
    (expected : List Part → Result (Option Column) Refusal) (o : Option (List Part))
    → IfSome o (λ parts. IsJoined name n (kind_of t) bytes (expected parts))
    → IfSome o (λ parts. IsPutAs n (Some (key_at name t, bytes)) (expected parts))
told-put n name t bytes expected None h = tt
told-put n name t bytes expected (Some parts) h = joined-put n name t bytes (expected parts) h

-- a column was put, or refused
pub turn-put : (olds news : List SeenReader) (old new : PutColumns) (a b : SeenSink)
    (r : Result (Unit {0}) ColumnarError) (n : ℕ) (name : List ℕ) (t : ColumnType) (bytes : List ℕ)
    (expected : List Part → Result (Option Column) Refusal) → Puts old new a b r (key_at name t) bytes
    → IfSome (told_parts olds) (λ parts. IsJoined name n (kind_of t) bytes (expected parts))
    → MergesOne olds news old new a b r n expected
turn-put olds news old new a b (Ok done) n name t bytes expected puts told =
    record {
      one = Some (key_at name t, bytes);
      put = puts;
      told = told-put n name t bytes expected (told_parts olds) told;
    }
turn-put olds news old new a b (Err e) n name t bytes expected puts told = end-refused olds news a b e bytes expected puts.written

-- the same, of a column that was joined
pub turn-some : (olds news : List SeenReader) (old new : PutColumns) (a b : SeenSink)
    (r : Result (Unit {0}) ColumnarError) (n : ℕ) (name passed : List ℕ) (t : ColumnType) (bytes : List ℕ)
    (expected : List Part → Result (Option Column) Refusal) (o : Option (ColumnType × List ℕ)) → o ≡ Some (t, bytes)
    → JoinsColumns olds news (Ok o) name n expected → passed ≡ name → Puts old new a b r (key_at passed t) bytes
    → MergesOne olds news old new a b r n expected
turn-some olds news old new a b r n name passed t bytes expected o is joins same puts =
    turn-put olds news old new a b r n name t bytes expected
    (subst (λ name. Puts old new a b r (key_at name t) bytes) same puts)
    (subst (λ o. JoinsColumns olds news (Ok o) name n expected) is joins)

-- ---- the end of the file

pub slots-written : (olds news : List SeenReader) (start mid end : SeenSink) (columns : PutColumns)
    (r : Result (Unit {0}) ColumnarError) (n : ℕ) (expected : List Part → Slot → Result (Option Column) Refusal)
    (slots : List Slot) → MergedSoFar olds start mid columns n expected slots
    → ((start : SeenSink) (ps : List (Key × List ℕ)) → HavePut start mid columns ps
    → Serializes start end r (file_bytes n ps))
    → OnOk r ((start : SeenSink) (ps : List (Key × List ℕ)) → HavePut start mid columns ps
    → AreKeys (map (λ p. p.0) ps) → HasColumns (file_bytes n ps) n ps)
    → WritesSlots olds news start end r n expected slots
slots-written olds news start mid end columns (Ok done) n expected slots was file has =
    record { ps = was.ps; told = was.told; added = (file start was.ps was.put).ok; has = has start was.ps was.put }
slots-written olds news start mid end columns (Err e) n expected slots was file has =
    end-refused olds news start end e (file_bytes n was.ps) (λ parts. each_ok (expected parts) slots)
    (file start was.ps was.put)

-- the same, where so many rows are told
pub slots-ended : (olds news : List SeenReader) (start mid end : SeenSink) (columns : PutColumns)
    (r : Result (Unit {0}) ColumnarError) (m n : ℕ) (expected : List Part → Slot → Result (Option Column) Refusal)
    (slots : List Slot) → m ≡ n → MergedSoFar olds start mid columns n expected slots
    → ((start : SeenSink) (ps : List (Key × List ℕ)) → HavePut start mid columns ps
    → Serializes start end r (file_bytes m ps))
    → OnOk r ((start : SeenSink) (ps : List (Key × List ℕ)) → HavePut start mid columns ps
    → AreKeys (map (λ p. p.0) ps) → HasColumns (file_bytes m ps) m ps)
    → WritesSlots olds news start end r n expected slots
slots-ended olds news start mid end columns r m n expected slots same was file has =
    slots-written olds news start mid end columns r n expected slots was
    (subst (λ m. (start : SeenSink) (ps : List (Key × List ℕ)) → HavePut start mid columns ps
    → Serializes start end r (file_bytes m ps)) same file)
    (subst (λ m. OnOk r ((start : SeenSink) (ps : List (Key × List ℕ)) → HavePut start mid columns ps
    → AreKeys (map (λ p. p.0) ps) → HasColumns (file_bytes m ps) m ps)) same has)

-- ---- the whole

-- the order is another one's
pub order-refused : (rs : List SeenReader) (order : Order) (required : List Required) (a b : SeenSink)
    → AllByRecursion IsRead rs → pointwise nat_eq (counts_of order) (counts_read rs) ≡ false
    → RefusesMerge rs rs a b BadOrder (λ parts. merged parts required order)
order-refused rs order required a b read other = record {
  refusal = bad_order;
  is = refl;
  told =
      told-each rs (λ parts t. merged-bad_order parts required order (
      ap (picks order) (counts-told rs parts (parts-told rs parts read t))
      ∙ other-order order (counts_of order) (counts_read rs) other refl));
}

-- an order of the readers' row counts picks its rows
pub order-picks : (rs : List SeenReader) (order : Order)
    → pointwise nat_eq (counts_of order) (counts_read rs) ≡ true
    → picks order (counts_of order) ≡ Some (picks_of order) → picks order (counts_read rs) ≡ Some (picks_of order)
order-picks rs order same p = ap (picks order) (sym (alike-same (counts_of order) (counts_read rs) same)) ∙ p

-- the required columns are refused
pub types-refused :
    (rs news : List SeenReader) (order : Order) (required : List Required) (a b : SeenSink) (e : ColumnarError)
    → AllByRecursion IsRead rs → picks order (counts_read rs) ≡ Some (picks_of order)
    → length (picks_of order) < 2 ^ 32 → RequiresTypes (Err e) required
    → RefusesMerge rs news a b e (λ parts. merged parts required order)
types-refused rs news order required a b OutOfMemory read p few h = tt
types-refused rs news order required a b BadName read p few h =
    record {
      refusal = bad_name;
      is = refl;
      told = told-each rs (λ parts t. merged-required parts required order
          (picks_of order) (ap (picks order) (counts-told rs parts (parts-told rs parts read t)) ∙ p) few bad_name h);
    }
types-refused rs news order required a b RequiredConflict read p few h =
    record {
      refusal = required_conflict;
      is = refl;
      told = told-each rs (λ parts t. merged-required parts required
          order (picks_of order) (ap (picks order) (counts-told rs parts (parts-told rs parts read t)) ∙ p) few
          required_conflict h);
    }
types-refused rs news order required a b e read p few h = absurd h

-- the slots are written
pub files-merged : (rs news : List SeenReader) (order : Order) (required : List Required) (a b : SeenSink)
    (r : Result (Unit {0}) ColumnarError) (slots : List Slot)
    → IsMergeOf rs required order (length (picks_of order)) slots
    → WritesSlots rs news a b r (length (picks_of order)) (joined_by order required) slots
    → MergesFiles rs news a b r (λ parts. merged parts required order)
files-merged rs news order required a b (Ok done) slots is h = table-added rs required order (length (picks_of order)) slots is a b h
files-merged rs news order required a b (Err e) slots is h = table-refused rs required order (length (picks_of order)) slots is news a b e h
