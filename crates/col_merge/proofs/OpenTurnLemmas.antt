-- Columns that are opened reader by reader.
use Rattle.std.proofs.Common.{◌≡◌, ◌⊎◌, inl, inr, ℕ, zero, suc, ◌+◌, true, List, [], ◌∷◌, ◌++◌, length, take, slice_index, Option, Some, None, IfSome, option_map, slice_get, Result, Ok, Err, refl, sym, ap, ◌∙◌, subst, arith, add-one}
use Rattle.std.specs.Prelude.{slice_index_or}
use Rattle.std.specs.List.{AllZip}
use Rattle.std.proofs.Math.ListN.{set}
use Rattle.col_common.specs.Reading.{◌>>=◌}
use Rattle.col_common.specs.Outside.{SeenSink, in_memory}
use Rattle.col_common.specs.declared.error.ColumnarError.{ColumnarError}
use Rattle.col_common.specs.declared.error.ColumnarError.TheVariants.{OutOfMemory, ReadFault, WriteFault, InvalidData, BadOrder, BadName, RequiredConflict, CannotCoerce, NumericalConflict, TooLarge, NoCodec, ForcedType, DocOrder, DocOutOfRange, TieBreakerStart, NotUtf8}
use Rattle.col_model.specs.Category.{Slot}
use Rattle.col_model.specs.File.{Part}
use Rattle.col_model.specs.Merge.{Required, column_in, has_bad_column, joined_column}
use Rattle.col_model.specs.Order.{Order}
use Rattle.col_model.specs.Refusal.{Refusal, invalid_data, cannot_coerce, numerical_conflict, too_large}
use Rattle.col_model.specs.Table.{Column}
use Rattle.col_model.proofs.DecodedNumbers.{step-of}
use Rattle.col_model.proofs.SharedTypes.{some≢none, same-some}
use Rattle.col_types.specs.declared.column_type.ColumnType.{ColumnType}
use Rattle.col_column.specs.Columns.{row_count}
use Rattle.col_dynamic.specs.Dynamic.{dynamic_shape, value_count}
use Rattle.col_dynamic.specs.declared.dynamic_column.DynamicColumn.{DynamicColumn}
use Rattle.col_file.specs.Readers.{SeenReader}
use Rattle.col_merge.specs.Joined.{joined_by, StandsAs, HasJoinCause, JoinsBytes, JoinsColumns}
use Rattle.col_merge_slot.specs.JoinedSlots.{part_seen, AreOpened, HasSlotCause, IsSlotRefusal}
use Rattle.col_merge_slot.specs.Segments.{HaveRows}
use Rattle.col_merge.specs.Opened.{IsOpenedAs, AllOpenedAs, is_bad, RefusesColumn, RefusesColumns}
use Rattle.col_merge.specs.Parts.{told_part, told_parts}
use Rattle.col_merge_plan.specs.Slots.{counts_read}
use Rattle.col_merge.specs.Turns.{refusal_of, RefusesMerge}
use Rattle.col_merge_plan.proofs.CountLemmas.{length-counts}
use Rattle.col_merge.proofs.PartLemmas.{some-part}
use Rattle.col_merge.proofs.ReadingLemmas.{rose-set}

-- one more pair
zip-more : {A B : Type 0} (R : A → B → Type 0) (xs : List A) (i j : ℕ) (x : A) (ys : List B) (y : B) → j ≡ suc i
    → slice_get xs i ≡ Some x → AllZip R (take i xs) ys → R x y → AllZip R (take j xs) (ys ++ y ∷ [])
zip-more R [] i j x ys y n e all h = absurd (some≢none x (sym e))
zip-more R (z ∷ xs) zero j x [] y n e all h = rw n (subst (λ x. R x y) (sym (same-some z x e)) h, tt)
zip-more R (z ∷ xs) zero j x (w ∷ ys) y n e all h = absurd all
zip-more R (z ∷ xs) (suc i) j x [] y n e all h = absurd all
zip-more R (z ∷ xs) (suc i) j x (w ∷ ys) y n e all h = rw n (all.0, zip-more R xs i (suc i) x ys y refl e all.1 h)

-- lists that go together are of one length
pub zip-length : {A B : Type 0} (R : A → B → Type 0) (xs : List A) (ys : List B) → AllZip R xs ys → length xs ≡ length ys
zip-length R [] [] all = refl
zip-length R [] (y ∷ ys) all = absurd all
zip-length R (x ∷ xs) [] all = absurd all
zip-length R (x ∷ xs) (y ∷ ys) all = ap suc (zip-length R xs ys all.1)

-- one more column
pub opened-more : (s : Slot) (olds : List SeenReader) (at : ℕ) (now : SeenReader)
    (columns : List (Option DynamicColumn)) (o : Option DynamicColumn) → slice_get olds at ≡ Some now
    → AllOpenedAs s (take at olds) columns → IsOpenedAs s now o
    → AllOpenedAs s (take (at + 1) olds) (columns ++ o ∷ [])
opened-more s olds at now columns o was all h = zip-more (IsOpenedAs s) olds at (at + 1) now columns o (add-one at) was all h

-- the column of a reader that wasn't opened
pub opened-stops : (s : Slot) (olds mids : List SeenReader) (at : ℕ) (now new : SeenReader) (e : ColumnarError)
    → slice_get olds at ≡ Some now → slice_get mids at ≡ Some now → RefusesColumn s now new e
    → RefusesColumns s olds (set mids at new) e
opened-stops s olds mids at now new OutOfMemory was is h = tt
opened-stops s olds mids at now new ReadFault was is h = rose-set olds mids at now new was is h
opened-stops s olds mids at now new InvalidData was is h = by (told_parts olds) refl
  where
    by : (o : Option (List Part)) → told_parts olds ≡ o → IfSome o (λ parts. has_bad_column s parts ≡ true)
    by None e = tt
    by (Some parts) e = some-part olds parts (is_bad s) at now e was h
opened-stops s olds mids at now new e was is h = absurd h

-- ---- all columns of a slot

rows-at : (s : Slot) (rs : List SeenReader) (columns : List (Option DynamicColumn)) (k : ℕ) (c : DynamicColumn)
    → AllOpenedAs s rs columns → slice_get columns k ≡ Some (Some c)
    → row_count (dynamic_shape c) (value_count c) ≡ slice_index (counts_read rs) k
rows-at s [] [] k c all e = absurd (some≢none (Some c) (sym e))
rows-at s [] (o ∷ os) k c all e = absurd all
rows-at s (r ∷ rs) [] k c all e = absurd all
rows-at s (r ∷ rs) (o ∷ os) zero c all e =
    subst (λ o. IfSome o (λ c. row_count (dynamic_shape c) (value_count c) ≡ r.keys.row_count))
    (same-some o (Some c) e) all.0.rows
rows-at s (r ∷ rs) (o ∷ os) (suc k) c all e = rows-at s rs os k c all.1 e

-- columns that were opened have as many rows as the readers tell
pub opened-rows : (s : Slot) (rs : List SeenReader) (columns : List (Option DynamicColumn)) (counts : List ℕ)
    → counts_read rs ≡ counts → AllOpenedAs s rs columns → HaveRows counts columns
opened-rows s rs columns counts same all = subst (λ counts. HaveRows counts columns) same record {
  segments = sym (zip-length (IsOpenedAs s) rs columns all) ∙ sym (length-counts rs);
  rows = λ k c e. rows-at s rs columns k c all e;
}

-- a part's column is the one that was opened
pub column-at :
    (s : Slot) (rs : List SeenReader) (parts : List Part) (columns : List (Option DynamicColumn)) (k : ℕ) (p : Part)
    → told_parts rs ≡ Some parts → AllOpenedAs s rs columns → slice_get parts k ≡ Some p
    → column_in s p ≡ option_map (part_seen s.name) (slice_index_or columns k None)
column-at s [] parts [] k p t all e = absurd (some≢none p (sym (ap (λ parts. slice_get parts k) (same-some [] parts t) ∙ e)))
column-at s [] parts (o ∷ os) k p t all e = absurd all
column-at s (r ∷ rs) parts [] k p t all e = absurd all
column-at s (r ∷ rs) parts (o ∷ os) k p t all e =
    let a = step-of (told_part r) (λ y. told_parts rs >>= λ ys. Some (y ∷ ys)) parts t in
    let b = step-of (told_parts rs) (λ ys. Some (a.x ∷ ys)) parts a.rest in
    by k a.x b.x a.first (λ k e. column-at s rs b.x os k p b.first all.1 e)
    (ap (λ parts. slice_get parts k) (same-some (a.x ∷ b.x) parts b.rest) ∙ e)
  where
    by : (k : ℕ) (q : Part) (qs : List Part) → told_part r ≡ Some q
        → ((k : ℕ) → slice_get qs k ≡ Some p
        → column_in s p ≡ option_map (part_seen s.name) (slice_index_or os k None)) → slice_get (q ∷ qs) k ≡ Some p
        → column_in s p ≡ option_map (part_seen s.name) (slice_index_or (o ∷ os) k None)
    by zero q qs f later e = subst (λ t. IfSome t (λ p. column_in s p ≡ option_map (part_seen s.name) o)) (f ∙ e) all.0.column
    by (suc k) q qs f later e = later k e

-- ---- the joined column

-- a slot with a bad column is refused
bad-refused : (order : Order) (required : List Required) (parts : List Part) (s : Slot)
    → has_bad_column s parts ≡ true → joined_by order required parts s ≡ Err invalid_data
unfolding joined_column
bad-refused order required parts s e = rw e refl

-- a refusal to open the columns of a slot is one of the merge
pub open-refused : (order : Order) (required : List Required) (s : Slot) (olds news : List SeenReader)
    (e : ColumnarError) (a b : SeenSink) → RefusesColumns s olds news e
    → RefusesMerge olds news a b e (λ parts. joined_by order required parts s)
open-refused order required s olds news OutOfMemory a b h = tt
open-refused order required s olds news ReadFault a b h = h
open-refused order required s olds news InvalidData a b h = record { refusal = invalid_data; is = refl; told = by (told_parts olds) h }
  where
    by : (o : Option (List Part)) → IfSome o (λ parts. has_bad_column s parts ≡ true)
        → IfSome o (λ parts. joined_by order required parts s ≡ Err invalid_data)
    by None h = tt
    by (Some parts) h = bad-refused order required parts s h
open-refused order required s olds news e a b h = absurd h

none-stands : (refusal : Refusal) → ◌≡◌ {A = Option Refusal} None (Some refusal) → ⊥
none-stands refusal e = some≢none refusal (sym e)

-- an answer that stands for a refusal is none of the outside
answer-refused : {A : Type 0} (olds news : List SeenReader) (a b : SeenSink) (e : ColumnarError)
    (expected : List Part → Result A Refusal) (refusal : Refusal) → StandsAs e refusal
    → IfSome (told_parts olds) (λ parts. expected parts ≡ Err refusal) → RefusesMerge olds news a b e expected
answer-refused olds news a b OutOfMemory expected refusal is told = tt
answer-refused olds news a b ReadFault expected refusal is told = absurd (none-stands refusal is)
answer-refused olds news a b WriteFault expected refusal is told = absurd (none-stands refusal is)
answer-refused olds news a b InvalidData expected refusal is told = record { refusal = refusal; is = is; told = told }
answer-refused olds news a b BadOrder expected refusal is told = record { refusal = refusal; is = is; told = told }
answer-refused olds news a b BadName expected refusal is told = record { refusal = refusal; is = is; told = told }
answer-refused olds news a b RequiredConflict expected refusal is told = record { refusal = refusal; is = is; told = told }
answer-refused olds news a b CannotCoerce expected refusal is told = record { refusal = refusal; is = is; told = told }
answer-refused olds news a b NumericalConflict expected refusal is told = record { refusal = refusal; is = is; told = told }
answer-refused olds news a b TooLarge expected refusal is told = record { refusal = refusal; is = is; told = told }
answer-refused olds news a b NoCodec expected refusal is told = absurd (none-stands refusal is)
answer-refused olds news a b ForcedType expected refusal is told = absurd (none-stands refusal is)
answer-refused olds news a b DocOrder expected refusal is told = absurd (none-stands refusal is)
answer-refused olds news a b DocOutOfRange expected refusal is told = absurd (none-stands refusal is)
answer-refused olds news a b TieBreakerStart expected refusal is told = absurd (none-stands refusal is)
answer-refused olds news a b NotUtf8 expected refusal is told = absurd (none-stands refusal is)

pub memory-refused : {A : Type 0} (olds news : List SeenReader) (a b : SeenSink) (e : ColumnarError)
    (expected : List Part → Result A Refusal) → e ≡ OutOfMemory → RefusesMerge olds news a b e expected
memory-refused olds news a b e expected h = subst (λ e. RefusesMerge olds news a b e expected) (sym h) tt

-- where the parts are told, a step's answer is what is expected of them
module _ (olds news : List SeenReader) (name : List ℕ) (n : ℕ) (expected : List Part → Result (Option Column) Refusal) where
  joins-err : (e : ColumnarError) (o : Option (List Part)) → told_parts olds ≡ o
      → ((e ≡ OutOfMemory) ⊎ ((refusal : Refusal) × StandsAs e refusal))
      → ((parts : List Part) → told_parts olds ≡ Some parts → JoinsBytes (Err e) name n (expected parts))
      → (a b : SeenSink) → RefusesMerge olds news a b e expected
  joins-err e o t (inl h) joins a b = memory-refused olds news a b e expected h
  joins-err e None t (inr h) joins a b =
      answer-refused olds news a b e expected h.0 h.1
      (subst (λ o. IfSome o (λ parts. expected parts ≡ Err h.0)) (sym t) tt)
  joins-err e (Some parts) t (inr h) joins a b = by (joins parts t)
    where
      by : JoinsBytes (Err e) name n (expected parts) → RefusesMerge olds news a b e expected
      by (inl m) = memory-refused olds news a b e expected m
      by (inr k) = answer-refused olds news a b e expected k.0 k.1 (subst (λ o. IfSome o (λ parts. expected parts ≡ Err k.0)) (sym t) k.2)

  told-by : {P : List Part → Type 0} → ((parts : List Part) → told_parts olds ≡ Some parts → P parts)
      → (o : Option (List Part)) → told_parts olds ≡ o → IfSome o P
  told-by f None t = tt
  told-by f (Some parts) t = f parts t

  -- what is joined of columns is what is expected of the parts that the readers tell
  pub joins-columns : (r : Result (Option (ColumnType × List ℕ)) ColumnarError) → HasJoinCause r
      → ((parts : List Part) → told_parts olds ≡ Some parts → JoinsBytes r name n (expected parts))
      → JoinsColumns olds news r name n expected
  joins-columns (Ok None) cause joins = told-by joins (told_parts olds) refl
  joins-columns (Ok (Some p)) cause joins = told-by joins (told_parts olds) refl
  joins-columns (Err e) cause joins = λ a b. joins-err e (told_parts olds) refl cause joins a b

-- the opened columns are those of the parts
pub are-opened : (s : Slot) (rs : List SeenReader) (parts : List Part) (columns : List (Option DynamicColumn))
    → told_parts rs ≡ Some parts → AllOpenedAs s rs columns → AreOpened s parts columns
are-opened s rs parts columns t all = record { each = λ k p e. column-at s rs parts columns k p t all e }

-- ---- a column that was joined into memory

-- the refusal of a slot is none of the outside, where the sink is in memory
pub slot-cause : {A : Type 0} (old new : List ℕ) (e : ColumnarError)
    → HasSlotCause {A = A} (in_memory old) (in_memory new) (Err e)
    → (e ≡ OutOfMemory) ⊎ ((refusal : Refusal) × StandsAs e refusal)
slot-cause old new e h = by h.causes
  where
    by : IsSlotRefusal e → (e ≡ OutOfMemory) ⊎ ((refusal : Refusal) × StandsAs e refusal)
    by (inl m) = inl m
    by (inr (inl w)) = absurd (omega (arith, h.write_fault (ap Err w)))
    by (inr (inr (inl c))) = inr (cannot_coerce, ap refusal_of c)
    by (inr (inr (inr (inl c)))) = inr (numerical_conflict, ap refusal_of c)
    by (inr (inr (inr (inr c)))) = inr (too_large, ap refusal_of c)
