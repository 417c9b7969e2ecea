-- What a merge into memory makes of readers.
use Rattle.std.proofs.Common.{◌≡◌, ◌⊎◌, ℕ, List, [], ◌++◌, Option, Some, Result, Ok, Err, IfSome, inl, inr, refl, sym, ap, ◌∙◌, subst, arith}
use Rattle.std.proofs.lemmas.Option.{same_Some}
use Rattle.col_common.specs.Causes.{Rose}
use Rattle.col_common.specs.Outside.{in_memory}
use Rattle.col_common.specs.declared.error.ColumnarError.{ColumnarError}
use Rattle.col_common.specs.declared.error.ColumnarError.TheVariants.{OutOfMemory, ReadFault, WriteFault, InvalidData, BadOrder, BadName, RequiredConflict, CannotCoerce, NumericalConflict, TooLarge, NoCodec, ForcedType, DocOrder, DocOutOfRange, TieBreakerStart, NotUtf8}
use Rattle.col_file.specs.Readers.{SeenReader}
use Rattle.col_merge.specs.Merges.{MergesFiles, AddsTable}
use Rattle.col_merge.specs.Parts.{told_parts}
use Rattle.col_merge.specs.Readings.{AllRead, SomeReaderRose}
use Rattle.col_merge.specs.Turns.{RefusesMerge, RefusesParts, refusal_of}
use Rattle.col_model.specs.File.{Part, StandsFor}
use Rattle.col_model.specs.Keys.{FileKeys}
use Rattle.col_model.specs.Refusal.{Refusal}
use Rattle.col_model.specs.Table.{Table}
use Rattle.col_writer_columns.specs.Answers.{answer_of}
use Rattle.col_common.proofs.OnOkLemmas.{same-error}
use Rattle.col_outcome.specs.Making.{MakesIfRead, MergesReaders}

-- what is known of told parts is known of these
pub on_parts : (o : Option (List Part)) (parts : List Part) (P : List Part → Type 0) → o ≡ Some parts → IfSome o P → P parts
on_parts o parts P told h = rw told at h

-- a refusal stands for its answer
pub answer-is : (e : ColumnarError) (r : Refusal) → refusal_of e ≡ Some r → e ≡ answer_of r
answer-is OutOfMemory r h = cc
answer-is ReadFault r h = cc
answer-is WriteFault r h = cc
answer-is InvalidData r h = ap answer_of (same_Some _ r h)
answer-is BadOrder r h = ap answer_of (same_Some _ r h)
answer-is BadName r h = ap answer_of (same_Some _ r h)
answer-is RequiredConflict r h = ap answer_of (same_Some _ r h)
answer-is CannotCoerce r h = ap answer_of (same_Some _ r h)
answer-is NumericalConflict r h = ap answer_of (same_Some _ r h)
answer-is TooLarge r h = ap answer_of (same_Some _ r h)
answer-is NoCodec r h = cc
answer-is ForcedType r h = cc
answer-is DocOrder r h = cc
answer-is DocOutOfRange r h = cc
answer-is TieBreakerStart r h = cc
answer-is NotUtf8 r h = cc

-- nothing in memory fails
pub unfaulted : Rose 0 0 → ⊥
unfaulted h = omega (arith, h)

-- why a merge into memory refuses
abbrev pub HasCause : {A : Type 0} → List SeenReader → List SeenReader → ColumnarError → (List Part → Result A Refusal) → Type 0
HasCause olds news e expected = (e ≡ OutOfMemory) ⊎ (((e ≡ ReadFault) × SomeReaderRose olds news) ⊎ RefusesParts olds e expected)

cause : {A : Type 0} (olds news : List SeenReader) (xs ys : List ℕ) (e : ColumnarError)
    (expected : List Part → Result A Refusal) → RefusesMerge olds news (in_memory xs) (in_memory ys) e expected
    → HasCause olds news e expected
cause olds news xs ys OutOfMemory expected h = inl refl
cause olds news xs ys ReadFault expected h = inr (inl (refl, h))
cause olds news xs ys WriteFault expected h = absurd (unfaulted h)
cause olds news xs ys InvalidData expected h = inr (inr h)
cause olds news xs ys BadOrder expected h = inr (inr h)
cause olds news xs ys BadName expected h = inr (inr h)
cause olds news xs ys RequiredConflict expected h = inr (inr h)
cause olds news xs ys CannotCoerce expected h = inr (inr h)
cause olds news xs ys NumericalConflict expected h = inr (inr h)
cause olds news xs ys TooLarge expected h = inr (inr h)
cause olds news xs ys NoCodec expected h = inr (inr h)
cause olds news xs ys ForcedType expected h = inr (inr h)
cause olds news xs ys DocOrder expected h = inr (inr h)
cause olds news xs ys DocOutOfRange expected h = inr (inr h)
cause olds news xs ys TieBreakerStart expected h = inr (inr h)
cause olds news xs ys NotUtf8 expected h = inr (inr h)

-- a refusal that stands for one of the definitions is no failed read
pub parts-no_fault : {A : Type 0} (olds : List SeenReader) (e : ColumnarError) (expected : List Part → Result A Refusal)
    → RefusesParts olds e expected → e ≡ ReadFault → ⊥
parts-no_fault olds e expected h fault = by (sym (ap refusal_of fault) ∙ h.is)
  where
    by : refusal_of ReadFault ≡ Some h.refusal → ⊥
    by s = cc

-- want of memory
pub readers-memory : {A B : Type 0} (IsOf : A → B → Type 0) (times : FileKeys → ℕ) (olds news : List SeenReader)
    (e : ColumnarError) (expected : List Part → Result A Refusal) → e ≡ OutOfMemory → AllRead times olds news
    → MergesReaders IsOf times olds news (Err e) expected
readers-memory IsOf times olds news e expected memory stay = record {
  made = λ parts told. record { ok = tt; refused = inr (inl memory) };
  known = inl memory;
  read_fault = λ fault. absurd (by (sym memory ∙ same-error e ReadFault fault));
  stay = stay;
}
  where
    by : OutOfMemory ≡ ReadFault → ⊥
    by s = cc

-- a merge that refuses
pub readers-refused : {A B : Type 0} (IsOf : A → B → Type 0) (times : FileKeys → ℕ) (olds news : List SeenReader)
    (xs ys : List ℕ) (e : ColumnarError) (expected : List Part → Result A Refusal)
    → RefusesMerge olds news (in_memory xs) (in_memory ys) e expected → AllRead times olds news
    → MergesReaders IsOf times olds news (Err e) expected
readers-refused {A = A} {B = B} IsOf times olds news xs ys e expected h stay = by (cause olds news xs ys e expected h)
  where
    by : HasCause olds news e expected → MergesReaders {A = A} {B = B} IsOf times olds news (Err e) expected
    by (inl memory) = readers-memory IsOf times olds news e expected memory stay
    by (inr (inl fault)) = record {
      made = λ parts told. record { ok = tt; refused = inl fault.0 };
      known = inr (inl fault.0);
      read_fault = λ at. fault.1;
      stay = stay;
    }
    by (inr (inr p)) = record {
      made =
          λ parts told. record {
            ok = tt;
            refused = inr (inr (
              p.refusal,
              on_parts (told_parts olds) parts (λ ps. expected ps ≡ Err p.refusal) told p.told,
              answer-is e p.refusal p.is,
            ));
          };
      known = inr (inr (p.refusal, p.is));
      read_fault = λ at. absurd (parts-no_fault olds e expected p (same-error e ReadFault at));
      stay = stay;
    }

-- the bytes that a merge wrote are the file
pub readers-made : (times : FileKeys → ℕ) (olds news : List SeenReader) (xs ys bytes : List ℕ) (done : Unit {0})
    (expected : List Part → Result Table Refusal) → xs ≡ [] → bytes ≡ ys
    → MergesFiles olds news (in_memory xs) (in_memory ys) (Ok done) expected → AllRead times olds news
    → MergesReaders StandsFor times olds news (Ok bytes) expected
readers-made times olds news xs ys bytes done expected none same h stay = record {
  made = λ parts told. by parts (on_parts (told_parts olds) parts (λ ps. AddsTable (in_memory xs) (in_memory ys) (expected ps)) told h);
  known = tt;
  read_fault = λ e. cc;
  stay = stay;
}
  where
    by : (parts : List Part) → AddsTable (in_memory xs) (in_memory ys) (expected parts) → MakesIfRead StandsFor (Ok bytes) (expected parts)
    by parts adds = record {
      ok = (
        adds.table,
        adds.is,
        subst (StandsFor adds.table)
            (sym (same ∙ same_Some ys (xs ++ adds.file) adds.added ∙ ap (λ zs. zs ++ adds.file) none)) adds.stands,
      );
      refused = tt;
    }
