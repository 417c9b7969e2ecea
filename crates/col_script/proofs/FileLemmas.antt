-- The file of a segment.
use Rattle.std.proofs.Common.{◌≡◌, ◌⊎◌, ℕ, List, [], ◌++◌, Vec, Result, Ok, Err, inl, inr, refl, sym, ap, ◌∙◌, subst, arith}
use Rattle.std.specs.declared.alloc.Global.{Global}
use Rattle.col_common.specs.Causes.{Rose}
use Rattle.col_common.specs.Outside.{in_memory}
use Rattle.col_common.specs.declared.error.ColumnarError.{ColumnarError}
use Rattle.col_common.specs.declared.error.ColumnarError.TheVariants.{OutOfMemory, WriteFault}
use Rattle.col_common.proofs.OnOkLemmas.{same-error}
use Rattle.col_common.proofs.SerializingLemmas.{added_in_memory}
use Rattle.col_model.specs.File.{StandsFor}
use Rattle.col_model.specs.Refusal.{Refusal}
use Rattle.col_model.specs.Table.{Table}
use Rattle.col_script.specs.Files.{MakesFile}
use Rattle.col_writer_columns.specs.Answers.{answer_of}
use Rattle.col_writer_file.specs.Tables.{WritesTable, WritesFile}

-- bytes that were written are the file
pub bytes-made : (made : Vec ℕ Global) (expected : Result Table Refusal) (xs ys : List ℕ) (done : Unit {0}) → xs ≡ []
    → made.items ≡ ys → WritesTable (in_memory xs) (in_memory ys) (Ok done) expected → MakesFile (Ok made) expected
bytes-made made (Ok t) xs ys done none same h =
    let f = h.table t refl in
    let added : ys ≡ xs ++ f.file = added_in_memory xs ys f.file done f.written in
    record { ok = (t, refl, subst (StandsFor t) (sym (same ∙ added ∙ ap (λ zs. zs ++ f.file) none)) f.stands); refused = tt }
bytes-made made (Err r) xs ys done none same h = by (h.refusal r refl).refused
  where
    by : (◌≡◌ {A = Result (Unit {0}) ColumnarError} (Ok done) (Err (answer_of r)))
        ⊎ (◌≡◌ {A = Result (Unit {0}) ColumnarError} (Ok done) (Err OutOfMemory))
        → MakesFile (Ok made) (Err r)
    by (inl p) = cc
    by (inr p) = cc

-- nothing in memory fails
unfaulted : Rose 0 0 → ⊥
unfaulted h = omega (arith, h)

-- a refusal to write a table in memory is one of its bytes
pub bytes-refused : (expected : Result Table Refusal) (xs ys : List ℕ) (e : ColumnarError)
    → WritesTable (in_memory xs) (in_memory ys) (Err e) expected → MakesFile (Err e) expected
bytes-refused (Ok t) xs ys e h = by (h.table t refl)
  where
    cause : (f : WritesFile (in_memory xs) (in_memory ys) (Err e) t) → (e ≡ OutOfMemory) ⊎ (e ≡ WriteFault) → e ≡ OutOfMemory
    cause f (inl memory) = memory
    cause f (inr fault) = absurd (unfaulted (f.written.write_fault (ap Err fault)))

    by : WritesFile (in_memory xs) (in_memory ys) (Err e) t → MakesFile (Err e) (Ok t)
    by f = record { ok = tt; refused = inl (cause f f.written.causes) }
bytes-refused (Err r) xs ys e h = by (h.refusal r refl).refused
  where
    by : (◌≡◌ {A = Result (Unit {0}) ColumnarError} (Err e) (Err (answer_of r)))
        ⊎ (◌≡◌ {A = Result (Unit {0}) ColumnarError} (Err e) (Err OutOfMemory))
        → MakesFile (Err e) (Err r)
    by (inl p) = record { ok = tt; refused = inr (r, refl, same-error e (answer_of r) p) }
    by (inr p) = record { ok = tt; refused = inl (same-error e OutOfMemory p) }
