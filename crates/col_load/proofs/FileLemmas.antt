-- Files of documents.
use Rattle.std.proofs.Common.{◌≡◌, Result, Ok, Err, refl, ap, ◌∙◌, subst, inl, inr}
use Rattle.col_common.specs.Outside.{SeenSink}
use Rattle.col_common.specs.declared.error.ColumnarError.{ColumnarError}
use Rattle.col_common.specs.declared.error.ColumnarError.TheVariants as answers
use Rattle.col_model.specs.Refusal.{Refusal}
use Rattle.col_model.specs.Refusal as refusals
use Rattle.col_model.specs.Table.{Table}
use Rattle.col_writer_columns.specs.Answers.{answer_of}
use Rattle.col_writer_file.specs.Tables.{WritesTable}
use Rattle.col_load.specs.Files.{error_of, Tells, AddsFile, LoadsFile}
use Rattle.col_load.specs.Loads.{Stop, no_table, or_no_table}
use Rattle.col_load.specs.declared.load_error.LoadError.{LoadError}
use Rattle.col_load.specs.declared.load_error.LoadError.TheVariants.{OutOfMemory, Columnar}

abbrev ok-of : {A E : Type 0} → A → Result A E → A
ok-of d (Ok x) = x
ok-of d (Err e) = d

abbrev err-of : {A E : Type 0} → E → Result A E → E
err-of d (Ok x) = d
err-of d (Err e) = e

same_Ok : {A E : Type 0} (x y : A) → ◌≡◌ {A = Result A E} (Ok x) (Ok y) → x ≡ y
same_Ok x y is = ap (ok-of x) is

same_Err : {A E : Type 0} (x y : E) → ◌≡◌ {A = Result A E} (Err x) (Err y) → x ≡ y
same_Err x y is = ap (err-of x) is

-- a refusal isn't want of memory
answer-told : (r : Refusal) → error_of (answer_of r) ≡ Columnar (answer_of r)
answer-told refusals.invalid_data = refl
answer-told refusals.bad_order = refl
answer-told refusals.bad_name = refl
answer-told refusals.required_conflict = refl
answer-told refusals.cannot_coerce = refl
answer-told refusals.numerical_conflict = refl
answer-told refusals.too_large = refl
answer-told refusals.forced_type = refl
answer-told refusals.doc_order = refl
answer-told refusals.doc_out_of_range = refl
answer-told refusals.tie_breaker_start = refl

-- a table that is there, or a stop that is told
module _ (a b : SeenSink) (result : Result (Unit {0}) LoadError) where
  pub loads_table : (t : Table) → AddsFile a b result t → LoadsFile a b result (Ok t)
  loads_table t adds = record {
    table = λ other is. subst (AddsFile a b result) (same_Ok t other is) adds;
    stop = λ s is. absurd (cc is);
  }

  pub loads_none : (s : Stop) → b ≡ a → (e : LoadError) → result ≡ Err e → Tells e s → LoadsFile a b result (Err s)
  loads_none s same e is told = record {
    table = λ t is. absurd (cc is);
    stop = λ other s-is. (same, (e, is, subst (Tells e) (same_Err s other s-is) told));
  }

pub written_ok : (a b : SeenSink) (done : Unit {0}) (expected : Result Table Refusal) → WritesTable a b (Ok done) expected
    → LoadsFile a b (Ok done) (or_no_table expected)
written_ok a b done (Ok t) w =
    let f = w.table t refl in
    loads_table a b (Ok done) t record { file = f.file; stands = f.stands; added = f.written.ok; causes = tt }
written_ok a b done (Err r) w = elim (w.refusal r refl).refused [
  | inl is ↦ absurd (cc is)
  | inr is ↦ absurd (cc is)
]

pub written_err : (a b : SeenSink) (e : ColumnarError) (y : LoadError) (expected : Result Table Refusal) → y ≡ error_of e
    → WritesTable a b (Err e) expected → LoadsFile a b (Err y) (or_no_table expected)
written_err a b e y (Ok t) is w =
    let f = w.table t refl in
    loads_table a b (Err y) t record {
      file = f.file;
      stands = tt;
      added = tt;
      causes = elim f.written.causes [
        | inl out ↦ inl (is ∙ ap error_of out)
        | inr failed ↦ inr (is ∙ ap error_of failed, f.written.write_fault (ap Err failed))
      ];
    }
written_err a b e y (Err r) is w =
    let s = w.refusal r refl in
    elim s.refused [
      | inl told ↦ loads_none a b (Err y) (no_table r) s.same (Columnar (answer_of r))
          (ap Err (is ∙ ap error_of (same_Err e (answer_of r) told) ∙ answer-told r)) (r, refl, refl)
      | inr out ↦ loads_none a b (Err y) (no_table r) s.same OutOfMemory (ap Err (is ∙ ap error_of (same_Err e answers.OutOfMemory out))) tt
    ]
