-- Sources whose lines were loaded, or stopped.
use Rattle.std.proofs.Common.{◌≡◌, ◌++◌, ◌⊎◌, ℕ, Bool, true, false, List, [], Some, None, IfSome, Result, Ok, Err, refl, sym, ap, ◌∙◌, subst, inl, inr, append-nil}
use Rattle.col_common.specs.Outside.{SeenSink, Told, Takes, IsAtEnd, Faulted}
use Rattle.col_common.specs.declared.error.ColumnarError.{ColumnarError}
use Rattle.col_common.specs.declared.error.ColumnarError.TheVariants as answers
use Rattle.col_documents.specs.Documents.{Field}
use Rattle.col_documents.specs.Forms.{Forms}
use Rattle.col_model.specs.Refusal.{Refusal}
use Rattle.col_model.specs.Refusal as refusals
use Rattle.col_model.specs.Table.{Table}
use Rattle.col_writer_columns.specs.Answers.{answer_of}
use Rattle.col_load.specs.Files.{Tells, LoadsFile, AddsNothing, LoadsSource}
use Rattle.col_load.specs.Loads.{Document, Stop, documents_of, lines_of, counts_of_lines, table_of_documents, table_of_lines}
use Rattle.col_load.specs.Loading.{HasTaken, IsStop, TakesSource, forms_of}
use Rattle.col_load.specs.Rows.{HasDocuments}
use Rattle.col_load.specs.declared.load_error.LoadError.{LoadError}
use Rattle.col_load.specs.declared.load_error.LoadError.TheVariants.{Columnar}
use Rattle.col_load.specs.declared.loader.Loader.{Loader}
use Rattle.col_load.proofs.LoadedLemmas.{stop_told, loaded}

-- ---- faults

-- a fault of a source or a sink
abbrev is-fault : ColumnarError → Bool
is-fault answers.ReadFault = true
is-fault answers.WriteFault = true
is-fault e = false

-- no refusal is one
no-fault : (r : Refusal) → is-fault (answer_of r) ≡ false
no-fault refusals.invalid_data = refl
no-fault refusals.bad_order = refl
no-fault refusals.bad_name = refl
no-fault refusals.required_conflict = refl
no-fault refusals.cannot_coerce = refl
no-fault refusals.numerical_conflict = refl
no-fault refusals.too_large = refl
no-fault refusals.forced_type = refl
no-fault refusals.doc_order = refl
no-fault refusals.doc_out_of_range = refl
no-fault refusals.tie_breaker_start = refl

-- a fault that a file's writing tells is one of the sink
written-fault : (a b : SeenSink) (expected : Result Table Stop) (e : ColumnarError) → is-fault e ≡ true
    → LoadsFile a b (Err (Columnar e)) expected → (e ≡ answers.WriteFault) × Faulted a b
written-fault a b (Ok t) e fault l = elim (l.table t refl).causes [
  | inl out ↦ absurd (cc out)
  | inr failed ↦ (cc failed.0, failed.1)
]
written-fault a b (Err s) e fault l =
    let (same, (other, is, tells)) = l.stop s refl in
    let error : other ≡ Columnar e = cc is in
    let told : Tells (Columnar e) s = subst (λ y. Tells y s) error tells in
    absurd (cc (sym fault ∙ ap is-fault told.2 ∙ no-fault told.0))

-- ---- what is told

-- a fact on what is told
if-told : (left : Told) (F : List ℕ → Type 0) → ((text : List ℕ) → left ≡ Some text → F text) → IfSome left F
if-told None F is = tt
if-told (Some text) F is = is text refl

-- what a source had, of which some bytes were read
told-text : (left left' : Told) (text bytes rest : List ℕ) → Takes left left' bytes → left ≡ Some text → IfSome left' (λ more. more ≡ rest)
    → text ≡ bytes ++ rest
told-text left None text bytes rest takes had told = absurd (cc (sym had ∙ takes))
told-text left (Some more) text bytes rest takes had told =
    let same : text ≡ bytes ++ more = cc (sym had ∙ takes) in
    same ∙ ap (λ bs. bytes ++ bs) told

-- all of it, where none is left
all-text : (left left' : Told) (text bytes : List ℕ) → Takes left left' bytes → left ≡ Some text → IsAtEnd left' → bytes ≡ text
all-text left None text bytes takes had ended = absurd (cc (sym had ∙ takes))
all-text left (Some more) text bytes takes had ended =
    sym (append-nil bytes) ∙ sym (told-text left (Some more) text bytes [] takes had ended)

-- ---- the calls

module _ (left left' : Told) (before now : ℕ) (forms : Forms) (skips : Bool) (old new : Loader) (same : forms_of old ≡ forms)
    (kept : old.skips ≡ skips) where
  no-columnar : (e : LoadError) (x : ColumnarError) (expected : Result (List Document) Stop) → e ≡ Columnar x → IsStop e expected → ⊥
  no-columnar e x expected is stop = subst (λ y. IsStop y expected) is stop

  -- the source failed, or its lines have a stop
  pub source_stops : (a : SeenSink) (e : LoadError) → TakesSource left left' before now old new (Err e)
      → LoadsSource left left' before now a a forms skips (Err e)
  source_stops a e t = record {
    file = if-told left (λ text. LoadsFile a a (Err e) (table_of_lines forms skips text) ⊎ AddsNothing a a (Err e))
        (λ text had. elim t.stopped [
          | inl failed ↦ inr (refl, ap Err failed.0)
          | inr s ↦ inl (stop_told forms skips text a e
              (subst (λ bs. IsStop e (documents_of forms skips bs)) (sym (told-text left left' text t.bytes s.rest t.takes had s.told))
              (subst (λ fs. IsStop e (documents_of fs skips (t.bytes ++ s.rest))) same
              (subst (λ k. IsStop e (documents_of (forms_of old) k (t.bytes ++ s.rest))) kept s.stop))))
        ]);
    counts = tt;
    ended = tt;
    later = t.later;
    read_fault = λ is. elim t.stopped [
      | inl failed ↦ failed.1
      | inr s ↦ absurd (no-columnar e answers.ReadFault (documents_of (forms_of old) old.skips (t.bytes ++ s.rest)) (cc is) s.stop)
    ];
    write_fault = λ is. elim t.stopped [
      | inl failed ↦ absurd (cc (sym (ap Err failed.0) ∙ is))
      | inr s ↦ absurd (no-columnar e answers.WriteFault (documents_of (forms_of old) old.skips (t.bytes ++ s.rest)) (cc is) s.stop)
    ];
  }

  -- all lines were taken, and the file was written, or wasn't
  module _ (t : TakesSource left left' before now old new (Ok tt)) (a b : SeenSink) where
    file-of : (result : Result (Unit {0}) LoadError)
        → ((docs : List (List Field)) → HasDocuments docs new.rows → LoadsFile a b result (table_of_documents docs))
        → (text : List ℕ) → left ≡ Some text → LoadsFile a b result (table_of_lines forms skips text)
    file-of result writes text had =
        let all = all-text left left' text t.bytes t.takes had t.ended in
        loaded forms skips text a b result new (t.forms.0 ∙ same) (t.forms.1 ∙ kept)
        (subst (λ bs. HasTaken (lines_of bs) new) all t.taken) writes

    counts-of : (text : List ℕ) → left ≡ Some text → new.counts ≡ counts_of_lines forms (lines_of text)
    counts-of text had =
        t.taken.counts ∙ ap (λ fs. counts_of_lines fs (lines_of t.bytes)) (t.forms.0 ∙ same)
        ∙ ap (λ bs. counts_of_lines forms (lines_of bs)) (all-text left left' text t.bytes t.takes had t.ended)

    pub source_loaded : ((docs : List (List Field)) → HasDocuments docs new.rows → LoadsFile a b (Ok tt) (table_of_documents docs))
        → LoadsSource left left' before now a b forms skips (Ok new.counts)
    source_loaded writes = record {
      file = if-told left (λ text. LoadsFile a b (Ok tt) (table_of_lines forms skips text) ⊎ AddsNothing a b (Ok tt))
          (λ text had. inl (file-of (Ok tt) writes text had));
      counts = if-told left (λ text. new.counts ≡ counts_of_lines forms (lines_of text)) counts-of;
      ended = t.ended;
      later = t.later;
      read_fault = λ is. absurd (cc is);
      write_fault = λ is. absurd (cc is);
    }

    pub source_unwritten : (e : LoadError)
        → ((docs : List (List Field)) → HasDocuments docs new.rows → LoadsFile a b (Err e) (table_of_documents docs))
        → LoadsSource left left' before now a b forms skips (Err e)
    source_unwritten e writes =
        let file = writes t.taken.docs t.taken.rows in
        record {
          file = if-told left (λ text. LoadsFile a b (Err e) (table_of_lines forms skips text) ⊎ AddsNothing a b (Err e))
              (λ text had. inl (file-of (Err e) writes text had));
          counts = tt;
          ended = tt;
          later = t.later;
          read_fault = λ is.
              let error : e ≡ Columnar answers.ReadFault = cc is in
              absurd (cc (written-fault a b (table_of_documents t.taken.docs) answers.ReadFault refl
              (subst (λ y. LoadsFile a b (Err y) (table_of_documents t.taken.docs)) error file)).0);
          write_fault = λ is.
              let error : e ≡ Columnar answers.WriteFault = cc is in
              (written-fault a b (table_of_documents t.taken.docs) answers.WriteFault refl
              (subst (λ y. LoadsFile a b (Err y) (table_of_documents t.taken.docs)) error file)).1;
        }
