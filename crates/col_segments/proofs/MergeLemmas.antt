-- The rows alive of segments as one file.
use Rattle.std.proofs.Common.{◌≡◌, inl, inr, ◌+◌, ◌^◌, nat_le, Bool, true, false, option_and_then, length, ℕ, List, [], ◌∷◌, ◌++◌, map, Option, Some, IfSome, Result, Ok, Err, refl, sym, ap, ap₂, ◌∙◌, subst}
use Rattle.std.specs.Prelude.{IfOk, IfErr}
use Rattle.std.specs.List.{AllZip}
use Rattle.std.proofs.lemmas.Option.{same_Some}
use Rattle.col_common.specs.Outside.{in_memory}
use Rattle.col_common.specs.declared.error.ColumnarError.{ColumnarError}
use Rattle.col_common.specs.declared.error.ColumnarError.TheVariants.{OutOfMemory, NumericalConflict, TooLarge}
use Rattle.col_file.specs.Readers.{SeenReader, Reads}
use Rattle.col_merge.specs.Merges.{AddsTable, MergesFiles}
use Rattle.col_merge.specs.Parts.{told_parts}
use Rattle.col_merge.specs.Readings.{AllRead, AllStay}
use Rattle.col_merge.specs.Turns.{RefusesMerge, RefusesParts, refusal_of}
use Rattle.col_merge_plan.specs.Slots.{counts_read}
use Rattle.col_model.specs.File.{Part, StandsFor, parts_of, part_of_table}
use Rattle.col_model.specs.Keys.{FileKeys}
use Rattle.col_model.specs.Refusal.{Refusal, ◌>>=◌, or_refuse, refuse_if, invalid_data, numerical_conflict, too_large}
use Rattle.col_model.specs.Table.{Table}
use Rattle.col_model.proofs.RefusalLaws.{err_not_ok, same_Ok}
use Rattle.col_segments.specs.Compaction.{CompactsTo, MergesRows, RefusesRows}
use Rattle.col_segments.specs.Files.{AreOpenBeside, IsTableFile, ReadsTable, table_in}
use Rattle.col_segments.specs.Live.{compacted, live, merged_alive}
use Rattle.col_segments.specs.Segments.{HeldTable, added_file, alive_count, all_alive, appended, with_more}
use Rattle.col_segments.proofs.LiveLemmas.{compacted-live}
use Rattle.col_segments.proofs.ReaderLemmas.{kept_tables, zip-through}
use Rattle.col_writer_columns.specs.Answers.{MayRefuse}

-- ---- open files of tables

-- a file that was read has its table still
read-again : (times : FileKeys → ℕ) (t : Table) (old new : SeenReader) → ReadsTable t old → Reads (times old.keys) old new
    → ReadsTable t new
read-again times t old new is reads = record {
  part = ap (option_and_then parts_of) reads.file.told ∙ is.part;
  rows = ap (λ (k : FileKeys). k.row_count) reads.keys ∙ is.rows;
}

-- the same of all
pub all-read : (times : FileKeys → ℕ) (hs : List HeldTable) (olds news : List SeenReader) → AreOpenBeside hs olds
    → AllRead times olds news → AreOpenBeside hs news
all-read times hs olds news are stay = record {
  few = are.few;
  open_ =
      zip-through ReadsTable (λ old new. Reads (times old.keys) old new) ReadsTable (kept_tables hs) olds news (read-again times)
      are.open_ stay;
}

pub all-again : (hs : List HeldTable) (olds news : List SeenReader) → AreOpenBeside hs olds → AllStay olds news → AreOpenBeside hs news
all-again = all-read (λ k. length k.entries)

-- the parts of the files are those of the tables
files-parts : (tables : List Table) (rs : List SeenReader) → AllZip ReadsTable tables rs → told_parts rs ≡ Some (map part_of_table tables)
files-parts [] [] h = refl
files-parts [] (r ∷ rs) h = absurd h
files-parts (t ∷ tables) [] h = absurd h
files-parts (t ∷ tables) (r ∷ rs) h = rw (h.0.part, files-parts tables rs h.1) refl

-- and so are the counts of their rows
pub files-rows : (tables : List Table) (rs : List SeenReader) → AllZip ReadsTable tables rs → counts_read rs ≡ map (λ t. t.row_count) tables
files-rows [] [] h = refl
files-rows [] (r ∷ rs) h = absurd h
files-rows (t ∷ tables) [] h = absurd h
files-rows (t ∷ tables) (r ∷ rs) h = ap₂ (λ n ns. n ∷ ns) h.0.rows (files-rows tables rs h.1)

-- ---- the merge

module _ (tables : List Table) (olds news : List SeenReader) (files : AllZip ReadsTable tables olds)
    (expected : List Part → Result Table Refusal) where
  -- what is known of the parts that the files tell is known of the tables'
  on_tables : (P : List Part → Type 0) → IfSome (told_parts olds) P → P (map part_of_table tables)
  on_tables P h = subst (λ o. IfSome o P) (files-parts tables olds files) h

  -- the bytes that a merge wrote are the file
  pub merge-made : (xs ys bytes : List ℕ) (done : Unit {0}) → xs ≡ [] → bytes ≡ ys
      → MergesFiles olds news (in_memory xs) (in_memory ys) (Ok done) expected
      → (t : Table) × (expected (map part_of_table tables) ≡ Ok t) × StandsFor t bytes
  merge-made xs ys bytes done none same h =
      let adds = on_tables (λ parts. AddsTable (in_memory xs) (in_memory ys) (expected parts)) h in (
        adds.table,
        adds.is,
        subst (StandsFor adds.table)
            (sym (same ∙ same_Some ys (xs ++ adds.file) adds.added ∙ ap (λ zs. zs ++ adds.file) none)) adds.stands,
      )

  -- a refusal that a merge answers is the one that is expected
  pub merge-refused : (e : ColumnarError) (r : Refusal) → refusal_of e ≡ Some r → RefusesParts olds e expected
      → expected (map part_of_table tables) ≡ Err r
  merge-refused e r is h =
      on_tables (λ parts. expected parts ≡ Err h.refusal) h.told ∙ ap Err (same_Some h.refusal r (sym h.is ∙ is))

  module _ (xs ys : List ℕ) (e : ColumnarError) (h : RefusesMerge olds news (in_memory xs) (in_memory ys) e expected) where
    -- numbers in conflict
    pub conflict-refused : e ≡ NumericalConflict → expected (map part_of_table tables) ≡ Err numerical_conflict
    conflict-refused is =
        merge-refused NumericalConflict numerical_conflict refl
        (subst (λ e. RefusesMerge olds news (in_memory xs) (in_memory ys) e expected) is h)

    -- and a column that is too large
    pub large-refused : e ≡ TooLarge → expected (map part_of_table tables) ≡ Err too_large
    large-refused is =
        merge-refused TooLarge too_large refl (subst (λ e. RefusesMerge olds news (in_memory xs) (in_memory ys) e expected) is h)

-- what was written is what was made, or memory is wanting
pub written : (expected : Result Table Refusal) (file : List ℕ) (result : Result (List ℕ) ColumnarError)
    → ((t : Table) × (expected ≡ Ok t) × StandsFor t file) → IfOk result (λ bytes. bytes ≡ file)
    → IfErr result (λ e. e ≡ OutOfMemory) → MergesRows result expected
written expected file (Ok bytes) made same memory = record {
  ok = (made.0, made.1, subst (StandsFor made.0) (sym same) made.2);
  refused = tt;
}
written expected file (Err e) made same memory = record { ok = tt; refused = inl memory }

-- ---- the set as one table

-- a file that stands for a table has one
pub stands-whole : (t : Table) (file : List ℕ) → StandsFor t file → IsTableFile file
unfolding table_in
stands-whole t file stands = rw stands.content refl

-- the file of the merged table makes the one segment
pub compact-made : (hs made : List HeldTable) (file : List ℕ) → ((t : Table) × (merged_alive hs ≡ Ok t) × StandsFor t file)
    → appended file [] ≡ Ok made → CompactsTo hs made file
unfolding added_file
compact-made hs made file (t, is, stands) makes = record {
  table = t;
  is = is;
  stands = stands;
  held = by (nat_le (2 ^ 32) (alive_count [] + length (all_alive t).alive)) (ap with_file (sym stands.content) ∙ makes);
}
  where
    with_file : Option Table → Result (List HeldTable) Refusal
    with_file o =
        ((or_refuse o invalid_data >>= λ table. Ok (all_alive table)) >>= λ h.
        refuse_if (nat_le (2 ^ 32) (alive_count [] + length h.alive)) too_large >>= λ _. Ok h) >>= with_more []

    by : (b : Bool) → ((refuse_if b too_large >>= λ _. Ok (all_alive t)) >>= with_more []) ≡ Ok made → made ≡ all_alive t ∷ []
    by true e = absurd (err_not_ok too_large made e)
    by false e = sym (same_Ok (all_alive t ∷ []) made e)

-- a compaction that was made is the one that is expected
pub compacts-ok : (hs made : List HeldTable) (file : List ℕ) → CompactsTo hs made file → compacted hs ≡ Ok made
compacts-ok hs made file c = ap (λ r. r >>= λ t. Ok (all_alive t ∷ [])) c.is ∙ ap Ok (sym c.held)

-- and the rows stay
pub compacts-live : (hs made : List HeldTable) (file : List ℕ) → CompactsTo hs made file → live made ≡ live hs
compacts-live hs made file c = ap live c.held ∙ compacted-live hs c.table c.is

-- a refusal of the rows is one of the compaction
pub rows-refused : (hs : List HeldTable) (e : ColumnarError) → RefusesRows (merged_alive hs) e → MayRefuse (compacted hs) e
rows-refused hs e (inl memory) = inl memory
rows-refused hs e (inr (inl p)) = inr (numerical_conflict, ap (λ r. r >>= λ t. Ok (all_alive t ∷ [])) p.1, p.0)
rows-refused hs e (inr (inr p)) = inr (too_large, ap (λ r. r >>= λ t. Ok (all_alive t ∷ [])) p.1, p.0)
