-- Files that are merged in any bracketing.
use Rattle.std.proofs.Common.{◌≡◌, ℕ, sum, List, [], ◌∷◌, None, Ok, refl, sym, ap, ◌∙◌}
use Rattle.std.specs.List.{AllByRecursion}
use Rattle.col_common.specs.Reading.{IsBytes}
use Rattle.col_model.specs.Refusal.{each_ok}
use Rattle.col_model.specs.Segmentation.{run_table}
use Rattle.col_model.specs.Stacking.{stacked, unbracketed}
use Rattle.col_model.specs.Table.{Table}
use Rattle.col_model.specs.Written.{written}
use Rattle.col_model.proofs.BracketLaws.{IsLeaf, sound-leaf, shaped-leaves, bracketing}
use Rattle.col_model.proofs.DecodedTables.{decoded-is-sound}
use Rattle.col_model.proofs.RunLaws.{segmentation-does-not-matter}
use Rattle.col_model.proofs.WholeLaws.{bracketing-ok, writing-at-once-is-enough, can-stack}
use Rattle.col_laws.specs.SegmentFiles.{file_table, parts_in, stacked_files}
use Rattle.col_laws.specs.FileLaws.{FilesOfRunsMergeToOne, FilesOfRunsAreMade, FilesMergeInAnyBracketing, MergingAtOnceIsEnough}
use Rattle.col_laws.proofs.PartLemmas.{has-table}
use Rattle.col_laws.proofs.WholeLemmas.{merged-files-are-whole}
use Rattle.col_model.specs.Merge.{merged, row_counts}
use Rattle.col_model.specs.Order.{stack}
use Rattle.std.specs.Prelude.{IsOk, is_ok}
use Rattle.col_model.proofs.RefusalLaws.{bind-ok}
use Rattle.col_laws.proofs.MadeLemmas.{each-one, ok-value, have-tables, stacked-tables, made-table, refuses-nothing}

-- ---- runs

-- a file made of the runs of plain content, in any bracketing, is one of writing all at once
pub files-of-runs-merge-to-one : FilesOfRunsMergeToOne
files-of-runs-merge-to-one w lengths b file plain runs made = record {
  table = made.is.table;
  is = (segmentation-does-not-matter w lengths b made.is.table plain runs (made-table run_table b file made)).0;
  stands = made.is.stands;
}

-- where writing plain content at once refuses nothing, no run and no merge of runs does
pub files-of-runs-are-made : FilesOfRunsAreMade
files-of-runs-are-made w lengths b plain few runs ok =
    let t = ok-value (written w (sum lengths) None) ok in
    refuses-nothing run_table b t.0 (writing-at-once-is-enough w lengths b t.0 plain few runs t.1)

-- ---- any files

-- the table of a file is sound
file-leaf : (file : List ℕ) (t : Table) → IsBytes file → file_table file ≡ Ok t → IsLeaf t
file-leaf file t bytes e = sound-leaf t (decoded-is-sound file t bytes (has-table file t e))

-- merging at once gives the stack of the files' tables
at-once : (files : List (List ℕ)) (ts : List Table) → each_ok file_table files ≡ Ok ts → stacked_files files ≡ stacked ts
at-once files ts e = stacked-tables files ts (have-tables files ts e)

-- a file that is merged in any bracketing is one of the table of merging all at once
pub files-merge-in-any-bracketing : FilesMergeInAnyBracketing
files-merge-in-any-bracketing b file all made =
    let own = bracketing file_table IsBytes file-leaf b made.is.table all (made-table file_table b file made) in
    record {
      table = made.is.table;
      is = at-once (unbracketed b) own.0 own.1 ∙ own.3;
      stands = made.is.stands;
    }

-- all files have tables, which are sound
record AreSound (files : List (List ℕ)) : Type 0 where
  tables : List Table
  are : each_ok file_table files ≡ Ok tables
  leaves : AllByRecursion IsLeaf tables

are-sound : (files : List (List ℕ)) → AllByRecursion IsBytes files → AllByRecursion (λ file. IsOk (file_table file)) files → AreSound files
are-sound [] all whole = record { tables = []; are = refl; leaves = tt }
are-sound (file ∷ files) all whole =
    let t = ok-value (file_table file) whole.0 in
    let later = are-sound files all.1 whole.1 in
    record {
      tables = t.0 ∷ later.tables;
      are = each-one file_table file files t.0 later.tables t.1 later.are;
      leaves = (file-leaf file t.0 all.0 t.1, later.leaves);
    }

-- where merging files at once refuses nothing, no merge in a bracketing does
pub merging-at-once-is-enough : MergingAtOnceIsEnough
merging-at-once-is-enough b all ok =
    let t = ok-value (stacked_files (unbracketed b)) ok in
    let step = bind-ok (parts_in (unbracketed b)) (λ parts. merged parts [] (stack (row_counts parts))) t.0 t.1 in
    let whole = merged-files-are-whole (unbracketed b) step.0 [] (stack (row_counts step.0)) step.1 (ap is_ok step.2) in
    let sound = are-sound (unbracketed b) all whole in
    let can = can-stack sound.tables t.0 (shaped-leaves sound.tables sound.leaves)
    (sym (at-once (unbracketed b) sound.tables sound.are) ∙ t.1) in
    let found = bracketing-ok file_table IsBytes file-leaf b sound.tables all sound.are can in
    refuses-nothing file_table b found.0 found.1
