-- That files may be merged in any bracketing. States docs/RULES.md, Segments.
use Rattle.std.specs.Prelude.{◌≡◌, ℕ, ◌^◌, ◌<◌, List, sum, None, Ok, IsOk}
use Rattle.std.specs.List.{AllByRecursion}
use Rattle.col_common.specs.Reading.{IsBytes}
use Rattle.col_model.specs.File.{Part}
use Rattle.col_model.specs.Order.{Order}
use Rattle.col_model.specs.Merge.{Required, merged}
use Rattle.col_model.specs.Written.{Recorded, written}
use Rattle.col_model.specs.Stacking.{Bracketing, unbracketed}
use Rattle.col_model.specs.Segmentation.{IsPlain, runs_of, run_table}
use Rattle.col_laws.specs.SegmentFiles.{file_table, parts_in, stacked_files, IsFileOf, IsMadeBy, RefusesNothing}

-- A file that is made of the runs of a plain content, in any bracketing, is a file of the table of
-- writing all at once.
abbrev pub FilesOfRunsMergeToOne : Type 0
FilesOfRunsMergeToOne = (w : Recorded) (lengths : List ℕ) (b : Bracketing (Recorded × ℕ))
    (file : List ℕ) → IsPlain (sum lengths) w → unbracketed b ≡ runs_of w 0 lengths
    → IsMadeBy run_table b file → IsFileOf (written w (sum lengths) None) file

-- Where writing a plain content of fewer than 2 ^ 32 documents at once refuses nothing, no run and
-- no merge of files that are made of the runs does.
abbrev pub FilesOfRunsAreMade : Type 0
FilesOfRunsAreMade = (w : Recorded) (lengths : List ℕ) (b : Bracketing (Recorded × ℕ))
    → IsPlain (sum lengths) w → sum lengths < 2 ^ 32 → unbracketed b ≡ runs_of w 0 lengths
    → IsOk (written w (sum lengths) None) → RefusesNothing run_table b

-- A file that is merged of files in any bracketing is a file of the table of merging them at once.
abbrev pub FilesMergeInAnyBracketing : Type 0
FilesMergeInAnyBracketing = (b : Bracketing (List ℕ)) (file : List ℕ)
    → AllByRecursion IsBytes (unbracketed b) → IsMadeBy file_table b file
    → IsFileOf (stacked_files (unbracketed b)) file

-- Where merging files at once refuses nothing, no merge in a bracketing does.
abbrev pub MergingAtOnceIsEnough : Type 0
MergingAtOnceIsEnough = (b : Bracketing (List ℕ)) → AllByRecursion IsBytes (unbracketed b)
    → IsOk (stacked_files (unbracketed b)) → RefusesNothing file_table b

-- Where a merge of files has a table, so has each file, whatever the order and the required
-- columns are.
abbrev pub MergedFilesAreWhole : Type 0
MergedFilesAreWhole = (files : List (List ℕ)) (parts : List Part) (required : List Required)
    (order : Order) → parts_in files ≡ Ok parts → IsOk (merged parts required order)
    → AllByRecursion (λ file. IsOk (file_table file)) files
