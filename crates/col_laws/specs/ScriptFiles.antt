-- Files that the program makes of scripts. States docs/RULES.md, Segments.
use Rattle.std.specs.Prelude.{◌≡◌, ℕ, ◌+◌, ◌^◌, ◌<◌, IsTrue, List, [], ◌∷◌, ◌++◌, filter_map, sum, None, IsOk}
use Rattle.std.specs.List.{list_all, AllZip}
use Rattle.col_model.specs.Recording.{Call, content_after_all}
use Rattle.col_program.specs.Script.{Segment, Script}
use Rattle.col_program.specs.Outcome.{segment_table, script_table}
use Rattle.col_model.specs.Segmentation.{is_value_below, call_in_run}
use Rattle.col_model.specs.Stacking.{Bracketing, unbracketed}
use Rattle.col_laws.specs.SegmentFiles.{stacked_files, HasTable, IsFileOf, IsMadeBy, RefusesNothing}

-- the segment of some documents, with these calls
abbrev pub segment_with : ℕ → List Call → Segment
segment_with n calls = record { count = n; calls = calls }

-- consecutive runs of the calls' documents as segments, each numbered from its start
abbrev pub cut_segments : List Call → ℕ → List ℕ → List Segment
cut_segments calls start [] = []
cut_segments calls start (n ∷ ns) =
    segment_with n (filter_map (call_in_run start n) calls) ∷ cut_segments calls (start + n) ns

-- files of the segments' tables, in order
abbrev pub AreFilesOf : List Segment → List (List ℕ) → Type 0
AreFilesOf segments files = AllZip (λ s file. HasTable (segment_table s) file) segments files

-- A file that is made of segments in any bracketing, which are the runs of accepted calls that
-- record values, is a file of the table of one segment with all calls.
abbrev pub SegmentsMergeToOne : Type 0
SegmentsMergeToOne = (calls : List Call) (lengths : List ℕ) (b : Bracketing Segment)
    (file : List ℕ) → IsTrue (list_all (is_value_below (sum lengths)) calls)
    → IsOk (content_after_all [] calls) → unbracketed b ≡ cut_segments calls 0 lengths
    → IsMadeBy segment_table b file
    → IsFileOf (segment_table (segment_with (sum lengths) calls)) file

-- Where one segment of fewer than 2 ^ 32 documents with calls that record values has a table, no
-- run of it and no merge of files that are made of the runs is refused.
abbrev pub SegmentsAreMade : Type 0
SegmentsAreMade = (calls : List Call) (lengths : List ℕ) (b : Bracketing Segment)
    → IsTrue (list_all (is_value_below (sum lengths)) calls) → sum lengths < 2 ^ 32
    → unbracketed b ≡ cut_segments calls 0 lengths
    → IsOk (segment_table (segment_with (sum lengths) calls)) → RefusesNothing segment_table b

-- What the program makes of inputs and a script without required columns and an order is what
-- merging the inputs and files of the segments gives.
abbrev pub ScriptsStackFiles : Type 0
ScriptsStackFiles = (inputs files : List (List ℕ)) (s : Script) → s.required ≡ []
    → s.order ≡ None → AreFilesOf s.segments files
    → script_table inputs s ≡ stacked_files (inputs ++ files)
