-- Files of a script's segments.
use Rattle.std.proofs.Common.{◌≡◌, ℕ, ◌+◌, sum, true, List, [], ◌∷◌, ◌++◌, map, filter_map, None, Ok, Err, refl, sym, ap, ap₂, ◌∙◌, subst}
use Rattle.std.specs.Prelude.{Option, Result}
use Rattle.std.specs.List.{AllByRecursion, list_all}
use Rattle.std.proofs.lemmas.List.{map-append}
use Rattle.col_model.specs.File.{Part, part_of_table}
use Rattle.col_model.specs.Merge.{Required, merged}
use Rattle.col_program.specs.Outcome.{segment_table, order_over}
use Rattle.col_model.specs.Recording.{Call, content_after_all}
use Rattle.col_model.specs.Refusal.{Refusal, ◌>>=◌, each_ok}
use Rattle.col_program.specs.Script.{Segment, RowOrder}
use Rattle.col_model.specs.Segmentation.{is_value_below, call_in_run, run_of, runs_of, run_table, IsRecorded}
use Rattle.col_model.specs.Stacking.{stacked, Bracketing, nothing, item, bracket, unbracketed, tables_in, stacked_by}
use Rattle.col_model.specs.Table.{Table}
use Rattle.col_model.specs.Written.{Recorded, written}
use Rattle.col_model.proofs.BracketLaws.{all-first, all-second}
use Rattle.col_model.proofs.RecordedRuns.{runs-are-recorded}
use Rattle.col_model.proofs.RefusalLaws.{bind-ok}
use Rattle.col_model.proofs.RunLaws.{segmentation-does-not-matter}
use Rattle.col_model.proofs.WholeLaws.{writing-at-once-is-enough}
use Rattle.col_laws.specs.ScriptFiles.{segment_with, cut_segments, AreFilesOf, SegmentsMergeToOne, SegmentsAreMade, ScriptsStackFiles}
use Rattle.col_laws.proofs.MadeLemmas.{each-one, ok-value, part_in, HaveTables, have-one, made-table, refuses-nothing}

-- ---- bracketings of other items

module _ {A B : Type 0} (f : A → B) where
  -- the items' images, in the same brackets
  abbrev pub mapped : Bracketing A → Bracketing B
  mapped nothing = nothing
  mapped (item x rest) = item (f x) (mapped rest)
  mapped (bracket inner rest) = bracket (mapped inner) (mapped rest)

  unbracketed-mapped : (b : Bracketing A) → unbracketed (mapped b) ≡ map f (unbracketed b)
  unbracketed-mapped nothing = refl
  unbracketed-mapped (item x rest) = ap (λ r. f x ∷ r) (unbracketed-mapped rest)
  unbracketed-mapped (bracket inner rest) =
      ap₂ (λ p q. p ++ q) (unbracketed-mapped inner) (unbracketed-mapped rest)
      ∙ sym (map-append f (unbracketed inner) (unbracketed rest))

  module _ (table : A → Result Table Refusal) (other : B → Result Table Refusal) where
    -- the item and its image have one table
    abbrev pub IsSame : A → Type 0
    IsSame x = table x ≡ other (f x)

    tables-mapped : (b : Bracketing A) → AllByRecursion IsSame (unbracketed b) → tables_in table b ≡ tables_in other (mapped b)
    tables-mapped nothing all = refl
    tables-mapped (item x rest) all =
        ap₂ (λ (r : Result Table Refusal) (q : Result (List Table) Refusal). r >>= λ t. q >>= λ ts. Ok (t ∷ ts))
        all.0 (tables-mapped rest all.1)
    tables-mapped (bracket inner rest) all =
        ap₂ (λ (r q : Result (List Table) Refusal). (r >>= stacked) >>= λ t. q >>= λ ts. Ok (t ∷ ts))
        (tables-mapped inner (all-first IsSame (unbracketed inner) (unbracketed rest) all))
        (tables-mapped rest (all-second IsSame (unbracketed inner) (unbracketed rest) all))

    stacked-mapped : (b : Bracketing A) → AllByRecursion IsSame (unbracketed b) → stacked_by table b ≡ stacked_by other (mapped b)
    unfolding stacked_by
    stacked-mapped b all = ap (λ (r : Result (List Table) Refusal). r >>= stacked) (tables-mapped b all)

-- ---- segments are runs

-- the content, where it isn't refused
abbrev content_or : Result Recorded Refusal → Recorded
content_or (Ok w) = w
content_or (Err e) = []

-- what was recorded in a segment, with its length
abbrev run_in : Segment → Recorded × ℕ
run_in s = (content_or (content_after_all [] s.calls), s.count)

segment-run : (n : ℕ) (calls : List Call) (w : Recorded) → content_after_all [] calls ≡ Ok w
    → segment_table (segment_with n calls) ≡ written w n None
segment-run n calls w e = ap (λ (r : Result Recorded Refusal). r >>= λ w. written w n None) e

segments-same : (n : ℕ) (calls : List Call) (w : Recorded) → IsRecorded n calls w → (start : ℕ) (ns : List ℕ)
    → AllByRecursion (IsSame run_in segment_table run_table) (cut_segments calls start ns)
segments-same n calls w is start [] = tt
segments-same n calls w is start (m ∷ ns) =
    let own = is.runs start m in (
      segment-run m (filter_map (call_in_run start m) calls) (run_of w start m) own
          ∙ ap (λ w. written w m None) (sym (ap content_or own)),
      segments-same n calls w is (start + m) ns,
    )

segments-runs : (n : ℕ) (calls : List Call) (w : Recorded) → IsRecorded n calls w → (start : ℕ) (ns : List ℕ)
    → map run_in (cut_segments calls start ns) ≡ runs_of w start ns
segments-runs n calls w is start [] = refl
segments-runs n calls w is start (m ∷ ns) =
    ap₂ (λ (v : Recorded) r. (v, m) ∷ r) (ap content_or (is.runs start m))
    (segments-runs n calls w is (start + m) ns)

module _ (calls : List Call) (lengths : List ℕ) (w : Recorded) (values : list_all (is_value_below (sum lengths))
    calls ≡ true) (accepted : content_after_all [] calls ≡ Ok w) (b : Bracketing Segment) (segments : unbracketed
    b ≡ cut_segments calls 0 lengths) where
  recorded : IsRecorded (sum lengths) calls w
  recorded = runs-are-recorded (sum lengths) calls w values accepted

  runs : unbracketed (mapped run_in b) ≡ runs_of w 0 lengths
  runs = unbracketed-mapped run_in b ∙ ap (map run_in) segments ∙ segments-runs (sum lengths) calls w recorded 0 lengths

  same : stacked_by segment_table b ≡ stacked_by run_table (mapped run_in b)
  same =
      stacked-mapped run_in segment_table run_table b (subst
      (AllByRecursion (IsSame run_in segment_table run_table)) (sym segments)
      (segments-same (sum lengths) calls w recorded 0 lengths))

  one : (t : Table) → stacked_by segment_table b ≡ Ok t → written w (sum lengths) None ≡ Ok t
  one t e = (segmentation-does-not-matter w lengths (mapped run_in b) t recorded.plain runs (sym same ∙ e)).0

-- a file made in any bracketing of the segments that accepted calls are cut into is one of them all
pub segments-merge-to-one : SegmentsMergeToOne
segments-merge-to-one calls lengths b file values accepted segments made =
    let w = ok-value (content_after_all [] calls) accepted in
    record {
      table = made.is.table;
      is =
          segment-run (sum lengths) calls w.0 w.1
          ∙ one calls lengths w.0 values w.1 b segments made.is.table (made-table segment_table b file made);
      stands = made.is.stands;
    }

-- where one segment with all calls has a table, no run of it and no merge of runs is refused
pub segments-are-made : SegmentsAreMade
segments-are-made calls lengths b values few segments ok =
    let t = ok-value (segment_table (segment_with (sum lengths) calls)) ok in
    let w = bind-ok (content_after_all [] calls) (λ w. written w (sum lengths) None) t.0 t.1 in
    let all = writing-at-once-is-enough w.0 lengths (mapped run_in b) t.0
    (recorded calls lengths w.0 values w.1 b segments).plain few (runs calls lengths w.0 values w.1 b segments)
    w.2 in
    refuses-nothing segment_table b t.0 (same calls lengths w.0 values w.1 b segments ∙ all)

-- ---- scripts

-- the segments have tables, which the files have
record AreTables (segments : List Segment) (files : List (List ℕ)) : Type 0 where
  tables : List Table
  are : each_ok segment_table segments ≡ Ok tables
  have : HaveTables files tables

are-tables : (segments : List Segment) (files : List (List ℕ)) → AreFilesOf segments files → AreTables segments files
are-tables [] [] all = record { tables = []; are = refl; have = refl }
are-tables [] (file ∷ files) all = absurd all
are-tables (s ∷ segments) [] all = absurd all
are-tables (s ∷ segments) (file ∷ files) all =
    let own = all.0 in
    let later = are-tables segments files all.1 in
    record {
      tables = own.table ∷ later.tables;
      are = each-one segment_table s segments own.table later.tables own.is later.are;
      have = have-one file files own.table later.tables own.content later.have;
    }

-- the parts of inputs, and behind them of files whose parts are these
parts-behind : (inputs files : List (List ℕ)) (ps : List Part) → each_ok part_in files ≡ Ok ps
    → each_ok part_in (inputs ++ files) ≡ (each_ok part_in inputs >>= λ qs. Ok (qs ++ ps))
parts-behind [] files ps e = e
parts-behind (input ∷ inputs) files ps e = by (part_in input) (each_ok part_in inputs) (parts-behind inputs files ps e)
  where
    by : (r : Result Part Refusal) (q : Result (List Part) Refusal) → each_ok part_in (inputs ++ files) ≡ (q >>= λ qs. Ok (qs ++ ps))
        → (r >>= λ p. each_ok part_in (inputs ++ files) >>= λ qs. Ok (p ∷ qs))
        ≡ ((r >>= λ p. q >>= λ qs. Ok (p ∷ qs)) >>= λ qs. Ok (qs ++ ps))
    by (Err e) q later = refl
    by (Ok p) (Err e) later = ap (λ (r : Result (List Part) Refusal). r >>= λ qs. Ok (p ∷ qs)) later
    by (Ok p) (Ok qs) later = ap (λ (r : Result (List Part) Refusal). r >>= λ qs. Ok (p ∷ qs)) later

then-both : (r : Result (List Part) Refusal) (ps : List Part) (f : List Part → Result Table Refusal)
    → (r >>= λ qs. f (qs ++ ps)) ≡ ((r >>= λ qs. Ok (qs ++ ps)) >>= f)
then-both (Ok qs) ps f = refl
then-both (Err e) ps f = refl

-- the merge of parts, of these required columns and in this order
abbrev merged_with : List Required → Option RowOrder → List Part → Result Table Refusal
merged_with required order parts = order_over order parts >>= λ order. merged parts required order

-- inputs and a script that requires and orders nothing give what merging inputs and segments gives
pub scripts-stack-files : ScriptsStackFiles
scripts-stack-files inputs files s required order all =
    let own = are-tables s.segments files all in
    let plain : List Part → Result Table Refusal = merged_with [] None in
    ap (λ (r : Result (List Table) Refusal). r >>= λ tables. each_ok part_in inputs >>=
    λ parts. merged_with s.required s.order (parts ++ map part_of_table tables)) own.are
    ∙ ap₂ (λ required order. each_ok part_in inputs >>=
    λ parts. merged_with required order (parts ++ map part_of_table own.tables)) required order
    ∙ then-both (each_ok part_in inputs) (map part_of_table own.tables) plain
    ∙ ap (λ (r : Result (List Part) Refusal). r >>= plain) (sym (parts-behind inputs files (map part_of_table own.tables) own.have))
