-- What inputs and a script's segments come to.
use Rattle.std.proofs.Common.{◌≡◌, ◌+◌, ℕ, List, [], ◌∷◌, ◌++◌, map, reverse, length, Bool, true, false, Option, Some, None, option_and_then, Result, Ok, Err, IfSome, inl, inr, refl, sym, ap, ap₂, ◌∙◌, subst}
use Rattle.std.specs.List.{AllZip, AllByRecursion, list_any}
use Rattle.std.specs.Prelude.{◌||◌, is_none}
use Rattle.std.proofs.lemmas.List.{length-append, length-map, length-reverse}
use Rattle.std.proofs.lemmas.Option.{same_Some}
use Rattle.std.proofs.lemmas.Slice.Zip.{AllZip-long}
use Rattle.col_common.specs.Outside.{SeenFile, Told}
use Rattle.col_common.specs.Reading.{◌>>=◌}
use Rattle.col_common.specs.declared.error.ColumnarError.{ColumnarError}
use Rattle.col_common.specs.declared.error.ColumnarError.TheVariants.{OutOfMemory, ReadFault}
use Rattle.col_file.specs.Readers.{SeenReader}
use Rattle.col_merge.specs.Parts.{told_part, told_parts}
use Rattle.col_merge.specs.Turns.{refusal_of}
use Rattle.col_model.specs.File.{Part, StandsFor, parts_of, part_of_table}
use Rattle.col_model.specs.Keys.{FileKeys}
use Rattle.col_model.specs.Merge.{Required}
use Rattle.col_program.specs.Outcome.{segment_table, script_table}
use Rattle.col_model.specs.Refusal.{Refusal, or_refuse, each_ok, invalid_data}
use Rattle.col_model.specs.Refusal as refusals
use Rattle.col_program.specs.Script.{Script, Question, RowOrder}
use Rattle.col_model.specs.Table.{Table}
use Rattle.col_writer_columns.specs.Answers.{MayRefuse, answer_of}
use Rattle.col_common.proofs.OnOkLemmas.{same-error}
use Rattle.col_outcome.specs.Inputs.{IsOpened, is_no_file, RefusesInputs, OpensInputs, OpensFiles}
use Rattle.col_outcome.specs.Making.{Makes, MakesIfRead, MergesInputs, MergesReaders, IsMergeRefusal, IsMade, AreReadersOf, merged_over, inputs_table}
use Rattle.col_outcome.specs.Parts.{given, handed_in, given_in, files_in, all_files, all_told, IsUnfailed, AllKeep}
use Rattle.col_outcome.specs.declared.merging.FileAndReport.{FileAndReport}
use Rattle.col_outcome.proofs.PartLemmas.{all_keep-long, some_rose-later, some_rose-first}
use Rattle.col_outcome.proofs.StayLemmas.{reader-rose, merged-keep}
use Rattle.col_model.proofs.PartLaws.{whole-part}

-- what is read of an input
abbrev input_part : List ℕ → Result Part Refusal
input_part bytes = or_refuse (parts_of bytes) invalid_data

-- an input that is a file has a part
part-in : (bytes : List ℕ) → is_no_file bytes ≡ false → (p : Part) × (parts_of bytes ≡ Some p)
part-in bytes = by (parts_of bytes)
  where
    by : (o : Option Part) → is_none o ≡ false → (p : Part) × (o ≡ Some p)
    by None h = cc
    by (Some p) h = (p, refl)

-- where inputs tell, their parts are those of what they tell
record InputParts (files : List (List ℕ)) (rs : List SeenReader) : Type 0 where
  parts : List Part
  read : told_parts rs ≡ Some parts
  are : each_ok input_part files ≡ Ok parts

one-more : (t : Told) (r : SeenReader) (rs : List SeenReader) (o : Option (List (List ℕ))) (files : List (List ℕ))
    → r.file.told ≡ t → IfSome t (λ bytes. is_no_file bytes ≡ false)
    → ((ys : List (List ℕ)) → o ≡ Some ys → InputParts ys rs)
    → option_and_then (λ y. option_and_then (λ ys. Some (y ∷ ys)) o) t ≡ Some files → InputParts files (r ∷ rs)
one-more None r rs o files told whole later e = cc
one-more (Some t) r rs None files told whole later e = cc
one-more (Some t) r rs (Some ys) files told whole later e =
    let p = part-in t whole in
    let rest = later ys refl in
    subst (λ fs. InputParts fs (r ∷ rs)) (same_Some (t ∷ ys) files e) (record {
      parts = p.0 ∷ rest.parts;
      read = ap₂ (λ o q. o >>= λ y. q >>= λ ys. Some (y ∷ ys)) (ap (λ o. o >>= parts_of) told ∙ p.1) rest.read;
      are = rw (p.1, rest.are) refl;
    })

input-parts : (fs : List SeenFile) (rs : List SeenReader) (files : List (List ℕ)) → AllZip IsOpened fs rs
    → all_told fs ≡ Some files → InputParts files rs
input-parts [] [] files h e = subst (λ fs. InputParts fs []) (same_Some [] files e) (record { parts = []; read = refl; are = refl })
input-parts [] (r ∷ rs) files h e = absurd h
input-parts (f ∷ fs) [] files h e = absurd h
input-parts (f ∷ fs) (r ∷ rs) files h e =
    one-more f.told r rs (all_told fs) files h.0.kept.told h.0.whole
    (λ ys g. input-parts fs rs ys h.1 g) e

-- an input that is no file
no_file-refused : (files : List (List ℕ)) → list_any is_no_file files ≡ true → each_ok input_part files ≡ Err invalid_data
no_file-refused [] h = cc
no_file-refused (f ∷ files) h = by (parts_of f) refl h (no_file-refused files)
  where
    by : (o : Option Part) → parts_of f ≡ o → (is_none o || list_any is_no_file files) ≡ true
        → (list_any is_no_file files ≡ true → each_ok input_part files ≡ Err invalid_data)
        → each_ok input_part (f ∷ files) ≡ Err invalid_data
    by None e h later = rw e refl
    by (Some p) e h later = rw (e, later h) refl

-- the parts of files of tables
files-parts : (tables : List Table) (rs : List SeenReader) → AreReadersOf tables rs → told_parts rs ≡ Some (map part_of_table tables)
files-parts [] [] h = refl
files-parts [] (r ∷ rs) h = absurd h
files-parts (t ∷ tables) [] h = absurd h
files-parts (t ∷ tables) (r ∷ rs) h = ap₂ (λ o q. o >>= λ y. q >>= λ ys. Some (y ∷ ys)) h.0 (files-parts tables rs h.1)

-- the parts of some files and of others behind them
parts-append : (xs ys : List SeenReader) (ps qs : List Part) → told_parts xs ≡ Some ps → told_parts ys ≡ Some qs
    → told_parts (xs ++ ys) ≡ Some (ps ++ qs)
parts-append [] ys ps qs e f = f ∙ ap (λ ps. Some (ps ++ qs)) (same_Some [] ps e)
parts-append (x ∷ xs) ys ps qs e f = by (told_part x) refl (told_parts xs) refl e (λ zs rest. parts-append xs ys zs qs rest f)
  where
    by : (o : Option Part) → told_part x ≡ o → (q : Option (List Part)) → told_parts xs ≡ q
        → option_and_then (λ y. option_and_then (λ zs. Some (y ∷ zs)) q) o ≡ Some ps
        → ((zs : List Part) → told_parts xs ≡ Some zs → told_parts (xs ++ ys) ≡ Some (zs ++ qs))
        → told_parts (x ∷ (xs ++ ys)) ≡ Some (ps ++ qs)
    by None at q rest h later = cc
    by (Some p) at None rest h later = cc
    by (Some p) at (Some zs) rest h later =
        ap₂ (λ o q. o >>= λ y. q >>= λ ys. Some (y ∷ ys)) at (later zs rest)
        ∙ ap (λ ps. Some (ps ++ qs)) (same_Some (p ∷ zs) ps h)

-- files of tables that were opened
files-opened : (tables : List Table) (files : List (List ℕ)) (rs : List SeenReader) → AllZip StandsFor tables files
    → AllZip (λ bytes (r : SeenReader). r.file.told ≡ Some bytes) files rs → AreReadersOf tables rs
files-opened [] [] [] h k = tt
files-opened [] [] (r ∷ rs) h k = absurd k
files-opened [] (f ∷ files) rs h k = absurd h
files-opened (t ∷ tables) [] rs h k = absurd h
files-opened (t ∷ tables) (f ∷ files) [] h k = absurd k
files-opened (t ∷ tables) (f ∷ files) (r ∷ rs) h k =
    (ap (λ o. o >>= parts_of) k.0 ∙ whole-part f t h.0.content, files-opened tables files rs h.1 k.1)

-- ---- what is made of inputs

-- what is made of open inputs, and of files behind them
merge-made : (IsOf : Table → FileAndReport → Type 0) (times : FileKeys → ℕ) (fs : List SeenFile) (rs ss us : List SeenReader)
    (files : List (List ℕ)) (tables : List Table) (required : List Required) (order : Option RowOrder)
    (result : Result FileAndReport ColumnarError) → AllZip IsOpened fs rs → OpensFiles files rs ss
    → MergesReaders IsOf times ss us result (merged_over required order)
    → AllZip StandsFor tables files
    → IfSome (all_told fs)
    (λ inputs. MakesIfRead IsOf result (inputs_table inputs tables required order))
merge-made IsOf times fs rs ss us files tables required order result opened opens merges stand = by (all_told fs) refl
  where
    by : (o : Option (List (List ℕ))) → all_told fs ≡ o
        → IfSome o (λ inputs. MakesIfRead IsOf result (inputs_table inputs tables required order))
    by None told = tt
    by (Some inputs) told =
        let i = input-parts fs rs inputs opened told in
        let behind = files-parts tables opens.made (files-opened tables files opens.made stand opens.told) in
        let all = merges.made (i.parts ++ map part_of_table tables) (ap told_parts opens.behind
        ∙ parts-append rs opens.made i.parts (map part_of_table tables) i.read behind) in
        rw i.are all

-- what a merge leaves of files that were handed in
pub inputs-merged : {H : Type 0} (see : H → SeenFile) (left : List H) (IsOf : Table → FileAndReport → Type 0)
    (times : FileKeys → ℕ) (fs : List SeenFile) (rs ss us : List SeenReader) (files : List (List ℕ)) (required : List Required)
    (order : Option RowOrder) (result : Result FileAndReport ColumnarError) → AllZip IsOpened fs rs
    → OpensFiles files rs ss
    → MergesReaders IsOf times ss us result (merged_over required order)
    → AllKeep fs (all_files see rs left) → given_in (files_in ss) ≡ given_in (files_in rs)
    → AllByRecursion IsUnfailed (files_in us) → MergesInputs IsOf fs (all_files see us left) files required order result
inputs-merged see left IsOf times fs rs ss us files required order result opened opens merges keep same unfailed =
    let keep_both : AllKeep fs (all_files see ss left) = rw same keep in
    record {
      made = λ tables stand. merge-made IsOf times fs rs ss us files tables required order result opened opens merges stand;
      known = merges.known;
      read_fault =
          λ e. some_rose-later fs (all_files see ss left) (all_files see us left) keep_both (some_rose-first
          (given_in (files_in ss)) (given_in (files_in us)) (handed_in see (reverse left))
          (handed_in see (reverse left)) (reader-rose times ss us (merges.read_fault e) merges.stay unfailed));
      kept = merged-keep see left times fs ss us keep_both merges.stay;
    }

-- ---- refusals

-- want of memory, with all handed back
pub inputs-memory : (IsOf : Table → FileAndReport → Type 0) (olds news : List SeenFile) (files : List (List ℕ))
    (required : List Required) (order : Option RowOrder) (e : ColumnarError) → e ≡ OutOfMemory
    → AllKeep olds news → MergesInputs IsOf olds news files required order (Err e)
inputs-memory IsOf olds news files required order e memory keep = record {
  made = λ tables stand. by (all_told olds) tables;
  known = inl memory;
  read_fault = λ fault. absurd (memory_no_fault (sym memory ∙ same-error e ReadFault fault));
  kept = keep;
}
  where
    by : (o : Option (List (List ℕ))) (tables : List Table)
        → IfSome o (λ inputs. MakesIfRead IsOf (Err e) (inputs_table inputs tables required order))
    by None tables = tt
    by (Some inputs) tables = record { ok = tt; refused = inr (inl memory) }

    memory_no_fault : OutOfMemory ≡ ReadFault → ⊥
    memory_no_fault h = cc

-- an input that wasn't opened
inputs-refuse : (IsOf : Table → FileAndReport → Type 0) (fs : List SeenFile) (inputs : List (List ℕ)) (tables : List Table)
    (required : List Required) (order : Option RowOrder) (e : ColumnarError)
    → all_told fs ≡ Some inputs → RefusesInputs fs e
    → MakesIfRead {B = FileAndReport} IsOf (Err e) (inputs_table inputs tables required order)
inputs-refuse IsOf fs inputs tables required order e told (inl memory) = record { ok = tt; refused = inr (inl memory) }
inputs-refuse IsOf fs inputs tables required order e told (inr (inl fault)) = record { ok = tt; refused = inl fault }
inputs-refuse IsOf fs inputs tables required order e told (inr (inr bad)) =
    record { ok = tt; refused = inr (inr (invalid_data, rw (no_file-refused inputs (rw told at bad.1)) refl, bad.0)) }

known-inputs : (fs : List SeenFile) (e : ColumnarError) → RefusesInputs fs e → IsMergeRefusal e
known-inputs fs e (inl memory) = inl memory
known-inputs fs e (inr (inl fault)) = inr (inl fault)
known-inputs fs e (inr (inr bad)) = inr (inr (invalid_data, ap refusal_of bad.0))

-- a refusal to open the inputs is one of the merge
pub inputs-unopened : (IsOf : Table → FileAndReport → Type 0) (fs now : List SeenFile) (rs : List SeenReader)
    (files : List (List ℕ)) (required : List Required) (order : Option RowOrder) (e : ColumnarError)
    → OpensInputs fs (Err e) rs now → MergesInputs IsOf fs now files required order (Err e)
inputs-unopened IsOf fs now rs files required order e h = record {
  made = λ tables stand. by (all_told fs) refl tables;
  known = known-inputs fs e h.refused;
  read_fault = λ fault. h.read_fault (ap Err (same-error e ReadFault fault));
  kept = h.kept;
}
  where
    by : (o : Option (List (List ℕ))) → all_told fs ≡ o → (tables : List Table)
        → IfSome o (λ inputs. MakesIfRead IsOf (Err e) (inputs_table inputs tables required order))
    by None told tables = tt
    by (Some inputs) told tables = inputs-refuse IsOf fs inputs tables required order e told h.refused

-- ---- handing back

-- as many as there were
pub held-long : {H : Type 0} (see : H → SeenFile) (turned left : List H) (rs : List SeenReader)
    → AllKeep (handed_in see (reverse turned)) (all_files see rs left)
    → length (given_in (files_in rs)) + length left ≡ length turned
held-long see turned left rs keep =
    ap (λ n. length (given_in (files_in rs)) + n) (sym (length-map (reverse left) (λ h. given (see h)) ∙ length-reverse left))
    ∙ sym (length-append (given_in (files_in rs)) (handed_in see (reverse left)))
    ∙ sym (all_keep-long (handed_in see (reverse turned)) (all_files see rs left) keep)
    ∙ length-map (reverse turned) (λ h. given (see h)) ∙ length-reverse turned

-- as many readers
pub opened-long : {H : Type 0} (see : H → SeenFile) (left : List H) (rs : List SeenReader)
    → AllZip IsOpened (handed_in see (reverse left)) rs → length rs ≡ length left
opened-long see left rs opened =
    AllZip-long IsOpened (handed_in see (reverse left)) rs opened ∙ length-map (reverse left) (λ h. given (see h))
    ∙ length-reverse left

-- ---- a script

-- no refusal of the definitions is a failed read
no_fault : (r : Refusal) → answer_of r ≡ ReadFault → ⊥
no_fault refusals.invalid_data h = cc
no_fault refusals.bad_order h = cc
no_fault refusals.bad_name h = cc
no_fault refusals.required_conflict h = cc
no_fault refusals.cannot_coerce h = cc
no_fault refusals.numerical_conflict h = cc
no_fault refusals.too_large h = cc
no_fault refusals.forced_type h = cc
no_fault refusals.doc_order h = cc
no_fault refusals.doc_out_of_range h = cc
no_fault refusals.tie_breaker_start h = cc

-- where a segment is refused, no read failed
pub known-fault : {A : Type 0} (expected : Result A Refusal) (e : ColumnarError) → MayRefuse expected e → e ≡ ReadFault → ⊥
known-fault expected e (inl memory) fault = cc
known-fault expected e (inr (r, at, answer)) fault = no_fault r (sym answer ∙ fault)

-- parts tell what the inputs tell
told-each : {H : Type 0} (see : H → SeenFile) (hs : List H) → all_told (handed_in see hs) ≡ all_told (map see hs)
told-each see [] = refl
told-each see (h ∷ hs) = ap (λ o. option_and_then (λ y. option_and_then (λ ys. Some (y ∷ ys)) o) (see h).told) (told-each see hs)

-- what a script comes to, where its segments have these files
pub script-made : {H : Type 0} (see : H → SeenFile) (olds : List H) (news : List SeenFile) (s : Script) (short : Bool)
    (questions : List Question) (files : List (List ℕ)) (required : List Required) (order : Option RowOrder)
    (result : Result FileAndReport ColumnarError)
    → Makes (λ tables (fs : List (List ℕ)). AllZip StandsFor tables fs) (Ok files)
    (each_ok segment_table s.segments) → s.required ≡ required → s.order ≡ order → s.questions ≡ questions
    → MergesInputs (IsMade short questions) (handed_in see olds) news files required order result
    → IfSome (all_told (map see olds)) (λ inputs. MakesIfRead (IsMade short s.questions) result (script_table inputs s))
script-made see olds news s short questions files required order result makes same_required same_order same_questions merges = by makes.ok
  where
    in_script : (tables : List Table) → each_ok segment_table s.segments ≡ Ok tables → (inputs : List (List ℕ))
        → MakesIfRead (IsMade short questions) result (inputs_table inputs tables required order)
        → MakesIfRead (IsMade short s.questions) result (script_table inputs s)
    in_script tables segments inputs h = rw (segments, same_required, same_order, same_questions) h

    over : (o : Option (List (List ℕ))) (tables : List Table) → each_ok segment_table s.segments ≡ Ok tables
        → IfSome o (λ inputs. MakesIfRead (IsMade short questions) result (inputs_table inputs tables required order))
        → IfSome o (λ inputs. MakesIfRead (IsMade short s.questions) result (script_table inputs s))
    over None tables segments h = tt
    over (Some inputs) tables segments h = in_script tables segments inputs h

    by : ((tables : List Table) × (each_ok segment_table s.segments ≡ Ok tables) × AllZip StandsFor tables files)
        → IfSome (all_told (map see olds))
        (λ inputs. MakesIfRead (IsMade short s.questions) result (script_table inputs s))
    by (tables, segments, stand) =
        over (all_told (map see olds)) tables segments (subst (λ o. IfSome o
        (λ inputs. MakesIfRead (IsMade short questions) result (inputs_table inputs tables required order)))
        (told-each see olds) (merges.made tables stand))
