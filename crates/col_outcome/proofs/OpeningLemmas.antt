-- Inputs that are opened one by one, and readers that are taken apart one by one.
use Rattle.std.proofs.Common.{◌≡◌, ◌<◌, ℕ, suc, List, [], ◌∷◌, ◌++◌, take, reverse, length, get_or, Ok, Err, Some, refl, sym, ap, ap₂, ◌∙◌, arith}
use Rattle.std.specs.List.{AllZip, AllByRecursion}
use Rattle.std.proofs.Math.Seq.{take-suc}
use Rattle.std.proofs.lemmas.List.{map-append, reverse-append, append-nil, append_assoc}
use Rattle.col_common.specs.declared.error.ColumnarError.{ColumnarError}
use Rattle.col_common.specs.declared.error.ColumnarError.TheVariants.{ReadFault}
use Rattle.col_common.specs.Outside.{SeenFile}
use Rattle.col_file.specs.Files.{ReadsFile, RefusesFile}
use Rattle.col_file.specs.Readers.{SeenReader}
use Rattle.col_model.specs.Keys.{keys}
use Rattle.col_common.proofs.OnOkLemmas.{same-error}
use Rattle.col_outcome.specs.Inputs.{IsOpened, OpensInputs, OpensFiles}
use Rattle.col_outcome.specs.Parts.{given, handed_in, given_in, files_in, all_files, IsUnfailed, AllKeep}
use Rattle.col_outcome.proofs.InputLemmas.{inputs-refused, fault-rose}
use Rattle.col_model.proofs.ListLaws.{zip-more}
use Rattle.col_outcome.proofs.PartLemmas.{keeps-read, all_keep-none, all_keep-append, some_rose-behind, given-first, given-one, made-one, given-pushed, handed-pushed}

-- inputs up to some one were opened, and those behind it are left
pub record Opening {H : Type 0} (see : H → SeenFile) (all : List H) (rs : List SeenReader) (left : List H) : Type 0 where
  pub done : List H
  pub whole : all ≡ done ++ reverse left
  pub opened : AllZip IsOpened (handed_in see done) rs

-- one more was opened
pub opening-more : {H : Type 0} (see : H → SeenFile) (all : List H) (rs more : List SeenReader) (left rest : List H)
    (h : H) (r : SeenReader) → Opening see all rs left → left ≡ rest ++ h ∷ [] → IsOpened (given (see h)) r
    → more ≡ rs ++ r ∷ [] → Opening see all more rest
opening-more see all rs more left rest h r o popped opened grown = record {
  done = o.done ++ h ∷ [];
  whole =
      o.whole ∙ ap (λ hs. o.done ++ hs) (ap reverse popped ∙ reverse-append rest (h ∷ []))
      ∙ sym (append_assoc o.done (h ∷ []) (reverse rest));
  opened =
      rw (map-append (λ h. given (see h)) o.done (h ∷ []), grown)
      (zip-more IsOpened (handed_in see o.done) rs (given (see h)) r o.opened opened);
}

-- what was opened stays
opened-keep : (fs : List SeenFile) (rs : List SeenReader) → AllZip IsOpened fs rs → AllKeep fs (files_in rs)
opened-keep [] [] h = tt
opened-keep [] (r ∷ rs) h = absurd h
opened-keep (f ∷ fs) [] h = absurd h
opened-keep (f ∷ fs) (r ∷ rs) h = (h.0.kept, opened-keep fs rs h.1)

-- it was all handed in
opened-given : {H : Type 0} (see : H → SeenFile) (hs : List H) (rs : List SeenReader)
    → AllZip IsOpened (handed_in see hs) rs → given_in (files_in rs) ≡ files_in rs
opened-given see [] [] h = refl
opened-given see [] (r ∷ rs) h = absurd h
opened-given see (x ∷ hs) [] h = absurd h
opened-given see (x ∷ hs) (r ∷ rs) h =
    given-first r.file (files_in rs) (see x).mark h.0.kept.mark
    ∙ ap (λ fs. r.file ∷ fs) (opened-given see hs rs h.1)

-- a list without items
pub no_items : {A : Type 0} (xs : List A) → length xs ≡ 0 → xs ≡ []
no_items [] e = refl
no_items (x ∷ xs) e = absurd (omega (arith, e))

-- all were opened
pub opening-all :
    {H : Type 0} (see : H → SeenFile) (all : List H) (rs : List SeenReader) (left now : List H) (done : Unit {0})
    → Opening see all rs left → left ≡ [] → now ≡ []
    → OpensInputs (handed_in see all) (Ok done) rs (all_files see rs now)
opening-all see all rs left now done o none still =
    let same : all ≡ o.done = o.whole ∙ ap (λ hs. o.done ++ reverse hs) none ∙ append-nil o.done in
    let files : all_files see rs now ≡ files_in rs =
    ap (λ hs. given_in (files_in rs) ++ handed_in see (reverse hs)) still ∙ append-nil (given_in (files_in rs))
    ∙ opened-given see o.done rs o.opened in
    record {
      opened = rw same o.opened;
      refused = tt;
      read_fault = λ e. cc;
      kept = rw (same, files) (opened-keep (handed_in see o.done) rs o.opened);
    }

-- one was refused, and put back
pub opening-refused : {H : Type 0} (see : H → SeenFile) (all : List H) (rs : List SeenReader)
    (left rest back : List H) (h : H) (f : SeenFile) (e : ColumnarError) → Opening see all rs left
    → left ≡ rest ++ h ∷ [] → RefusesFile (given (see h)) f e keys → ReadsFile 2 (given (see h)) f
    → handed_in see (reverse back) ≡ given_in (f ∷ []) ++ handed_in see (reverse rest)
    → OpensInputs (handed_in see all) (Err e) rs (all_files see rs back)
opening-refused see all rs left rest back h f e o popped refuses reads handed =
    let before : handed_in see all ≡ handed_in see o.done ++ given (see h) ∷ handed_in see (reverse rest) =
    ap (handed_in see) o.whole
    ∙ map-append (λ h. given (see h)) o.done (reverse left)
    ∙ ap (λ fs. handed_in see o.done ++ fs) (handed-pushed see rest left h popped) in
    let after : all_files see rs back ≡ files_in rs ++ f ∷ handed_in see (reverse rest) =
    ap₂ (λ fs gs. fs ++ gs) (opened-given see o.done rs o.opened)
    (handed ∙ ap (λ fs. fs ++ handed_in see (reverse rest)) (given-one f (see h).mark reads.mark)) in
    record {
      opened = tt;
      refused = rw before (inputs-refused (handed_in see o.done) (handed_in see (reverse rest)) (given (see h)) f e refuses);
      read_fault =
          λ fault. rw (before, after) (some_rose-behind (handed_in see o.done) (files_in rs)
          (handed_in see (reverse rest)) (handed_in see (reverse rest)) (given (see h)) f
          (opened-keep (handed_in see o.done) rs o.opened)
          (fault-rose (given (see h)) f e refuses (same-error e ReadFault fault)));
      kept =
          rw (before, after) (all_keep-append (handed_in see o.done) (files_in rs)
          (given (see h) ∷ handed_in see (reverse rest)) (f ∷ handed_in see (reverse rest))
          (opened-keep (handed_in see o.done) rs o.opened)
          (keeps-read 2 (given (see h)) f reads, all_keep-none (handed_in see (reverse rest))));
    }

-- ---- readers that are taken apart, the last one first

-- some readers are taken apart, none of which failed, and the files are the same
pub record Handing {H : Type 0} (see : H → SeenFile) (all : List SeenReader) (old : List H) (rs : List SeenReader)
    (left : List H) : Type 0 where
  pub apart : List SeenReader
  pub whole : all ≡ rs ++ apart
  pub unfailed : AllByRecursion IsUnfailed (files_in apart)
  pub same : all_files see rs left ≡ all_files see all old

-- ---- files that were made, opened behind others

-- those up to a place were
pub record HaveOpened (files : List (List ℕ)) (olds : List SeenReader) (place : ℕ) (rs : List SeenReader) : Type 0 where
  pub opens : OpensFiles (take place files) olds rs
  pub given : given_in (files_in rs) ≡ given_in (files_in olds)

-- one more
pub have_opened-more : (files : List (List ℕ)) (olds : List SeenReader) (i j : ℕ) (rs more : List SeenReader)
    (d : List ℕ) (r : SeenReader) → HaveOpened files olds i rs → i < length files → j ≡ suc i
    → r.file.told ≡ Some (get_or files i d) → r.file.mark ≡ 0 → more ≡ rs ++ r ∷ [] → HaveOpened files olds j more
have_opened-more files olds i j rs more d r h within step told mark grown = record {
  opens = record {
    made = h.opens.made ++ r ∷ [];
    behind = grown ∙ ap (λ ss. ss ++ r ∷ []) h.opens.behind ∙ append_assoc olds h.opens.made (r ∷ []);
    told =
        rw (step, take-suc files i d within) (zip-more (λ bytes (s : SeenReader). s.file.told ≡ Some bytes)
        (take i files) h.opens.made (get_or files i d) r h.opens.told told);
  };
  given =
      given-pushed rs more r grown ∙ ap (λ fs. given_in (files_in rs) ++ fs) (made-one r.file mark)
      ∙ append-nil (given_in (files_in rs)) ∙ h.given;
}
