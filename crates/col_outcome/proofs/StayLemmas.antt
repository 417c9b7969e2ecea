-- What a merge leaves of readers' files.
use Rattle.std.proofs.Common.{◌≡◌, ℕ, zero, suc, List, [], ◌∷◌, reverse, Some, slice_get, refl, sym, ◌∙◌, subst, arith, inl, inr}
use Rattle.std.specs.List.{AllByRecursion}
use Rattle.std.proofs.lemmas.Option.{same_Some}
use Rattle.col_common.specs.Causes.{Rose}
use Rattle.col_common.specs.Outside.{SeenFile}
use Rattle.col_file.specs.Readers.{SeenReader}
use Rattle.col_merge.specs.Readings.{AllRead, SomeReaderRose}
use Rattle.col_model.specs.Keys.{FileKeys}
use Rattle.col_outcome.specs.Parts.{handed_in, given_in, files_in, all_files, IsUnfailed, KeepsFile, AllKeep, SomeFileRose}
use Rattle.col_outcome.proofs.PartLemmas.{keeps-read, all_keep-none, all_keep-then, all_keep-append, given-first, made-first}

-- files that were handed in stay among others
stay-keep : (times : FileKeys → ℕ) (rs ss : List SeenReader) → AllRead times rs ss
    → AllKeep (given_in (files_in rs)) (given_in (files_in ss))
stay-keep times [] [] h = tt
stay-keep times [] (s ∷ ss) h = absurd h
stay-keep times (r ∷ rs) [] h = absurd h
stay-keep times (r ∷ rs) (s ∷ ss) h =
    by r.file.mark refl h.0.file.mark (keeps-read (times r.keys) r.file s.file h.0.file) (stay-keep times rs ss h.1)
  where
    by : (m : ℕ) → r.file.mark ≡ m → s.file.mark ≡ r.file.mark → KeepsFile r.file s.file
        → AllKeep (given_in (files_in rs)) (given_in (files_in ss))
        → AllKeep (given_in (files_in (r ∷ rs))) (given_in (files_in (s ∷ ss)))
    by zero e same keep rest =
        subst (λ xs. AllKeep xs (given_in (files_in (s ∷ ss)))) (sym (made-first r.file (files_in rs) e))
        (subst (λ ys. AllKeep (given_in (files_in rs)) ys) (sym (made-first s.file (files_in ss) (same ∙ e))) rest)
    by (suc n) e same keep rest =
        subst (λ xs. AllKeep xs (given_in (files_in (s ∷ ss)))) (sym (given-first r.file (files_in rs) n e))
        (subst (λ ys. AllKeep (r.file ∷ given_in (files_in rs)) ys) (sym (given-first s.file (files_in ss) n (same ∙ e))) (keep, rest))

-- files in readers and those that are left are kept while the readers stay
pub merged-keep : {H : Type 0} (see : H → SeenFile) (left : List H) (times : FileKeys → ℕ) (fs : List SeenFile)
    (rs ss : List SeenReader) → AllKeep fs (all_files see rs left) → AllRead times rs ss
    → AllKeep fs (all_files see ss left)
merged-keep see left times fs rs ss keep stay =
    all_keep-then fs (all_files see rs left) (all_files see ss left) keep
    (all_keep-append (given_in (files_in rs)) (given_in (files_in ss)) (handed_in see (reverse left))
    (handed_in see (reverse left)) (stay-keep times rs ss stay) (all_keep-none (handed_in see (reverse left))))

-- a count that is 0 never rose
unfailed-still : (a b : ℕ) → b ≡ 0 → Rose a b → ⊥
unfailed-still a b none rose = omega (arith, none, rose)

-- the file whose count rose was handed in
rose-at : (times : FileKeys → ℕ) (rs ss : List SeenReader) (at : ℕ) (old new : SeenReader) → slice_get rs at ≡ Some old
    → slice_get ss at ≡ Some new → Rose old.file.faults new.file.faults → AllRead times rs ss
    → AllByRecursion IsUnfailed (files_in ss) → SomeFileRose (given_in (files_in rs)) (given_in (files_in ss))
rose-at times [] ss zero old new was is rose stay unfailed = cc
rose-at times [] ss (suc at) old new was is rose stay unfailed = cc
rose-at times (r ∷ rs) [] at old new was is rose stay unfailed = absurd stay
rose-at times (r ∷ rs) (s ∷ ss) zero old new was is rose stay unfailed = by r.file.mark refl stay.0.file.mark
  where
    here : Rose r.file.faults s.file.faults
    here = rw (← same_Some r old was, ← same_Some s new is) at rose

    by : (m : ℕ) → r.file.mark ≡ m → s.file.mark ≡ r.file.mark → SomeFileRose (given_in (files_in (r ∷ rs))) (given_in (files_in (s ∷ ss)))
    by zero e same = absurd (unfailed-still r.file.faults s.file.faults (unfailed.0 (same ∙ e)) here)
    by (suc n) e same = rw (same, e) (inl here)
rose-at times (r ∷ rs) (s ∷ ss) (suc at) old new was is rose stay unfailed =
    by r.file.mark refl stay.0.file.mark (rose-at times rs ss at old new was is rose stay.1 unfailed.1)
  where
    by : (m : ℕ) → r.file.mark ≡ m → s.file.mark ≡ r.file.mark
        → SomeFileRose (given_in (files_in rs)) (given_in (files_in ss))
        → SomeFileRose (given_in (files_in (r ∷ rs))) (given_in (files_in (s ∷ ss)))
    by zero e same rest = rw (same, e) rest
    by (suc n) e same rest = rw (same, e) (inr rest)

-- a reader's fault is one of a file that was handed in, since made files never fail
pub reader-rose : (times : FileKeys → ℕ) (rs ss : List SeenReader) → SomeReaderRose rs ss → AllRead times rs ss
    → AllByRecursion IsUnfailed (files_in ss) → SomeFileRose (given_in (files_in rs)) (given_in (files_in ss))
reader-rose times rs ss h stay unfailed = rose-at times rs ss h.at h.old h.new h.was h.is h.rose stay unfailed
