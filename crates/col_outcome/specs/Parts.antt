-- Files that were handed in, and files that were made.
use Rattle.std.specs.Prelude.{◌≡◌, ◌≤◌, ◌⊎◌, ℕ, zero, suc, Bool, true, false, List, [], ◌∷◌, ◌++◌, map, filter, reverse, Option, refl}
use Rattle.std.specs.List.{AllZip}
use Rattle.col_common.specs.Causes.{Rose}
use Rattle.col_common.specs.Outside.{SeenFile, IsToldWhole, told_file}
use Rattle.col_file.specs.Readers.{SeenReader}
use Rattle.col_model.specs.File.{for_each}
use Rattle.col_outcome.specs.declared.part.Part.{Part}
use Rattle.col_outcome.specs.declared.part.Part.TheVariants.{Given, Made}

-- a file that was handed in, as a part is seen
abbrev pub given : SeenFile → SeenFile
given f = record {
  told = f.told;
  size = f.size;
  faults = f.faults;
  reads = f.reads;
  mark = suc f.mark;
}

-- what contracts see of a part; a made one never fails
abbrev pub seen_as_part : {H : Type 0} → (H → SeenFile) → Part H → SeenFile
seen_as_part see (Given h) = given (see h)
seen_as_part see (Made m) = told_file m.bytes 0 m.calls.made

-- what it tells is as long as it is
pub part_told_whole : {H : Type 0} (see : H → SeenFile) → ((h : H) → IsToldWhole (see h)) →
    (p : Part H) → IsToldWhole (seen_as_part see p)
part_told_whole see whole (Given h) = whole h
part_told_whole see whole (Made m) = refl

-- the bytes of files, where each tells its own
abbrev pub all_told : List SeenFile → Option (List (List ℕ))
all_told fs = for_each (λ f. f.told) fs

-- files that were handed in, as parts are seen
abbrev pub handed_in : {H : Type 0} → (H → SeenFile) → List H → List SeenFile
handed_in see hs = map (λ h. given (see h)) hs

-- the mark is that of a file that was handed in
abbrev pub is_above_zero : ℕ → Bool
is_above_zero zero = false
is_above_zero (suc n) = true

-- a file was handed in
abbrev pub is_given : SeenFile → Bool
is_given f = is_above_zero f.mark

-- those of files that were handed in
abbrev pub given_in : List SeenFile → List SeenFile
given_in fs = filter is_given fs

-- the files of readers
abbrev pub files_in : List SeenReader → List SeenFile
files_in rs = map (λ r. r.file) rs

-- All files that were handed in: those in readers, and those that are left, the last one first.
abbrev pub all_files : {H : Type 0} → (H → SeenFile) → List SeenReader → List H → List SeenFile
all_files see rs left = given_in (files_in rs) ++ handed_in see (reverse left)

-- a made file never fails
abbrev pub IsUnfailed : SeenFile → Type 0
IsUnfailed f = f.mark ≡ 0 → f.faults ≡ 0

-- a file stays as it was but for its counts
pub record KeepsFile (old new : SeenFile) : Type 0 where
  pub told : new.told ≡ old.told
  pub size : new.size ≡ old.size
  pub later : old.faults ≤ new.faults
  pub mark : new.mark ≡ old.mark

-- the same of all
abbrev pub AllKeep : List SeenFile → List SeenFile → Type 0
AllKeep olds news = AllZip KeepsFile olds news

-- some file's count of faults rose
abbrev pub SomeFileRose : List SeenFile → List SeenFile → Type 0
SomeFileRose [] news = ⊥
SomeFileRose (f ∷ olds) [] = ⊥
SomeFileRose (f ∷ olds) (g ∷ news) = Rose f.faults g.faults ⊎ SomeFileRose olds news
