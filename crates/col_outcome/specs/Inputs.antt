-- Inputs that are opened.
use Rattle.std.specs.Prelude.{◌≡◌, ◌⊎◌, ℕ, Bool, true, false, List, ◌++◌, Some, is_none, Result, Ok, Err, IfOk, IfErr, IfSome}
use Rattle.std.specs.List.{AllZip, list_any}
use Rattle.col_common.specs.declared.error.ColumnarError.{ColumnarError}
use Rattle.col_common.specs.declared.error.ColumnarError.TheVariants.{OutOfMemory, ReadFault, InvalidData}
use Rattle.col_model.specs.File.{parts_of}
use Rattle.col_common.specs.Outside.{SeenFile}
use Rattle.col_file.specs.Readers.{SeenReader}
use Rattle.col_outcome.specs.Parts.{KeepsFile, AllKeep, SomeFileRose, all_told}

-- the bytes are no file
abbrev pub is_no_file : List ℕ → Bool
is_no_file bytes = is_none (parts_of bytes)

-- The bytes are the file of the reader, or no file.
abbrev pub IsOpenedFrom : List ℕ → Result SeenReader ColumnarError → Type 0
IsOpenedFrom bytes (Ok r) = (r.file.told ≡ Some bytes) × (is_no_file bytes ≡ false)
IsOpenedFrom bytes (Err e) =
    (e ≡ OutOfMemory) ⊎ ((e ≡ InvalidData) × (is_no_file bytes ≡ true))

-- a reader of a file, which is what the file tells
pub record IsOpened (f : SeenFile) (r : SeenReader) : Type 0 where
  pub kept : KeepsFile f r.file
  pub whole : IfSome f.told (λ bytes. is_no_file bytes ≡ false)

-- Why files aren't all opened: InvalidData says that one is no file.
abbrev pub RefusesInputs : List SeenFile → ColumnarError → Type 0
RefusesInputs fs e = (e ≡ OutOfMemory) ⊎ ((e ≡ ReadFault) ⊎ ((e ≡ InvalidData)
    × IfSome (all_told fs) (λ files. list_any is_no_file files ≡ true)))

-- Files were opened in order; or one refused, and all are held still.
pub record OpensInputs (fs : List SeenFile) (result : Result (Unit {0}) ColumnarError)
    (rs : List SeenReader) (held : List SeenFile) : Type 0 where
  pub opened : IfOk result (λ done. AllZip IsOpened fs rs)
  pub refused : IfErr result (RefusesInputs fs)
  pub read_fault : result ≡ Err ReadFault → SomeFileRose fs held
  pub kept : AllKeep fs held

-- files with these bytes were opened behind others
pub record OpensFiles (files : List (List ℕ)) (olds news : List SeenReader) : Type 0 where
  pub made : List SeenReader
  pub behind : news ≡ olds ++ made
  pub told : AllZip (λ bytes (r : SeenReader). r.file.told ≡ Some bytes) files made
