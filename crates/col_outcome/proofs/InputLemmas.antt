-- Inputs, read and opened one by one.
use Rattle.std.proofs.Common.{◌≡◌, ℕ, List, [], ◌∷◌, ◌++◌, true, false, Option, Some, None, option_and_then, Err, IfSome, refl, ◌∙◌, inl, inr}
use Rattle.std.specs.List.{list_any}
use Rattle.std.proofs.lemmas.Bool.{or_left, or_right}
use Rattle.col_common.specs.Outside.{SeenFile, Told}
use Rattle.col_common.specs.declared.error.ColumnarError.{ColumnarError}
use Rattle.col_common.specs.declared.error.ColumnarError.TheVariants.{OutOfMemory, ReadFault, WriteFault, InvalidData, BadOrder, BadName, RequiredConflict, CannotCoerce, NumericalConflict, TooLarge, NoCodec, ForcedType, DocOrder, DocOutOfRange, TieBreakerStart, NotUtf8}
use Rattle.col_model.specs.File.{parts_of}
use Rattle.col_model.specs.Keys.{FileKeys, keys}
use Rattle.col_file.specs.Files.{ReadsFile, RefusesFile}
use Rattle.col_common.specs.Causes.{Rose}
use Rattle.col_outcome.proofs.PartLemmas.{keeps-read}
use Rattle.col_file.specs.Readers.{SeenReader}
use Rattle.col_outcome.specs.InMemory.{in_memory_alone}
use Rattle.col_outcome.specs.Inputs.{IsOpened, IsOpenedFrom, is_no_file, RefusesInputs}
use Rattle.col_outcome.specs.Parts.{all_told}

-- bytes without a key table and a footer are no file
pub no_file : (bytes : List ℕ) → keys bytes ≡ None → is_no_file bytes ≡ true
unfolding parts_of
no_file bytes none = rw none refl

-- bytes with them are one
pub a_file : (bytes : List ℕ) (k : FileKeys) → keys bytes ≡ Some k → is_no_file bytes ≡ false
unfolding parts_of
a_file bytes k some = rw some refl

-- bytes in memory that are opened
pub opened : (bytes : List ℕ) (old : SeenFile) (r : SeenReader) → IfSome old.told (λ b. keys b ≡ Some r.keys)
    → r.file.told ≡ old.told → old.told ≡ Some bytes → (r.file.told ≡ Some bytes) × (is_no_file bytes ≡ false)
opened bytes old r has same told = (same ∙ told, a_file bytes r.keys (rw told at has))

-- why bytes in memory aren't opened
pub unopened : (bytes : List ℕ) (old new : SeenFile) (e : ColumnarError) → RefusesFile old new e keys
    → old.told ≡ Some bytes → IsOpenedFrom bytes (Err (in_memory_alone e))
unopened bytes old new OutOfMemory h told = inl refl
unopened bytes old new ReadFault h told = inl refl
unopened bytes old new InvalidData h told = inr (refl, no_file bytes (rw told at h))
unopened bytes old new WriteFault h told = absurd h
unopened bytes old new BadOrder h told = absurd h
unopened bytes old new BadName h told = absurd h
unopened bytes old new RequiredConflict h told = absurd h
unopened bytes old new CannotCoerce h told = absurd h
unopened bytes old new NumericalConflict h told = absurd h
unopened bytes old new TooLarge h told = absurd h
unopened bytes old new NoCodec h told = absurd h
unopened bytes old new ForcedType h told = absurd h
unopened bytes old new DocOrder h told = absurd h
unopened bytes old new DocOutOfRange h told = absurd h
unopened bytes old new TieBreakerStart h told = absurd h
unopened bytes old new NotUtf8 h told = absurd h

-- a file with its key table is opened
pub opened-one : (f : SeenFile) (r : SeenReader) → IfSome f.told (λ bytes. keys bytes ≡ Some r.keys) × ReadsFile 2 f r.file → IsOpened f r
opened-one f r h = record { kept = keeps-read 2 f r.file h.1; whole = by f.told h.0 }
  where
    by : (o : Told) → IfSome o (λ bytes. keys bytes ≡ Some r.keys) → IfSome o (λ bytes. is_no_file bytes ≡ false)
    by None e = tt
    by (Some bytes) e = a_file bytes r.keys e

-- an input that is no file is one of all
no_file-among : (fs gs : List SeenFile) (f : SeenFile) → IfSome f.told (λ bytes. is_no_file bytes ≡ true)
    → IfSome (all_told (fs ++ f ∷ gs)) (λ files. list_any is_no_file files ≡ true)
no_file-among [] gs f bad = by f.told bad (all_told gs)
  where
    by : (t : Told) → IfSome t (λ bytes. is_no_file bytes ≡ true) → (o : Option (List (List ℕ)))
        → IfSome (option_and_then (λ y. option_and_then (λ ys. Some (y ∷ ys)) o) t)
        (λ files. list_any is_no_file files ≡ true)
    by None bad o = tt
    by (Some t) bad None = tt
    by (Some t) bad (Some ys) = or_left (is_no_file t) (list_any is_no_file ys) bad
no_file-among (x ∷ fs) gs f bad = by x.told (all_told (fs ++ f ∷ gs)) (no_file-among fs gs f bad)
  where
    by : (t : Told) (o : Option (List (List ℕ))) → IfSome o (λ files. list_any is_no_file files ≡ true)
        → IfSome (option_and_then (λ y. option_and_then (λ ys. Some (y ∷ ys)) o) t)
        (λ files. list_any is_no_file files ≡ true)
    by None o h = tt
    by (Some t) None h = tt
    by (Some t) (Some ys) h = or_right (is_no_file t) (list_any is_no_file ys) h

no_file-told : (told : Told) → IfSome told (λ bytes. keys bytes ≡ None) → IfSome told (λ bytes. is_no_file bytes ≡ true)
no_file-told None h = tt
no_file-told (Some bytes) h = no_file bytes h

-- why an input among others isn't opened
pub inputs-refused : (fs gs : List SeenFile) (f g : SeenFile) (e : ColumnarError) → RefusesFile f g e keys → RefusesInputs (fs ++ f ∷ gs) e
inputs-refused fs gs f g OutOfMemory h = inl refl
inputs-refused fs gs f g ReadFault h = inr (inl refl)
inputs-refused fs gs f g InvalidData h = inr (inr (refl, no_file-among fs gs f (no_file-told f.told h)))
inputs-refused fs gs f g WriteFault h = absurd h
inputs-refused fs gs f g BadOrder h = absurd h
inputs-refused fs gs f g BadName h = absurd h
inputs-refused fs gs f g RequiredConflict h = absurd h
inputs-refused fs gs f g CannotCoerce h = absurd h
inputs-refused fs gs f g NumericalConflict h = absurd h
inputs-refused fs gs f g TooLarge h = absurd h
inputs-refused fs gs f g NoCodec h = absurd h
inputs-refused fs gs f g ForcedType h = absurd h
inputs-refused fs gs f g DocOrder h = absurd h
inputs-refused fs gs f g DocOutOfRange h = absurd h
inputs-refused fs gs f g TieBreakerStart h = absurd h
inputs-refused fs gs f g NotUtf8 h = absurd h

-- where a read failed, the count rose
pub fault-rose : (f g : SeenFile) (e : ColumnarError) → RefusesFile f g e keys → e ≡ ReadFault → Rose f.faults g.faults
fault-rose f g e h fault = rw fault at h
