-- What is answered of the open columns of a file is answered of the file.
use Rattle.std.proofs.Common.{◌≡◌, ℕ, List, length, count_by, Bool, Option, Some, None, Result, Ok, Err, IfOk, IfErr, IfSome, sym, ◌∙◌, subst}
use Rattle.col_common.specs.Outside.{SeenFile}
use Rattle.col_common.specs.declared.error.ColumnarError.{ColumnarError}
use Rattle.col_common.specs.declared.error.ColumnarError.TheVariants.{OutOfMemory, ReadFault, InvalidData}
use Rattle.col_file.specs.Files.{IsExpected, RefusesFile, AnswersForHandle}
use Rattle.col_file.specs.Readers.{SeenReader, IsRead, Reads}
use Rattle.col_file.proofs.ReadLemmas.{reads-most}
use Rattle.col_model.specs.Keys.{keys}
use Rattle.col_model.proofs.DecodedTables.{keys-are}
use Rattle.col_opened.specs.Chosen.{table_where}
use Rattle.col_query.specs.Named.{entries_of, table_named, AreMarks}
use Rattle.col_query.proofs.NameLemmas.{marks-are, marks-few, table-same}
use Rattle.col_questions.specs.Steps.{tree_of, AreSteps}
use Rattle.col_questions.specs.declared.step.Step.{Step}

-- two readings of a file that agree where it tells its bytes
abbrev pub Agree : {V : Type 0} → Option (List ℕ) → (List ℕ → Option V) → (List ℕ → Option V) → Type 0
Agree told f g = IfSome told (λ bytes. f bytes ≡ g bytes)

-- the marked columns of a file are those that the query names
pub tables-agree : (r : SeenReader) (ss : List Step) (flags : List Bool) → IsRead r → AreSteps ss
    → AreMarks ss r.keys.entries flags → Agree r.file.told (table_where flags) (table_named (tree_of ss))
tables-agree r ss flags read are m = by r.file.told read.told
  where
    by : (told : Option (List ℕ)) → IfSome told (λ bytes. keys bytes ≡ Some r.keys)
        → Agree told (table_where flags) (table_named (tree_of ss))
    by None h = tt
    by (Some bytes) h =
        table-same (tree_of ss) bytes r.keys flags h (marks-are ss r.keys.entries flags are m (keys-are bytes r.keys h))

-- the same of a query by its steps
pub asked-agree : (r : SeenReader) (ss own : List Step) (flags : List Bool) → IsRead r → ss ≡ own → AreSteps ss
    → AreMarks ss r.keys.entries flags → Agree r.file.told (table_where flags) (table_named (tree_of own))
asked-agree r ss own flags read same are m =
    subst (λ ss. Agree r.file.told (table_where flags) (table_named (tree_of ss))) same (tables-agree r ss flags read are m)

-- and no more columns are read than it names
pub asked-few : (old new : SeenReader) (ss own : List Step) (flags : List Bool) → ss ≡ own → AreSteps ss
    → AreMarks ss old.keys.entries flags → Reads (count_by (λ w. w) flags) old new
    → Reads (length (entries_of (tree_of own) old.keys.entries)) old new
asked-few old new ss own flags same are m reads =
    subst (λ ss. Reads (length (entries_of (tree_of ss) old.keys.entries)) old new) same
    (reads-most (count_by (λ w. w) flags) (length (entries_of (tree_of ss) old.keys.entries)) old new
    (marks-few ss old.keys.entries flags are m) reads)

none-same : {V : Type 0} (told : Option (List ℕ)) (f g : List ℕ → Option V) → Agree told f g
    → IfSome told (λ bytes. f bytes ≡ None) → IfSome told (λ bytes. g bytes ≡ None)
none-same None f g same h = tt
none-same (Some bytes) f g same h = sym same ∙ h

-- a refusal of the one reading is one of the other
pub refuses-same : {V : Type 0} (old new : SeenFile) (f g : List ℕ → Option V) (e : ColumnarError) → Agree old.told f g
    → RefusesFile old new e f → RefusesFile old new e g
refuses-same old new f g OutOfMemory same h = tt
refuses-same old new f g InvalidData same h = none-same old.told f g same h
refuses-same old new f g ReadFault same h = h
refuses-same old new f g _ same h = absurd h

made-then : {C T V : Type 0} (Is : V → C → Type 0) (R : V → T → Type 0) (told : Option (List ℕ)) (f g : List ℕ → Option V)
    (columns : C) (made : T) → Agree told f g → IfSome told (λ bytes. IsExpected Is columns (f bytes))
    → ((t : V) → Is t columns → R t made) → IfSome told (λ bytes. IsExpected R made (g bytes))
made-then Is R None f g columns made same h then = tt
made-then {V = V} Is R (Some bytes) f g columns made same h then = by (f bytes) (g bytes) same h
  where
    by : (a b : Option V) → a ≡ b → IsExpected Is columns a → IsExpected R made b
    by a b e h = subst (IsExpected R made) e (go a h)
      where
        go : (a : Option V) → IsExpected Is columns a → IsExpected R made a
        go None h = absurd h
        go (Some t) h = then t h

-- What is answered of open columns is answered of the file. Want of memory is the one refusal.
pub answers-then : {C T V : Type 0} (Is : V → C → Type 0) (R : V → T → Type 0) (old new : SeenFile) (f g : List ℕ → Option V)
    (columns : C) (r : Result T ColumnarError) → Agree old.told f g → IfSome old.told (λ bytes. IsExpected Is columns (f bytes))
    → ((t : V) → Is t columns → IfOk r (R t)) → IfErr r (λ e. e ≡ OutOfMemory) → AnswersForHandle R old new r g
answers-then Is R old new f g columns (Ok made) same h then memory = made-then Is R old.told f g columns made same h then
answers-then Is R old new f g columns (Err e) same h then memory = subst (λ e. RefusesFile old new e g) (sym memory) tt
