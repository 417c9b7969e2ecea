-- What loading lines leaves.
use Rattle.std.specs.Prelude.{◌≡◌, ◌⊎◌, ℕ, ◌+◌, ◌<◌, ◌≤◌, ◌^◌, ◌==◌, false, List, [], ◌∷◌, ◌++◌, map, length, Option, Some, None, Result, Ok, Err, OnOk, IfOk, IfErr, IfSome}
use Rattle.std.specs.Borrow.{Bor}
use Rattle.std.specs.List.{All}
use Rattle.std.specs.declared.alloc.Global.{Global}
use Rattle.std.specs.declared.vec.Vec.{Vec}
use Rattle.col_common.specs.Causes.{Rose}
use Rattle.col_common.specs.Outside.{Told, Takes, IsAtEnd}
use Rattle.col_common.specs.declared.error.ColumnarError.TheVariants as answers
use Rattle.col_documents.specs.Forms.{Forms, named_form}
use Rattle.col_documents.specs.Read.{refusal_read}
use Rattle.col_load.specs.Loads.{Document, Stop, bad_line, too_many, documents_from, documents_of, lines_of, counts_of_lines}
use Rattle.col_load.specs.Rows.{HasDocuments}
use Rattle.col_load.specs.declared.load_error.LoadError.{LoadError}
use Rattle.col_load.specs.declared.load_error.LoadError.TheVariants.{OutOfMemory, BadLine, TooMany, Columnar}
use Rattle.col_load.specs.declared.loader.Loader.{Loader}

-- the forms that a loader reads fields by
abbrev pub forms_of : Loader → Forms
forms_of loader = map named_form loader.forms.now

-- These lines were taken.
pub record HasTaken (lines : List (List ℕ)) (loader : Loader) : Type 0 where
  pub docs : List Document
  pub read : documents_from (forms_of loader) loader.skips 1 lines ≡ Ok docs
  pub rows : HasDocuments docs loader.rows
  pub counts : loader.counts ≡ counts_of_lines (forms_of loader) lines

-- the stop is the one that is expected, or memory was wanting
abbrev pub IsStop : LoadError → Result (List Document) Stop → Type 0
IsStop OutOfMemory expected = Unit {0}
IsStop (BadLine number refusal) expected = expected ≡ Err (bad_line number (refusal_read refusal))
IsStop TooMany expected = expected ≡ Err too_many
IsStop (Columnar e) expected = ⊥

-- it reads by the same forms, and skips bad lines as before
abbrev pub StillReads : Loader → Loader → Type 0
StillReads old new = (forms_of new ≡ forms_of old) × (new.skips ≡ old.skips)

-- so many lines more were taken, and 64 bits hold the number of all
abbrev pub CountsMore : ℕ → Loader → Loader → Type 0
CountsMore n old new = (new.counts.0 ≡ old.counts.0 + n) × (new.counts.0 < 2 ^ 64)

-- Ok has taken a line more, by the same forms. A stop is that of the lines up to this one, whatever
-- lines are behind it.
pub record TakesLine (line : List ℕ) (old new : Loader) (result : Result (Unit {0}) LoadError)
    : Type 0 where
  pub taken : OnOk result ((lines : List (List ℕ)) → HasTaken lines old
      → HasTaken (lines ++ line ∷ []) new)
  pub forms : OnOk result (StillReads old new)
  pub more : OnOk result (CountsMore 1 old new)
  pub stopped : IfErr result (λ e. (lines rest : List (List ℕ)) → HasTaken lines old
      → IsStop e (documents_from (forms_of old) old.skips 1 (lines ++ line ∷ rest)))

-- no line feed is among the bytes
abbrev pub IsOpen : List ℕ → Type 0
IsOpen bytes = All (λ b. (b == 10) ≡ false) bytes

-- the bytes before the first line feed and those behind it, none where there is none
abbrev pub IsCut : List ℕ → Option (Bor (List ℕ) × Bor (List ℕ)) → Type 0
IsCut bytes None = IsOpen bytes
IsCut bytes (Some (line, behind)) = IsOpen line.now × (bytes ≡ line.now ++ 10 ∷ behind.now)

-- Of some bytes the lines that end there were taken, by the same forms, and a line that is begun is
-- left.
pub record LinesTaken (bytes left : List ℕ) (old new : Loader) : Type 0 where
  pub lines : List (List ℕ)
  pub cut : (rest : List ℕ) → lines_of (bytes ++ rest) ≡ lines ++ lines_of (left ++ rest)
  pub begun : IsOpen left
  pub taken : (before : List (List ℕ)) → HasTaken before old → HasTaken (before ++ lines) new
  pub forms : StillReads old new
  pub more : old.counts.0 < 2 ^ 64 → CountsMore (length lines) old new

-- the stop of the lines of these bytes, whatever stands behind the bytes
abbrev pub StopsIn : List ℕ → Loader → LoadError → Type 0
StopsIn bytes loader e = (before : List (List ℕ)) (rest : List ℕ) → HasTaken before loader
    → IsStop e (documents_from (forms_of loader) loader.skips 1
    (before ++ lines_of (bytes ++ rest)))

-- the source failed, and that is told
abbrev pub FailsToRead : ℕ → ℕ → LoadError → Type 0
FailsToRead before now e = (e ≡ Columnar answers.ReadFault) × Rose before now

-- A read was refused for want of memory, or since the source failed; bytes may have been taken.
pub record RefusesRead (left left' : Told) (before now : ℕ) (e : LoadError) : Type 0 where
  pub bytes : List ℕ
  pub takes : Takes left left' bytes
  pub cause : (e ≡ OutOfMemory) ⊎ FailsToRead before now e

-- A source was read to its end, and its lines were taken up to the last one, which no line feed
-- ends and which is left; or the source failed, or its lines have a stop.
pub record ReadsLines (left left' : Told) (before now : ℕ) (old new : Loader)
    (result : Result (Vec ℕ Global) LoadError) : Type 0 where
  pub bytes : List ℕ
  pub takes : Takes left left' bytes
  pub ended : OnOk result (IsAtEnd left')
  pub taken : IfOk result (λ last. LinesTaken bytes last.items old new)
  pub stopped : IfErr result (λ e. FailsToRead before now e ⊎ StopsIn bytes old e)
  pub later : before ≤ now

-- The stop of the lines of a source of which these bytes were read, and the rest is left.
pub record StopsAt (left : Told) (bytes : List ℕ) (loader : Loader) (e : LoadError) : Type 0 where
  pub rest : List ℕ
  pub told : IfSome left (λ more. more ≡ rest)
  pub stop : IsStop e (documents_of (forms_of loader) loader.skips (bytes ++ rest))

-- A source was read to its end, and all its lines were taken; or it failed, or its lines have a
-- stop.
pub record TakesSource (left left' : Told) (before now : ℕ) (old new : Loader)
    (result : Result (Unit {0}) LoadError) : Type 0 where
  pub bytes : List ℕ
  pub takes : Takes left left' bytes
  pub ended : OnOk result (IsAtEnd left')
  pub taken : OnOk result (HasTaken (lines_of bytes) new)
  pub forms : OnOk result (StillReads old new)
  pub stopped : IfErr result (λ e. FailsToRead before now e ⊎ StopsAt left' bytes old e)
  pub later : before ≤ now
