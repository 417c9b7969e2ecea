-- What decoders answer.
use Rattle.std.specs.Prelude.{◌≡◌, ℕ, List, Option, Some, None, Result, Ok, Err}
use Rattle.col_common.specs.declared.error.ColumnarError.{ColumnarError}
use Rattle.col_common.specs.declared.error.ColumnarError.TheVariants.{OutOfMemory, InvalidData}

-- Want of memory says nothing of the bytes, and InvalidData that they stand for nothing; a decoder
-- refuses by no other answer.
abbrev pub Refuses : {V : Type 0} → ColumnarError → Option V → Type 0
Refuses OutOfMemory expected = Unit {0}
Refuses InvalidData expected = expected ≡ None
Refuses _ expected = ⊥

-- What a decoder returned, seen by view, is what is expected of the bytes, unless memory ran out.
abbrev pub Decodes : {T V : Type 0} → (T → V) → Result T ColumnarError → Option V → Type 0
Decodes view (Ok value) expected = expected ≡ Some (view value)
Decodes view (Err e) expected = Refuses e expected

-- What was taken, seen by view, and the bytes behind it are what is expected of the bytes; where
-- nothing is, they stay.
abbrev pub TakesFront : {T V E : Type 0} → (T → V) → Result T E → Option (V × List ℕ)
    → List ℕ → List ℕ → Type 0
TakesFront view (Ok value) expected old new = expected ≡ Some (view value, new)
TakesFront view (Err e) expected old new = (expected ≡ None) × (new ≡ old)

-- The same where memory may be wanting: what was taken, or a decoder's refusal with the bytes as
-- they were.
abbrev pub DecodesFront : {T V : Type 0} → (T → V) → Result T ColumnarError
    → Option (V × List ℕ) → List ℕ → List ℕ → Type 0
DecodesFront view (Ok value) expected old new = expected ≡ Some (view value, new)
DecodesFront view (Err e) expected old new = Refuses e expected × (new ≡ old)
