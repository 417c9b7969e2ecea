-- Refusals of decoders, of bytes that stand for something.
use Rattle.std.proofs.Common.{◌≡◌, ℕ, List, true, is_some, Option, Some, None, refl}
use Rattle.col_common.specs.Decoding.{Refuses}
use Rattle.col_common.specs.declared.error.ColumnarError.{ColumnarError}
use Rattle.col_common.specs.declared.error.ColumnarError.TheVariants.{OutOfMemory, InvalidData}
use Rattle.col_model.specs.Column.{column}
use Rattle.col_model.specs.ColumnType.{ColumnType}
use Rattle.col_model.specs.Table.{Content}

-- A decoder of bytes that stand for something refuses for want of memory alone.
pub only-memory : {A : Type 0} (e : ColumnarError) (o : Option A) → (o ≡ None → ⊥) → Refuses e o → e ≡ OutOfMemory
only-memory OutOfMemory o some h = refl
only-memory InvalidData o some h = absurd (some h)
only-memory _ o some h = absurd h

-- what the bytes of a column stand for, as an equation
pub content-read : (bytes : List ℕ) (t : ColumnType) (version n : ℕ) → is_some (column bytes t version n) ≡ true
    → (content : Content) × (column bytes t version n ≡ Some content)
content-read bytes t version n = by (column bytes t version n)
  where
    by : (o : Option Content) → is_some o ≡ true → (content : Content) × (o ≡ Some content)
    by None h = cc
    by (Some content) h = (content, refl)
