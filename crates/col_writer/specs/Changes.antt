-- Columns by name of which one changes.
use Rattle.std.specs.Prelude.{◌≡◌, ℕ, List, Option, Some, None, Result, Err, OnOk, OnErr, String, bytes_eq, string_bytes}
use Rattle.std.specs.declared.alloc.Global.{Global}
use Rattle.std.specs.Map.{lookup, update}
use Rattle.col_common.specs.declared.error.ColumnarError.{ColumnarError}
use Rattle.col_common.specs.declared.error.ColumnarError.TheVariants as answers

-- columns by their names
abbrev pub ByName : Type 0 → Type 0
ByName X = List (String Global × X)

-- the column of a name
abbrev pub column_at : {X : Type 0} → List ℕ → ByName X → Option X
column_at name es = lookup (λ (k : String Global). bytes_eq name (string_bytes k)) es

-- this column has this name, and the others are as they were
abbrev pub SetsColumn : {X : Type 0} → List ℕ → X → ByName X → ByName X → Type 0
SetsColumn name v old new = (other : List ℕ)
    → column_at other new ≡ update bytes_eq (λ n. column_at n old) name (Some v) other

-- The column of a name changes as it should. Where there is none an empty one does, and then has
-- the name, or goes with a refusal. Or memory is wanting, and nothing changes.
pub data ChangesColumn {X : Type 0} (IsEmpty : X → Type 0)
    (Makes : X → X → Result (Unit {0}) ColumnarError → Type 0) (name : List ℕ) (old new : ByName X)
    (result : Result (Unit {0}) ColumnarError) : Type 0 where
  of_name : (w v : X) → column_at name old ≡ Some w → Makes w v result → SetsColumn name v old new
      → ChangesColumn IsEmpty Makes name old new result
  of_none : (w v : X) → column_at name old ≡ None → IsEmpty w → Makes w v result
      → OnOk result (SetsColumn name v old new) → OnErr result (new ≡ old)
      → ChangesColumn IsEmpty Makes name old new result
  wanting : result ≡ Err answers.OutOfMemory → new ≡ old
      → ChangesColumn IsEmpty Makes name old new result
