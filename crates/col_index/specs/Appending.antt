-- Calls that append documents to one list and positions to another.
use Rattle.std.specs.Prelude.{◌≡◌, ℕ, List, ◌++◌, Result, OnOk, OnErr}
use Rattle.std.specs.declared.alloc.AllocError.{AllocError}
use Rattle.col_index.specs.Offsets.{found_rows, positions_of}

-- the list has another one in front
abbrev pub BeginsWith : List ℕ → List ℕ → Type 0
BeginsWith xs front = (more : List ℕ) × (xs ≡ front ++ more)

-- it appends to both lists, or, where memory is wanting, to neither
pub record AppendsBoth {E : Type 0} (docs_old docs_new rows_old rows_new : List ℕ)
    (result : Result (Unit {0}) E) (more_docs more_rows : List ℕ) : Type 0 where
  pub docs : OnOk result (docs_new ≡ docs_old ++ more_docs)
  pub rows : OnOk result (rows_new ≡ rows_old ++ more_rows)
  pub err : OnErr result ((docs_new ≡ docs_old) × (rows_new ≡ rows_old))

-- it appends to both lists, or, where memory is wanting, some items to each
pub record PushesBoth (docs_old docs_new rows_old rows_new : List ℕ)
    (result : Result (Unit {0}) AllocError) (more_docs more_rows : List ℕ) : Type 0 where
  pub docs : OnOk result (docs_new ≡ docs_old ++ more_docs)
  pub rows : OnOk result (rows_new ≡ rows_old ++ more_rows)
  pub err : OnErr result (BeginsWith docs_new docs_old × BeginsWith rows_new rows_old)

-- it appends values, each as its row and its position: the rows to the one list, the positions to
-- the other
abbrev pub AppendsValues : {E : Type 0} → List (ℕ × ℕ) → List ℕ → List ℕ → List ℕ → List ℕ →
    Result (Unit {0}) E → Type 0
AppendsValues values docs_old docs_new rows_old rows_new result =
    AppendsBoth docs_old docs_new rows_old rows_new result (found_rows values) (positions_of values)

-- the same as far as memory reaches
abbrev pub PushesValues : List (ℕ × ℕ) → List ℕ → List ℕ → List ℕ → List ℕ →
    Result (Unit {0}) AllocError → Type 0
PushesValues values docs_old docs_new rows_old rows_new result =
    PushesBoth docs_old docs_new rows_old rows_new result (found_rows values) (positions_of values)
