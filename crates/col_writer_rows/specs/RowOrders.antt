-- Which document stands at each row.
use Rattle.std.specs.Prelude.{◌≡◌, ◌≤◌, ℕ, ◌==◌, ◌&&◌, nat_lt, Bool, true, false, List, map, length, count_by, position, slice_index, slice_set, unwrap_or, if◌then◌else◌, Option}
use Rattle.std.specs.List.{range_with_len}
use Rattle.col_common.specs.Ascending.{are_below}
use Rattle.col_model.specs.Written.{doc_at}
use Rattle.col_writer_rows.specs.declared.row_order.TheConstants.{NO_DOC}

-- the documents of n rows: each at its own row, or those of a list
abbrev pub docs_by : ℕ → Bool → List ℕ → List ℕ
docs_by n false docs = range_with_len 0 n
docs_by n true docs = docs

-- the documents of n rows under a permutation
abbrev pub docs_placed : ℕ → Option (List ℕ) → List ℕ
docs_placed n perm = map (doc_at perm) (range_with_len 0 n)

-- so many rows have each one of as many documents, and none has two rows
pub record AreRowDocs (n : ℕ) (docs : List ℕ) : Type 0 where
  pub count : length docs ≡ n
  pub below : are_below n docs ≡ true
  pub once : (d : ℕ) → count_by (λ x. x == d) docs ≤ 1

-- the first document that has the row, or a mark
abbrev pub first_doc : List ℕ → ℕ → ℕ
first_doc rows row = unwrap_or (position (λ x. x == row) rows) NO_DOC

-- the first documents of n rows
unfoldable pub first_docs : ℕ → List ℕ → List ℕ
first_docs n rows = map (first_doc rows) (range_with_len 0 n)

-- documents by row, with one that has this row, where the row has none yet
abbrev pub noted : List ℕ → ℕ → ℕ → List ℕ
noted docs doc row =
    if nat_lt row (length docs) && (slice_index docs row == NO_DOC)
    then slice_set docs row doc else docs
