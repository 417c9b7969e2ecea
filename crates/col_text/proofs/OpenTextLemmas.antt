-- The bytes of columns of terms, part by part.
use Rattle.std.proofs.Common.{◌≡◌, ℕ, ◌&&◌, nat_lt, Bool, true, List, [], ◌∷◌, length, sum, take, drop, unwrap_or, Some, None, option_map, refl, sym, ap, ◌∙◌, subst, arith}
use Rattle.std.specs.Int.{w32}
use Rattle.std.specs.List.{list_all}
use Rattle.std.proofs.lemmas.Bool.{ltb-true, and_parts}
use Rattle.std.proofs.lemmas.Bool.Decides.{nat_tests}
use Rattle.std.proofs.lemmas.List.{length-drop, take-append-drop}
use Rattle.std.proofs.lemmas.List.Folds.{list_all-append}
use Rattle.std.proofs.lemmas.List.Sums.{sum_by-cons}
use Rattle.col_column.specs.Columns.{Seen, IsCounted, counts_by, rows_by}
use Rattle.col_column.specs.Opened.{counted_rows}
use Rattle.col_common.specs.Reading.{only_if, parts_by_first}
use Rattle.col_common.specs.Ascending.{is_ascending, AreBelow, are_below}
use Rattle.col_model.specs.Column.{number_rows, term_column, column}
use Rattle.col_model.specs.ColumnType as types
use Rattle.col_model.specs.Dictionary.{cut, terms}
use Rattle.col_model.specs.Index.{Shape}
use Rattle.col_column.specs.NumValues.{num_values_of}
use Rattle.col_column.specs.NumValuesType.{NumValues}
use Rattle.col_terms.proofs.TableLemmas.{table_ascending, table_counted}
use Rattle.col_terms.specs.TermTable.{terms_of}
use Rattle.col_values.specs.Codes.{number_cmp}
use Rattle.col_values.specs.Values.{IsAtMost}
use Rattle.col_column.proofs.SerializeRowLemmas.{sum-counts_by}
use Rattle.col_text.specs.Texts.{texts_content}

-- ---- a test of the numbers of all rows

-- a test that the rows of a cut list pass is one that the list passes
pub all-cut : (p : ℕ → Bool) (cs xs : List ℕ) → sum cs ≡ length xs → list_all (list_all p) (cut cs xs) ≡ list_all p xs
unfolding cut
all-cut p [] [] e = refl
all-cut p [] (x ∷ xs) e = absurd (omega arith)
all-cut p (c ∷ cs) xs e =
    let rest : sum cs ≡ length (drop c xs) = omega (arith, sum_by-cons (λ k. k) c cs, length-drop c xs) in
    ap (λ b. list_all p (take c xs) && b) (all-cut p cs (drop c xs) rest)
    ∙ sym (list_all-append p (take c xs) (drop c xs)) ∙ ap (list_all p) (take-append-drop c xs)

-- where a shape counts just the numbers, all pass where those of all rows do
pub all-rows : (p : ℕ → Bool) (s : Shape) (xs : List ℕ) → IsCounted s (length xs) → list_all (list_all p) (rows_by s xs) ≡ list_all p xs
unfolding rows_by
all-rows p s xs counted = all-cut p (counts_by s (length xs)) xs (sum-counts_by s (length xs) counted)

-- ---- the parts

-- texts are stored as byte strings are
pub texts-as-bytes : (bytes : List ℕ) (version rows : ℕ) → column bytes types.str version rows ≡ column bytes types.bytes version rows
unfolding column term_column number_rows
texts-as-bytes bytes version rows = refl

module _ (bytes : List ℕ) (version rows : ℕ) where
  -- bytes that have no two parts stand for no column of terms
  pub uncut : parts_by_first w32 bytes ≡ None → column bytes types.bytes version rows ≡ None
  unfolding column term_column
  uncut e = rw e refl

  module _ (a b : List ℕ) (parts : parts_by_first w32 bytes ≡ Some (a, b)) where
    -- bytes whose first part is no dictionary stand for no column of terms
    pub without_terms : terms a ≡ None → column bytes types.bytes version rows ≡ None
    unfolding column term_column
    without_terms e = rw (parts, e) refl

    module _ (found : List (List ℕ)) (are : terms a ≡ Some found) where
      -- bytes whose second part stands for no rows stand for no column of terms
      pub without_rows : number_rows b types.bytes version rows ≡ None → column bytes types.bytes version rows ≡ None
      unfolding column term_column
      without_rows e = rw (parts, are, e) refl

      -- Ordinals that are read, behind the terms: the column's index counts them, and a test tells
      -- whether all are below the count of terms.
      pub with_rows : (s : Shape) (v : NumValues ℕ) (c : Seen (NumValues ℕ)) (below : Bool)
          → record { shape = s; values = v } ≡ c → IsCounted s (length (num_values_of v))
          → number_rows b types.bytes version rows ≡ Some (counted_rows c.shape (num_values_of c.values))
          → below ≡ are_below (length found) (num_values_of c.values)
          → column bytes types.bytes version rows
          ≡ only_if below (texts_content (record { terms = found; ords = c }))
      unfolding column term_column
      with_rows s v c below is counted e tested =
          let same = subst (λ (c : Seen (NumValues ℕ)). IsCounted c.shape (length (num_values_of c.values))) is counted in
          rw (parts, are, e) (ap (λ t. only_if t (texts_content (record { terms = found; ords = c })))
          (all-rows (λ n. nat_lt n (length found)) c.shape (num_values_of c.values) same ∙ sym tested))

-- ---- what holds of the parts

-- the terms that bytes stand for ascend
pub terms-ascend : (bytes : List ℕ) (ts : List (List ℕ)) → terms bytes ≡ Some ts → is_ascending ts ≡ true
unfolding terms_of
terms-ascend bytes ts e =
    let same : terms_of bytes ≡ ts = ap (λ o. unwrap_or o []) e in
    ap is_ascending (sym same) ∙ table_ascending bytes (length ts) (table_counted bytes (length ts) (sym (ap (option_map length) e)))

-- numbers that pass the test are below the bound
pub ordinals-below : (k : ℕ) (xs : List ℕ) → true ≡ are_below k xs → AreBelow k xs
ordinals-below k [] e = tt
ordinals-below k (x ∷ xs) e =
    let parts = and_parts (nat_lt x k) (are_below k xs) (sym e) in
    (ltb-true x k parts.0, ordinals-below k xs (sym parts.1))

-- numbers are below what the greatest one is below
pub below_greatest : (greatest n k : ℕ) → IsAtMost number_cmp n greatest → nat_lt greatest k ≡ true → nat_lt n k ≡ true
below_greatest greatest n k h t = grind (arith, nat_tests)
