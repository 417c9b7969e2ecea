-- Shapes that have so many rows, and count so many values.
use Rattle.std.proofs.Common.{◌≡◌, ℕ, ◌*◌, ◌==◌, ◌&&◌, Bool, true, false, List, length, replicate, sum, Option, Some, None, is_some, refl, sym, ap, ◌∙◌, arith}
use Rattle.std.proofs.lemmas.Bool.{and_parts, eqb-true, eq-eqb}
use Rattle.std.proofs.lemmas.List.Folds.{sum_by-replicate}
use Rattle.col_common.specs.Reading.{◌>>=◌, only_if}
use Rattle.col_model.specs.Index.{Counts, RowSet, Shape, empty_shape, full_shape, optional_shape, multivalued_shape, set_counts}
use Rattle.col_indexer.specs.Sets.{AreRows}
use Rattle.col_indexer.proofs.CountLaws.{length-set_counts, sum-set_counts}
use Rattle.col_column.specs.Columns.{IsCounted, counts_seen, row_count}
use Rattle.col_column.specs.Opened.{counts_exactly}

-- a test is passed where what it tests is there
pub is_some-only_if : {A : Type 0} (b : Bool) (x : A) → is_some (only_if b x) ≡ b
is_some-only_if true x = refl
is_some-only_if false x = refl

-- two tests, one after another
is_some-tests : {A : Type 0} (b : Bool) (test : A → Bool) (x : A) → is_some (only_if b x >>= λ y. only_if (test y) y) ≡ (b && test x)
is_some-tests true test x = is_some-only_if (test x) x
is_some-tests false test x = refl

sum-replicate : (n k : ℕ) → sum (replicate n k) ≡ n * k
sum-replicate n k = sum_by-replicate (λ x. x) n k

-- ---- the tests, by the shape

pub empty-exact : (rows values m : ℕ) → is_some (counts_exactly rows values (empty_shape m)) ≡ ((m == rows) && (0 == values))
empty-exact rows values m =
    is_some-tests (m == rows) _ _ ∙ ap (λ n. (m == rows) && (n == values)) (sum-replicate rows 0 ∙ omega arith)

pub full-exact : (rows values : ℕ) → is_some (counts_exactly rows values full_shape) ≡ (rows == values)
full-exact rows values = is_some-only_if _ _ ∙ ap (λ n. n == values) (sum-replicate rows 1 ∙ omega arith)

pub optional-exact : (rows values : ℕ) (cs : List ℕ)
    → is_some (counts_exactly rows values (optional_shape cs)) ≡ ((length cs == rows) && (sum cs == values))
optional-exact rows values cs = is_some-tests (length cs == rows) _ _

pub multivalued-exact : (rows values : ℕ) (cs : List ℕ)
    → is_some (counts_exactly rows values (multivalued_shape cs)) ≡ ((length cs == rows) && (sum cs == values))
multivalued-exact rows values cs = is_some-tests (length cs == rows) _ _

-- rows with one value each
pub set-exact : (rows values : ℕ) (s : RowSet) → AreRows s
    → is_some (counts_exactly rows values (optional_shape (set_counts s)))
    ≡ ((s.num_rows == rows) && (length s.rows == values))
set-exact rows values s a =
    optional-exact rows values (set_counts s)
    ∙ ap (λ n. (n == rows) && (sum (set_counts s) == values)) (length-set_counts s)
    ∙ ap (λ n. (s.num_rows == rows) && (n == values)) (sum-set_counts s a)

-- ---- what passes the tests

-- the shape has these rows, and counts these values
pub record IsExact (rows values : ℕ) (s : Shape) : Type 0 where
  pub rows_are : row_count s values ≡ rows
  pub counted : IsCounted s values

pub exact-from : (rows values : ℕ) (s : Shape) → is_some (counts_exactly rows values s) ≡ true → IsExact rows values s
exact-from rows values (empty_shape m) h =
    let p = and_parts (m == rows) (0 == values) (sym (empty-exact rows values m) ∙ h) in
    record { rows_are = eqb-true m rows p.0; counted = sym (eqb-true 0 values p.1) }
exact-from rows values full_shape h =
    record { rows_are = sym (eqb-true rows values (sym (full-exact rows values) ∙ h)); counted = tt }
exact-from rows values (optional_shape cs) h =
    let p = and_parts (length cs == rows) (sum cs == values) (sym (optional-exact rows values cs) ∙ h) in
    record { rows_are = eqb-true (length cs) rows p.0; counted = eqb-true (sum cs) values p.1 }
exact-from rows values (multivalued_shape cs) h =
    let p = and_parts (length cs == rows) (sum cs == values) (sym (multivalued-exact rows values cs) ∙ h) in
    record { rows_are = eqb-true (length cs) rows p.0; counted = eqb-true (sum cs) values p.1 }

-- its counts are those that are seen
at_its_rows : (values : ℕ) (s : Shape) → IsCounted s values → counts_exactly (row_count s values) values s ≡ Some (counts_seen s values)
at_its_rows values (empty_shape m) e = rw (eq-eqb m m refl, sum-replicate m 0, eq-eqb (m * 0) values (omega arith)) refl
at_its_rows values full_shape e = rw (sum-replicate values 1, eq-eqb (values * 1) values (omega arith)) refl
at_its_rows values (optional_shape cs) e = rw (eq-eqb (length cs) (length cs) refl, eq-eqb (sum cs) values e) refl
at_its_rows values (multivalued_shape cs) e = rw (eq-eqb (length cs) (length cs) refl, eq-eqb (sum cs) values e) refl

pub counts_exactly-exact : (rows values : ℕ) (s : Shape) → IsExact rows values s
    → counts_exactly rows values s ≡ Some (counts_seen s values)
counts_exactly-exact rows values s x =
    ap (λ n. counts_exactly n values s) (sym x.rows_are) ∙ at_its_rows values s x.counted

-- where a shape has so many rows and values, the counts are those that are seen of it
pub counts_exactly-seen : (rows values : ℕ) (s : Shape)
    → counts_exactly rows values s ≡ only_if (is_some (counts_exactly rows values s)) (counts_seen s values)
counts_exactly-seen rows values s = at (counts_exactly rows values s) refl
  where
    at : (o : Option Counts) → counts_exactly rows values s ≡ o → o ≡ only_if (is_some o) (counts_seen s values)
    at None e = refl
    at (Some c) e = sym e ∙ counts_exactly-exact rows values s (exact-from rows values s (ap is_some e))
