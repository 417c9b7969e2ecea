-- Indexes that count the rows of a merge.
use Rattle.std.proofs.Common.{◌≡◌, ℕ, ◌<◌, ◌^◌, ◌==◌, nat_le, Bool, true, false, cond, List, [], ◌∷◌, Some, length, replicate, refl, sym, ap, ◌∙◌, arith}
use Rattle.std.specs.List.{list_all, sum}
use Rattle.std.proofs.lemmas.Bool.{and_parts, eqb-true, eq-eqb}
use Rattle.col_common.specs.Reading.{only_if}
use Rattle.col_model.specs.Index.{Counts, full_shape, optional_shape, multivalued_shape, counts_over, set_counts, offset_counts}
use Rattle.col_model.specs.Positions.{rows_with_value, starts_of}
use Rattle.col_model.specs.Table.{full, optional, multivalued, cardinality_code}
use Rattle.col_model.specs.Table as tables
use Rattle.col_indexer.specs.Counted.{tightest_of}
use Rattle.col_indexer.specs.Spelling.{Index, IsIndex, index_shape}
use Rattle.col_indexer.specs.Written.{index_by}
use Rattle.col_index.specs.Versions.{cardinality_of}
use Rattle.col_index.specs.declared.cardinality.Cardinality.{Cardinality}
use Rattle.col_index.specs.declared.cardinality.Cardinality.TheVariants.{Full, Optional, Multivalued}
use Rattle.col_index.proofs.IndexedLaws.{set_of_counts, offsets_of_counts, counts-are_rows, counts-are_set_counts, counts-are_offsets, counts-are_offset_counts}

-- ---- what a tightest cardinality tells

full_by : (ones few : Bool) → full ≡ cond ones full (cond few optional multivalued) → ones ≡ true
full_by true few e = refl
full_by false true e = absurd (omega (arith, ap cardinality_code e))
full_by false false e = absurd (omega (arith, ap cardinality_code e))

-- Full: each row has one value
pub tightest-full : (cs : List ℕ) → full ≡ tightest_of cs → list_all (λ c. c == 1) cs ≡ true
tightest-full cs e = full_by (list_all (λ c. c == 1) cs) (list_all (λ c. nat_le c 1) cs) e

optional_by : (ones few : Bool) → optional ≡ cond ones full (cond few optional multivalued) → few ≡ true
optional_by true few e = absurd (omega (arith, ap cardinality_code e))
optional_by false true e = refl
optional_by false false e = absurd (omega (arith, ap cardinality_code e))

-- Optional: each row has at most one
pub tightest-optional : (cs : List ℕ) → optional ≡ tightest_of cs → list_all (λ c. nat_le c 1) cs ≡ true
tightest-optional cs e = optional_by (list_all (λ c. c == 1) cs) (list_all (λ c. nat_le c 1) cs) e

-- ---- an index of each cardinality counts the rows

-- counts with their cardinality
abbrev counts : tables.Cardinality → List ℕ → Counts
counts k cs = record { cardinality = k; of_rows = cs }

-- counts that are all 1 are as many ones as there are counts
pub all_ones : (cs : List ℕ) → list_all (λ c. c == 1) cs ≡ true → replicate (length cs) 1 ≡ cs
all_ones [] e = refl
all_ones (c ∷ cs) e =
    let parts = and_parts (c == 1) (list_all (λ d. d == 1) cs) e in
    ap (λ n. n ∷ replicate (length cs) 1) (sym (eqb-true c 1 parts.0)) ∙ ap (λ more. c ∷ more) (all_ones cs parts.1)

-- Full
merged-full : (cs : List ℕ) (n : ℕ) → n ≡ length cs → list_all (λ c. c == 1) cs ≡ true
    → counts_over n full_shape ≡ Some (counts full cs)
merged-full cs n e ones = ap (λ ds. Some (counts full ds)) (ap (λ m. replicate m 1) e ∙ all_ones cs ones)

-- Optional
merged-optional : (cs : List ℕ) (n : ℕ) → n ≡ length cs → list_all (λ c. nat_le c 1) cs ≡ true
    → counts_over n (optional_shape (set_counts (set_of_counts cs))) ≡ Some (counts optional cs)
merged-optional cs n e few =
    ap (λ ds. counts_over n (optional_shape ds)) (counts-are_set_counts cs few)
    ∙ ap (λ b. only_if b (counts optional cs)) (eq-eqb (length cs) n (sym e))

-- Multivalued
merged-multivalued : (cs : List ℕ) (n : ℕ) → n ≡ length cs
    → counts_over n (multivalued_shape (offset_counts (offsets_of_counts cs))) ≡ Some (counts multivalued cs)
merged-multivalued cs n e =
    ap (λ ds. counts_over n (multivalued_shape ds)) (counts-are_offset_counts cs)
    ∙ ap (λ b. only_if b (counts multivalued cs)) (eq-eqb (length cs) n (sym e))

-- the index of counts, by a cardinality
abbrev pub index_of_counts : Cardinality → List ℕ → Index
index_of_counts c cs = index_by c (length cs) (rows_with_value cs) (starts_of cs)

-- it counts them where they are as the cardinality says
pub index-counted : (c : Cardinality) (cs : List ℕ) (n : ℕ) (k : tables.Cardinality) → cardinality_of c ≡ k
    → n ≡ length cs → (full ≡ k → list_all (λ c. c == 1) cs ≡ true)
    → (optional ≡ k → list_all (λ c. nat_le c 1) cs ≡ true)
    → counts_over n (index_shape (index_of_counts c cs)) ≡ Some (record { cardinality = k; of_rows = cs })
index-counted Full cs n k same e ones few = merged-full cs n e (ones same) ∙ ap (λ j. Some (counts j cs)) same
index-counted Optional cs n k same e ones few = merged-optional cs n e (few same) ∙ ap (λ j. Some (counts j cs)) same
index-counted Multivalued cs n k same e ones few = merged-multivalued cs n e ∙ ap (λ j. Some (counts j cs)) same

-- and its rows rise, and its offsets are theirs
pub index-sound : (c : Cardinality) (cs : List ℕ) → length cs < 2 ^ 32 → sum cs < 2 ^ 32 → IsIndex (index_of_counts c cs)
index-sound Full cs fits small = tt
index-sound Optional cs fits small = record { rows = counts-are_rows cs; fits = fits }
index-sound Multivalued cs fits small = record { offsets = counts-are_offsets cs small; fits = fits }

-- an index by these lists is the index of the counts
pub index-by : (i : Index) (c : Cardinality) (cs : List ℕ) (n : ℕ) (rows starts : List ℕ) → i ≡ index_by c n rows starts
    → n ≡ length cs → rows ≡ rows_with_value cs → starts ≡ starts_of cs → i ≡ index_of_counts c cs
index-by i c cs n rows starts e f r s = e ∙ λ j. index_by c (f j) (r j) (s j)
