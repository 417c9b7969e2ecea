-- Neighbours without a column look like one part to a stack.
use Rattle.std.proofs.Common.{◌≡◌, ℕ, zero, suc, ◌+◌, ◌==◌, ◌&&◌, Bool, true, false, List, [], ◌∷◌, ◌++◌, map, filter_map, flat_map, fold, replicate, None, option_map, option_and_then, unwrap_or, append-nil, refl, sym, ◌∙◌, ap, ap₂, subst, arith}
use Rattle.std.specs.Prelude.{sum, if◌then◌else◌}
use Rattle.std.specs.List.{list_any, range_with_len, AllByRecursion}
use Rattle.std.proofs.lemmas.Bool.{ne_eqb, eqb-true}
use Rattle.std.proofs.lemmas.List.{replicate-append-replicate}
use Rattle.col_model.specs.Category.{Slot}
use Rattle.col_model.specs.File.{Part, whole_column}
use Rattle.col_model.specs.Lookup.{row_of}
use Rattle.col_model.specs.Merge.{column_in, whole_column_in, greater_cardinality, row_counts}
use Rattle.col_model.specs.Table.{Cardinality, full, optional, multivalued}
use Rattle.col_model.proofs.ListLaws.{sum-cons}
use Rattle.col_model.proofs.StackLaws.{part_rows}
use Rattle.col_model.proofs.StackSeen.{no-cells}
use Rattle.col_alike.proofs.AlikeLemmas.{kept_part, part_cardinality, bad_part, LookAlike}

-- a part of so many rows and no columns
abbrev pub gap_of : ℕ → Part
gap_of n = record { row_count = n; columns = [] }

abbrev pub LacksColumn : Slot → Part → Type 0
LacksColumn slot p = column_in slot p ≡ None

whole-lacks : (slot : Slot) (p : Part) → LacksColumn slot p → whole_column_in slot p ≡ None
whole-lacks slot p lacks = ap (option_and_then whole_column) lacks

-- the cardinality of so many rows without the column
abbrev gap_cardinality : ℕ → Cardinality
gap_cardinality n = if n == 0 then full else optional

cardinality-lacks : (slot : Slot) (p : Part) → LacksColumn slot p → part_cardinality slot p ≡ gap_cardinality p.row_count
cardinality-lacks slot p lacks = rw (whole-lacks slot p lacks) refl

rows-lack : (slot : Slot) (p : Part) → LacksColumn slot p → part_rows slot p ≡ replicate p.row_count []
rows-lack slot p lacks =
    ap (λ o. map (λ r. unwrap_or (option_map (λ c. row_of c.content r) o) []) (range_with_len 0 p.row_count))
    (whole-lacks slot p lacks)
    ∙ no-cells p.row_count 0

none-together : (m n : ℕ) → (m + n == 0) ≡ ((m == 0) && (n == 0))
none-together zero n = let e : 0 + n ≡ n = omega arith in ap (λ k. k == 0) e
none-together (suc m) n =
    ne_eqb (suc m + n) 0 (λ e. omega arith) ∙ sym (ap (λ b. b && (n == 0)) (ne_eqb (suc m) 0 (λ e. omega arith)))

-- the cardinality of some rows and others without the column is that of all
both-gaps : (c : Cardinality) (m n : ℕ)
    → greater_cardinality (greater_cardinality c (gap_cardinality m)) (gap_cardinality n)
    ≡ greater_cardinality c (gap_cardinality (m + n))
both-gaps c m n =
    by c (m == 0) (n == 0) ∙ ap (λ b. greater_cardinality c (if b then full else optional)) (sym (none-together m n))
  where
    by : (c : Cardinality) (a b : Bool)
        → greater_cardinality (greater_cardinality c (if a then full else optional)) (if b then full else optional)
        ≡ greater_cardinality c (if a && b then full else optional)
    by full true true = refl
    by full true false = refl
    by full false true = refl
    by full false false = refl
    by optional true true = refl
    by optional true false = refl
    by optional false true = refl
    by optional false false = refl
    by multivalued true true = refl
    by multivalued true false = refl
    by multivalued false true = refl
    by multivalued false false = refl

-- the rows of a part and of those behind it
count-more : (p : Part) (ps : List Part) → sum (row_counts (p ∷ ps)) ≡ p.row_count + sum (row_counts ps)
count-more p ps = sum-cons p.row_count (row_counts ps)

module _ (slot : Slot) where
  gap-bad : (ps : List Part) → AllByRecursion (LacksColumn slot) ps → list_any (bad_part slot) ps ≡ false
  gap-bad [] all = refl
  gap-bad (p ∷ ps) all = rw all.0 (gap-bad ps all.1)

  gap-kept : (ps : List Part) → AllByRecursion (LacksColumn slot) ps → filter_map (kept_part slot) ps ≡ []
  gap-kept [] all = refl
  gap-kept (p ∷ ps) all = rw (whole-lacks slot p all.0) (gap-kept ps all.1)

  gap-cardinality : (c : Cardinality) (ps : List Part) → AllByRecursion (LacksColumn slot) ps
      → fold greater_cardinality c (map (part_cardinality slot) ps)
      ≡ greater_cardinality c (gap_cardinality (sum (row_counts ps)))
  gap-cardinality full [] all = refl
  gap-cardinality optional [] all = refl
  gap-cardinality multivalued [] all = refl
  gap-cardinality c (p ∷ ps) all =
      ap (λ d. fold greater_cardinality (greater_cardinality c d) (map (part_cardinality slot) ps)) (cardinality-lacks slot p all.0)
      ∙ gap-cardinality (greater_cardinality c (gap_cardinality p.row_count)) ps all.1
      ∙ both-gaps c p.row_count (sum (row_counts ps))
      ∙ ap (λ n. greater_cardinality c (gap_cardinality n)) (sym (count-more p ps))

  gap-rows : (ps : List Part) → AllByRecursion (LacksColumn slot) ps
      → flat_map (part_rows slot) ps ≡ replicate (sum (row_counts ps)) []
  gap-rows [] all = refl
  gap-rows (p ∷ ps) all =
      ap₂ (λ xs ys. xs ++ ys) (rows-lack slot p all.0) (gap-rows ps all.1)
      ∙ replicate-append-replicate p.row_count (sum (row_counts ps)) []
      ∙ ap (λ n. replicate n []) (sym (count-more p ps))

  -- neighbours without the column look like one of as many rows
  pub alike-gap : (ps : List Part) → AllByRecursion (LacksColumn slot) ps
      → LookAlike slot ps (gap_of (sum (row_counts ps)) ∷ [])
  alike-gap ps all =
      let n = sum (row_counts ps) in
      let one : AllByRecursion (LacksColumn slot) (gap_of n ∷ []) = (refl, tt) in
      record {
        bad = gap-bad ps all ∙ sym (gap-bad (gap_of n ∷ []) one);
        kept = gap-kept ps all ∙ sym (gap-kept (gap_of n ∷ []) one);
        cardinality = λ c. gap-cardinality c ps all;
        rows = gap-rows ps all ∙ sym (no-cells n 0) ∙ sym (append-nil (part_rows slot (gap_of n)));
      }

-- ---- rows without the column, which may be none

-- what looks alike to a list that looks alike to another looks alike to that
alike-then : (slot : Slot) (ps qs us : List Part) → LookAlike slot ps qs → LookAlike slot qs us → LookAlike slot ps us
alike-then slot ps qs us a b = record {
  bad = a.bad ∙ b.bad;
  kept = a.kept ∙ b.kept;
  cardinality = λ c. a.cardinality c ∙ b.cardinality c;
  rows = a.rows ∙ b.rows;
}

-- one part of so many rows, or no part where there are none
abbrev pub gaps_of : ℕ → List Part
gaps_of n = if n == 0 then [] else gap_of n ∷ []

-- a part without rows and columns isn't seen
no-rows : (slot : Slot) → LookAlike slot (gap_of 0 ∷ []) []
no-rows slot = record { bad = refl; kept = refl; cardinality = by; rows = refl }
  where
    by : (c : Cardinality) → greater_cardinality c full ≡ c
    by full = refl
    by optional = refl
    by multivalued = refl

-- neighbours without the column look like one of as many rows, if they have any
pub alike-gaps : (slot : Slot) (ps : List Part) → AllByRecursion (LacksColumn slot) ps
    → LookAlike slot ps (gaps_of (sum (row_counts ps)))
alike-gaps slot ps all = by (sum (row_counts ps)) (sum (row_counts ps) == 0) refl (alike-gap slot ps all)
  where
    by : (n : ℕ) (b : Bool) → (n == 0) ≡ b → LookAlike slot ps (gap_of n ∷ [])
        → LookAlike slot ps (if b then [] else gap_of n ∷ [])
    by n true e alike =
        alike-then slot ps (gap_of 0 ∷ []) [] (subst (λ n. LookAlike slot ps (gap_of n ∷ [])) (eqb-true n 0 e) alike) (no-rows slot)
    by n false e alike = alike
