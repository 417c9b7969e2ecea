-- Parts that look alike to a stack under a slot.
use Rattle.std.proofs.Common.{◌≡◌, ℕ, suc, ◌+◌, ◌==◌, ◌&&◌, ◌||◌, nat_lt, Bool, List, [], ◌∷◌, ◌++◌, map, filter_map, flat_map, fold, length, Some, None, is_some, is_none, option_map, option_and_then, unwrap_or, append_assoc, refl, sym, ◌∙◌, ap, ap₂, arith}
use Rattle.std.specs.Prelude.{Option, if◌then◌else◌}
use Rattle.std.specs.List.{list_any, enumerate_from, range_with_len, cons_option}
use Rattle.std.proofs.lemmas.List.{length-map, map-append}
use Rattle.std.proofs.lemmas.List.Elements.{filter_map-append}
use Rattle.std.proofs.lemmas.List.Folds.{list_any-append}
use Rattle.std.proofs.lemmas.List.Sums.{fold-append}
use Rattle.col_common.specs.Reading.{only_if}
use Rattle.col_model.specs.Category.{Slot}
use Rattle.col_model.specs.File.{Part}
use Rattle.col_model.specs.Lookup.{row_of}
use Rattle.col_model.specs.Merge.{Required, column_in, whole_column_in, kept_column, kept_columns, segment_cardinality, stacked_cardinality, cells_in, greater_cardinality, joined_column, row_counts}
use Rattle.col_model.specs.Order.{stack, all_rows}
use Rattle.col_model.specs.Table.{Cardinality, Column, full, optional}
use Rattle.col_model.proofs.StackLaws.{part_rows, stack-rows}
use Rattle.col_model.proofs.StackSeen.{PicksFrom, any-picked}

-- ---- what a stack sees of a part

-- the column, where some row of it holds a cell
abbrev pub kept_part : Slot → Part → Option Column
kept_part slot p = option_and_then
    (λ c. only_if (list_any (λ r. nat_lt 0 (length (row_of c.content r))) (range_with_len 0 p.row_count)) c)
    (whole_column_in slot p)

abbrev pub part_cardinality : Slot → Part → Cardinality
part_cardinality slot p =
    unwrap_or (option_map (λ c. c.content.cardinality) (kept_part slot p)) (if p.row_count == 0 then full else optional)

abbrev pub bad_part : Slot → Part → Bool
bad_part slot p = is_some (column_in slot p) && is_none (whole_column_in slot p)

-- a stack sees the same of both lists of parts under a slot, also behind and before others
pub record LookAlike (slot : Slot) (ps qs : List Part) : Type 0 where
  pub bad : list_any (bad_part slot) ps ≡ list_any (bad_part slot) qs
  pub kept : filter_map (kept_part slot) ps ≡ filter_map (kept_part slot) qs
  pub cardinality : (c : Cardinality) → fold greater_cardinality c (map (part_cardinality slot) ps)
      ≡ fold greater_cardinality c (map (part_cardinality slot) qs)
  pub rows : flat_map (part_rows slot) ps ≡ flat_map (part_rows slot) qs

kept-is : (slot : Slot) (picked : List (ℕ × ℕ)) (k : ℕ) (p : Part)
    → ((f : ℕ → Bool) → list_any (λ (x : ℕ × ℕ). (x.0 == k) && f x.1) picked ≡ list_any f (range_with_len 0 p.row_count))
    → kept_column slot picked (k, p) ≡ kept_part slot p
kept-is slot picked k p h = by (whole_column_in slot p)
  where
    by : (o : Option Column)
        → option_and_then
        (λ c. only_if (list_any (λ q. (q.0 == k) && nat_lt 0 (length (row_of c.content q.1))) picked) c) o
        ≡ option_and_then
        (λ c. only_if (list_any (λ r. nat_lt 0 (length (row_of c.content r))) (range_with_len 0 p.row_count)) c) o
    by None = refl
    by (Some c) = ap (λ b. only_if b c) (h (λ r. nat_lt 0 (length (row_of c.content r))))

kept-parts : (slot : Slot) (picked : List (ℕ × ℕ)) (k : ℕ) (ps : List Part) → PicksFrom k (row_counts ps) picked
    → filter_map (kept_column slot picked) (enumerate_from k ps) ≡ filter_map (kept_part slot) ps
kept-parts slot picked k [] h = refl
kept-parts slot picked k (p ∷ ps) h =
    ap₂ cons_option (kept-is slot picked k p (λ f. h k 0 p.row_count f (omega arith) refl))
    (kept-parts slot picked (k + 1) ps (λ at j n f e g. h at (suc j) n f (omega arith) g))

cardinalities : (slot : Slot) (picked : List (ℕ × ℕ)) (k : ℕ) (ps : List Part) → PicksFrom k (row_counts ps) picked
    → map (segment_cardinality slot picked) (enumerate_from k ps) ≡ map (part_cardinality slot) ps
cardinalities slot picked k [] h = refl
cardinalities slot picked k (p ∷ ps) h =
    ap₂ (λ x xs. x ∷ xs)
    (ap (λ o. unwrap_or (option_map (λ c. c.content.cardinality) o) (if p.row_count == 0 then full else optional))
    (kept-is slot picked k p (λ f. h k 0 p.row_count f (omega arith) refl)))
    (cardinalities slot picked (k + 1) ps (λ at j n f e g. h at (suc j) n f (omega arith) g))

-- ---- the joined column

module _ (slot : Slot) (ps qs : List Part) (alike : LookAlike slot ps qs) where
  -- stacks of parts that look alike have as many rows
  pub alike-length : length (all_rows (row_counts ps)) ≡ length (all_rows (row_counts qs))
  alike-length =
      sym (length-map (all_rows (row_counts ps)) (cells_in slot ps))
      ∙ ap length (stack-rows slot ps ∙ alike.rows ∙ sym (stack-rows slot qs))
      ∙ length-map (all_rows (row_counts qs)) (cells_in slot qs)

  alike-kept : kept_columns slot (all_rows (row_counts ps)) ps ≡ kept_columns slot (all_rows (row_counts qs)) qs
  alike-kept =
      kept-parts slot (all_rows (row_counts ps)) 0 ps (λ at j n f e g. any-picked (row_counts ps) 0 at j n f e g)
      ∙ alike.kept
      ∙ sym (kept-parts slot (all_rows (row_counts qs)) 0 qs (λ at j n f e g. any-picked (row_counts qs) 0 at j n f e g))

  alike-cardinality : stacked_cardinality slot (all_rows (row_counts ps)) ps
      ≡ stacked_cardinality slot (all_rows (row_counts qs)) qs
  alike-cardinality =
      ap (fold greater_cardinality full) (cardinalities slot (all_rows (row_counts ps)) 0 ps
      (λ at j n f e g. any-picked (row_counts ps) 0 at j n f e g))
      ∙ alike.cardinality full
      ∙ ap (fold greater_cardinality full) (sym (cardinalities slot (all_rows (row_counts qs)) 0 qs
      (λ at j n f e g. any-picked (row_counts qs) 0 at j n f e g)))

  -- stacks of parts that look alike have one column under the slot
  pub alike-joined : (required : List Required)
      → joined_column (stack (row_counts ps)) (all_rows (row_counts ps)) ps required slot
      ≡ joined_column (stack (row_counts qs)) (all_rows (row_counts qs)) qs required slot
  unfolding joined_column
  alike-joined required =
      rw (alike.bad, alike-kept, alike-cardinality, stack-rows slot ps ∙ alike.rows ∙ sym (stack-rows slot qs)) refl

-- ---- how lists that look alike are made

pub alike-self : (slot : Slot) (ps : List Part) → LookAlike slot ps ps
alike-self slot ps = record { bad = refl; kept = refl; cardinality = λ c. refl; rows = refl }

flat-map-append : {A B : Type 0} (f : A → List B) (xs ys : List A) → flat_map f (xs ++ ys) ≡ flat_map f xs ++ flat_map f ys
flat-map-append f [] ys = refl
flat-map-append f (x ∷ xs) ys = ap (λ r. f x ++ r) (flat-map-append f xs ys) ∙ sym (append_assoc (f x) (flat_map f xs) (flat_map f ys))

pub alike-append : (slot : Slot) (ps qs us vs : List Part) → LookAlike slot ps qs → LookAlike slot us vs
    → LookAlike slot (ps ++ us) (qs ++ vs)
alike-append slot ps qs us vs a b = record {
  bad =
      list_any-append (bad_part slot) ps us ∙ ap₂ (λ x y. x || y) a.bad b.bad ∙ sym (list_any-append (bad_part slot) qs vs);
  kept =
      filter_map-append (kept_part slot) ps us ∙ ap₂ (λ x y. x ++ y) a.kept b.kept
      ∙ sym (filter_map-append (kept_part slot) qs vs);
  cardinality =
      λ c. split c ps us ∙ ap (λ d. fold greater_cardinality d (map (part_cardinality slot) us)) (a.cardinality c)
      ∙ b.cardinality (fold greater_cardinality c (map (part_cardinality slot) qs)) ∙ sym (split c qs vs);
  rows =
      flat-map-append (part_rows slot) ps us ∙ ap₂ (λ x y. x ++ y) a.rows b.rows
      ∙ sym (flat-map-append (part_rows slot) qs vs);
}
  where
    split : (c : Cardinality) (xs ys : List Part) → fold greater_cardinality c (map (part_cardinality slot) (xs ++ ys))
        ≡ fold greater_cardinality (fold greater_cardinality c (map (part_cardinality slot) xs)) (map (part_cardinality slot) ys)
    split c xs ys =
        ap (fold greater_cardinality c) (map-append (part_cardinality slot) xs ys)
        ∙ fold-append greater_cardinality c (map (part_cardinality slot) xs) (map (part_cardinality slot) ys)
