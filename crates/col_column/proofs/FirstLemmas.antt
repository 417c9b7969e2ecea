-- The first values of rows, or a default.
use Rattle.std.proofs.Common.{◌≡◌, ◌∙◌, ◌⊎◌, ℕ, zero, suc, ◌+◌, ◌-◌, ◌<◌, ◌≤◌, Bool, true, false, cond, List, [], ◌∷◌, length, take, drop, get_or, replicate, slice_get, slice_range, unwrap_or, option_map, map, Option, Some, None, refl, sym, ap, subst, inl, inr, arith}
use Rattle.std.specs.Cmp.{IsTotalOrder, Agrees}
use Rattle.std.specs.List.{All, AllByRecursion}
use Rattle.std.specs.Ordering.{ord_min, ord_max}
use Rattle.std.specs.declared.cmp.Ordering.{Ordering}
use Rattle.std.proofs.lemmas.List.{length-map, length-replicate}
use Rattle.std.proofs.lemmas.List.Elements.{All-from_recursion, All-drop}
use Rattle.std.proofs.lemmas.Option.{slice_get-map, slice_get_cases}
use Rattle.col_model.specs.Dictionary.{cut}
use Rattle.col_model.specs.Index.{Shape, empty_shape, full_shape, optional_shape, multivalued_shape}
use Rattle.col_values.specs.Values.{IsAtMost, Encloses}
use Rattle.col_values.proofs.HitLemmas.{front_value}
use Rattle.col_values.proofs.OrderLemmas.{encloses_more}
use Rattle.col_column.specs.Columns.{Seen, counts_by, row_count, rows_by, rows_of_values, first_at, firsts_or}
use Rattle.col_column.proofs.RowLemmas.{length-cut, one, single}

-- a value is taken from the front of a range
pub range_step : {T : Type 0} (xs : List T) (i e : ℕ) (x : T) → slice_get xs i ≡ Some x → i < e → e ≤ length xs
    → slice_range xs i e ≡ x ∷ slice_range xs (i + 1) e
range_step xs i e x value below within =
    let more : e - i ≡ suc (e - (i + 1)) = omega arith in
    (λ j. take (more j) (front_value xs i x value (omega arith) j))

-- how many rows there are
pub length-rows : {T : Type 0} (s : Shape) (xs : List T) → length (rows_by s xs) ≡ row_count s (length xs)
unfolding rows_by
length-rows (empty_shape m) xs = length-cut (replicate m 0) xs ∙ length-replicate m 0
length-rows full_shape xs = length-cut (replicate (length xs) 1) xs ∙ length-replicate (length xs) 1
length-rows (optional_shape cs) xs = length-cut cs xs
length-rows (multivalued_shape cs) xs = length-cut cs xs

-- there is one first value, or default, for each row
pub length-firsts : {T : Type 0} (default : T) (s : Shape) (xs : List T)
    → length (firsts_or default (rows_by s xs)) ≡ row_count s (length xs)
length-firsts default s xs = length-map (rows_by s xs) (λ row. unwrap_or (slice_get row 0) default) ∙ length-rows s xs

-- the value of a row is its first one, or the default
first_is : {T : Type 0} (default : T) (rows : List (List T)) (d : ℕ) → d < length rows
    → slice_get (firsts_or default rows) d ≡ Some (unwrap_or (first_at rows d) default)
first_is {T = T} default rows d within = slice_get-map (λ row. unwrap_or (slice_get row 0) default) rows d ∙ by (slice_get_cases rows d).1
  where
    by : ((row : List T) × (d < length rows) × (slice_get rows d ≡ Some row) × (get_or rows d row ≡ row))
        ⊎ ((length rows ≤ d) × (slice_get rows d ≡ None))
        → option_map (λ row. unwrap_or (slice_get row 0) default) (slice_get rows d)
        ≡ Some (unwrap_or (first_at rows d) default)
    by (inl f) = rw f.2 refl
    by (inr past) = absurd (omega (arith, past.0))

-- at a row's place stands its first value, or the default
pub value_at : {T : Type 0} (default : T) (s : Shape) (xs ys : List T) (d : ℕ) (o : Option T)
    → firsts_or default (rows_by s xs) ≡ ys → d < length ys → o ≡ first_at (rows_by s xs) d
    → slice_get ys d ≡ Some (unwrap_or o default)
value_at default s xs ys d o is within first =
    let rows = rows_by s xs in
    ap (λ ys. slice_get ys d) (sym is)
    ∙ first_is default rows d (omega (arith, ap length is, length-map rows (λ row. unwrap_or (slice_get row 0) default)))
    ∙ ap (λ o. Some (unwrap_or o default)) (sym first)

-- ---- where each row has one value

full_first : {T : Type 0} (xs : List T) (d : ℕ) → slice_get xs d ≡ first_at (rows_by full_shape xs) d
unfolding rows_by
full_first {T = T} xs d = by (slice_get xs d) ∙ ap (λ row. slice_get row 0) (sym (single xs d))
  where
    by : (o : Option T) → o ≡ slice_get (one o) 0
    by None = refl
    by (Some x) = refl

-- where each row has one value, the first value of a row is the value at its place
pub full_firsts : {V T : Type 0} (list : V → List T) (c : Seen V) (s : Shape) (v : V) (docs : List ℕ)
    → record { shape = s; values = v } ≡ c → s ≡ full_shape
    → map (slice_get (list v)) docs ≡ map (first_at (rows_of_values list c)) docs
full_firsts list c s v docs is full =
    (λ i. map (λ d. full_first (list v) d i) docs)
    ∙ (λ i. map (first_at (rows_by (sym full i) (list v))) docs)
    ∙ ap (λ c. map (first_at (rows_of_values list c)) docs) is

-- ---- what holds of the values and of the default holds of the first values

module _ {T : Type 0} (P : T → Type 0) (default : T) (given : P default) where
  front : (c : ℕ) (xs : List T) → All P xs → P (unwrap_or (slice_get (take c xs) 0) default)
  front zero xs all = given
  front (suc c) [] all = given
  front (suc c) (x ∷ xs) all = all 0 x (omega arith)

  each : (cs : List ℕ) (xs : List T) → All P xs → AllByRecursion P (firsts_or default (cut cs xs))
  unfolding cut
  each [] xs all = tt
  each (c ∷ cs) xs all = (front c xs all, each cs (drop c xs) (All-drop P c xs all))

  pub all-firsts : (s : Shape) (xs : List T) → All P xs → All P (firsts_or default (rows_by s xs))
  unfolding rows_by
  all-firsts s xs all = All-from_recursion P (firsts_or default (cut (counts_by s (length xs)) xs)) (each (counts_by s (length xs)) xs all)

-- ---- bounds that enclose the first values

module _ {T : Type 0} {C : T → T → Option Ordering} {R : T → T → Ordering} (o : IsTotalOrder R) (a : Agrees C R) (default : T) where
  nothing : (low high : T) → Encloses C low high []
  nothing low high = record { below = λ k d lt. absurd (omega arith); above = λ k d lt. absurd (omega arith) }

  -- bounds and the default enclose the default, and a value that the bounds enclose
  both : (low high v : T) → IsAtMost C low v → IsAtMost C v high
      → Encloses C (ord_min R low default) (ord_max R high default) (v ∷ default ∷ [])
  both low high v above below = encloses_more o a (v ∷ default ∷ []) 1 default low high (omega arith) refl (record {
    below = All-from_recursion (IsAtMost C low) (v ∷ []) (above, tt);
    above = All-from_recursion (λ v. IsAtMost C v high) (v ∷ []) (below, tt);
  })

  itself : (low high : T) → Encloses C (ord_min R low default) (ord_max R high default) (default ∷ [])
  itself low high = encloses_more o a (default ∷ []) 0 default low high (omega arith) refl (nothing low high)

  -- bounds that enclose the values, widened by the default, enclose the first values
  pub enclosed_firsts : (s : Shape) (xs : List T) (low high : T) → Encloses C low high xs
      → Encloses C (ord_min R low default) (ord_max R high default) (firsts_or default (rows_by s xs))
  enclosed_firsts s xs low high e = record {
    below = all-firsts (IsAtMost C (ord_min R low default)) default ((itself low high).below 0 default (omega arith)) s xs
        (λ k d lt. (both low high (get_or xs k d) (e.below k d lt) (e.above k d lt)).below 0 d (omega arith));
    above = all-firsts (λ v. IsAtMost C v (ord_max R high default)) default ((itself low high).above 0 default (omega arith)) s xs
        (λ k d lt. (both low high (get_or xs k d) (e.below k d lt) (e.above k d lt)).above 0 d (omega arith));
  }

  same : (b : Bool) → cond b default default ≡ default
  same true = refl
  same false = refl

  pub low_itself : IsAtMost C default default
  low_itself = subst (λ m. IsAtMost C m default) (same _) ((itself default default).below 0 default (omega arith))

  -- without values the default alone encloses
  pub enclosed_defaults : (s : Shape) (xs : List T) → length xs ≡ 0 → Encloses C default default (firsts_or default (rows_by s xs))
  enclosed_defaults s xs none = record {
    below = all-firsts (IsAtMost C default) default low_itself s xs (λ k d lt. absurd (omega arith));
    above = all-firsts (λ v. IsAtMost C v default) default low_itself s xs (λ k d lt. absurd (omega arith));
  }
