-- Columns of segments, one segment after another.
use Rattle.std.proofs.Common.{◌≡◌, ℕ, zero, suc, ◌<◌, List, [], ◌∷◌, length, get_or, true, refl, ap, arith}
use Rattle.std.specs.Cmp.Lexicographic.{pointwise}
use Rattle.std.proofs.lemmas.Bool.{and_from, eq-eqb}
use Rattle.col_model.specs.Index.{Shape, empty_shape, full_shape, optional_shape, multivalued_shape}
use Rattle.col_indexer.specs.Merged.{is_over, FitSegments}
use Rattle.col_merge_values.specs.Merges.{columns_by, segment_shape, segment_values, FitsShape, AreColumns}

-- no segment
pub columns-none : {T : Type 0} → AreColumns [] (columns_by {T = T} [] [])
columns-none = record { shapes = refl; lists = refl; each = λ k h. absurd (omega arith) }

-- one more in front
pub columns-more :
    {T : Type 0} (n : ℕ) (ns : List ℕ) (s : Shape) (ss : List Shape) (xs : List T) (xss : List (List T))
    → FitsShape n s xs → AreColumns ns (columns_by ss xss) → AreColumns (n ∷ ns) (columns_by (s ∷ ss) (xs ∷ xss))
columns-more {T = T} n ns s ss xs xss is are = record { shapes = ap suc are.shapes; lists = ap suc are.lists; each = each }
  where
    each : (k : ℕ) → k < length (n ∷ ns)
        → FitsShape (get_or (n ∷ ns) k 0) (segment_shape (columns_by (s ∷ ss) (xs ∷ xss)) k)
        (segment_values (columns_by (s ∷ ss) (xs ∷ xss)) k)
    each zero h = is
    each (suc k) h = are.each k (omega arith)

-- a column's shape is one of its rows
over-column : {T : Type 0} (n : ℕ) (s : Shape) (xs : List T) → FitsShape n s xs → is_over n s ≡ true
over-column n (empty_shape m) xs is = eq-eqb m n is.rows
over-column n full_shape xs is = refl
over-column n (optional_shape cs) xs is = eq-eqb (length cs) n is.rows
over-column n (multivalued_shape cs) xs is = eq-eqb (length cs) n is.rows

-- shapes of columns are those of the segments
pub columns-fit : {T : Type 0} (ns : List ℕ) (ss : List Shape) (xss : List (List T)) → AreColumns ns (columns_by ss xss) → FitSegments ns ss
columns-fit [] [] xss are = refl
columns-fit [] (s ∷ ss) xss are = absurd (omega (arith, are.shapes))
columns-fit (n ∷ ns) [] xss are = absurd (omega (arith, are.shapes))
columns-fit (n ∷ ns) (s ∷ ss) [] are = absurd (omega (arith, are.lists))
columns-fit (n ∷ ns) (s ∷ ss) (xs ∷ xss) are =
    let rest : AreColumns ns (columns_by ss xss) = record {
      shapes = omega (arith, are.shapes);
      lists = omega (arith, are.lists);
      each = λ k h. are.each (suc k) (omega arith);
    } in
    and_from (is_over n s) (pointwise is_over ns ss) (over-column n s xs (are.each 0 (omega arith))) (columns-fit ns ss xss rest)
