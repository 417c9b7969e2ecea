-- The values of rows, each beside its row.
use Rattle.std.proofs.Common.{◌≡◌, ℕ, ◌+◌, ◌-◌, ◌<◌, not, true, false, [], ◌∷◌, ◌++◌, length, get_or, sym, ap, ◌∙◌, arith}
use Rattle.std.proofs.lemmas.Bool.{eqb-true}
use Rattle.std.proofs.lemmas.List.FromFn.{map-range_with_len_more}
use Rattle.col_model.specs.Index.{RowOffsets, offset_counts, multivalued_shape}
use Rattle.col_model.specs.Positions.{rank, start_of, values_in}
use Rattle.col_index.specs.Offsets.{AreOffsets, run}
use Rattle.col_index.specs.Sets.{holds}
use Rattle.col_index.proofs.RankLaws.{rows_rise}
use Rattle.col_index.proofs.HeldLaws.{holds-rank}
use Rattle.col_index.proofs.CountLaws.{offset_counts-start, offset_counts-held, offset_counts-none}

-- one more
pub run-more : (doc start n place : ℕ) → place ≡ start + n → run doc start (n + 1) ≡ run doc start n ++ (doc, place) ∷ []
run-more doc start n place e = map-range_with_len_more (λ p. (doc, p)) start n place (sym e)

-- ---- the values of one row

module _ (o : RowOffsets) (a : AreOffsets o) (doc : ℕ) where
  -- a row without values
  pub values-free : holds o.set.rows doc ≡ false → values_in (multivalued_shape (offset_counts o)) doc ≡ []
  values-free h =
      let none : get_or (offset_counts o) doc 0 ≡ 0 = eqb-true _ _ (offset_counts-none o a doc ∙ ap not h) in
      ap (run doc (start_of (offset_counts o) doc)) none

  -- the values of a row from its start to its end
  pub values-held : (k start end : ℕ) → k ≡ rank o.set.rows doc → holds o.set.rows doc ≡ true
      → start ≡ get_or o.starts k 0 → end ≡ get_or o.starts (k + 1) 0
      → run doc start (end - start) ≡ values_in (multivalued_shape (offset_counts o)) doc
  values-held k start end r h s q =
      let same : start ≡ start_of (offset_counts o) doc = s ∙ ap (λ n. get_or o.starts n 0) r ∙ sym (offset_counts-start o a doc) in
      let next : end ≡ get_or o.starts (rank o.set.rows doc + 1) 0 = q ∙ ap (λ n. get_or o.starts (n + 1) 0) r in
      let count : end - start ≡ get_or (offset_counts o) doc 0 =
      omega (arith, offset_counts-held o a doc h, next, same, offset_counts-start o a doc) in
      ap (λ n. run doc n (end - start)) same ∙ ap (run doc (start_of (offset_counts o) doc)) count

-- ---- ranks of rows that are in

-- the rank of a row that is in is one of them
pub held-inside : (o : RowOffsets) → AreOffsets o → (doc k : ℕ) → k ≡ rank o.set.rows doc
    → holds o.set.rows doc ≡ true → k < length o.set.rows
held-inside o a doc k r h = omega (arith, r, (holds-rank o.set.rows doc (rows_rise o.set a.rows) h).0)
