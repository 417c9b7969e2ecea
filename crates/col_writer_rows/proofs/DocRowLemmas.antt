-- Rows with values and their starts, from documents that never fall.
use Rattle.std.proofs.Common.{◌≡◌, ◌<◌, ◌≤◌, ◌⊎◌, inl, inr, ℕ, zero, suc, ◌+◌, ◌-◌, List, [], ◌∷◌, ◌++◌, length, take, sum, get_or, true, refl, sym, ◌∙◌, ap, subst, arith, append-nil, lt-ltb}
use Rattle.std.specs.Prelude.{nat_lt, nat_le}
use Rattle.std.proofs.lemmas.Bool.{and_parts, and_from, cases_order}
use Rattle.std.proofs.lemmas.List.{take_more}
use Rattle.col_common.specs.Ascending.{are_below, is_never_falling}
use Rattle.col_model.specs.Positions.{rows_with_value, starts_of}
use Rattle.col_writer_rows.specs.Counted.{counts_of_rows}
use Rattle.col_writer_rows.proofs.CutLemmas.{front_same}
use Rattle.col_writer_rows.proofs.DocCountLemmas.{count, none-above, rows-later, counts-same, count-next, below-next, rows-at, starts-at, last_same, starts-later}
use Rattle.col_writer_rows.proofs.StartLemmas.{where_some, starts_in, starts-none}

-- ---- one document more

module _ (n d at : ℕ) (docs rows starts : List ℕ) (low : d < n) (below : are_below (d + 1) docs ≡ true)
    (r : rows ≡ rows_with_value (counts_of_rows n docs)) (s : starts ++ at ∷ [] ≡ starts_of (counts_of_rows n docs)) where
  abbrev cs : List ℕ
  cs = counts_of_rows d docs

  abbrev more : List ℕ
  more = docs ++ d ∷ []

  rows-more-at : rows_with_value (counts_of_rows n more) ≡ rows_with_value cs ++ where_some (count d docs + 1) d
  rows-more-at =
      rows-at n d more low (below-next (d + 1) d docs (omega arith) below)
      ∙ (λ i. rows_with_value (counts-same d d docs (omega arith) i) ++ where_some (count-next d docs i) d)

  starts-more-at : starts_of (counts_of_rows n more)
      ≡ (starts_in 0 cs ++ where_some (count d docs + 1) (sum cs)) ++ (sum cs + (count d docs + 1)) ∷ []
  starts-more-at =
      starts-at n d more low (below-next (d + 1) d docs (omega arith) below)
      ∙ (λ i. (starts_in 0 (counts-same d d docs (omega arith) i)
      ++ where_some (count-next d docs i) (sum (counts-same d d docs (omega arith) i)))
      ++ (sum (counts-same d d docs (omega arith) i) + count-next d docs i) ∷ [])

  starts-front : starts ≡ starts_in 0 cs ++ where_some (count d docs) (sum cs)
  starts-front = front_same starts _ at _ (s ∙ starts-at n d docs low below)

  starts-end : at ≡ sum cs + count d docs
  starts-end = last_same starts _ at _ (s ∙ starts-at n d docs low below)

  -- of a new row
  rows-new : count d docs ≡ 0 → rows ++ d ∷ [] ≡ rows_with_value (counts_of_rows n more)
  rows-new z =
      ap (λ l. l ++ d ∷ []) (r ∙ rows-at n d docs low below ∙ ap (λ c. rows_with_value cs ++ where_some c d) z
      ∙ append-nil (rows_with_value cs))
      ∙ sym (rows-more-at ∙ ap (λ c. rows_with_value cs ++ where_some (c + 1) d) z)

  starts-new : count d docs ≡ 0 → (starts ++ at ∷ []) ++ (at + 1) ∷ [] ≡ starts_of (counts_of_rows n more)
  starts-new z =
      let place : at ≡ sum cs = omega (arith, starts-end, z) in
      let end : at + 1 ≡ sum cs + (count d docs + 1) = omega (arith, starts-end) in
      let front : starts ≡ starts_in 0 cs =
      starts-front ∙ ap (λ c. starts_in 0 cs ++ where_some c (sum cs)) z ∙ append-nil (starts_in 0 cs) in
      (λ i. (front i ++ place i ∷ []) ++ end i ∷ [])
      ∙ sym (starts-more-at
      ∙ ap (λ c. (starts_in 0 cs ++ where_some (c + 1) (sum cs)) ++ (sum cs + (count d docs + 1)) ∷ []) z)

  -- of the same row
  rows-again : 0 < count d docs → rows ≡ rows_with_value (counts_of_rows n more)
  rows-again some = by (count d docs) refl some
    where
      by : (c : ℕ) → count d docs ≡ c → 0 < c → rows ≡ rows_with_value (counts_of_rows n more)
      by zero e h = absurd (omega (arith, h))
      by (suc c) e h =
          let f : count d docs + 1 ≡ suc (suc c) = omega (arith, e) in
          r ∙ rows-at n d docs low below ∙ ap (λ k. rows_with_value cs ++ where_some k d) e
          ∙ sym (rows-more-at ∙ ap (λ k. rows_with_value cs ++ where_some k d) f)

  starts-again : 0 < count d docs → starts ++ (at + 1) ∷ [] ≡ starts_of (counts_of_rows n more)
  starts-again some = by (count d docs) refl some
    where
      by : (c : ℕ) → count d docs ≡ c → 0 < c → starts ++ (at + 1) ∷ [] ≡ starts_of (counts_of_rows n more)
      by zero e h = absurd (omega (arith, h))
      by (suc c) e h =
          let f : count d docs + 1 ≡ suc (suc c) = omega (arith, e) in
          let end : at + 1 ≡ sum cs + (count d docs + 1) = omega (arith, starts-end) in
          (λ i. (starts-front ∙ ap (λ k. starts_in 0 cs ++ where_some k (sum cs)) e) i ++ end i ∷ [])
          ∙ sym (starts-more-at
          ∙ ap (λ k. (starts_in 0 cs ++ where_some k (sum cs)) ++ (sum cs + (count d docs + 1)) ∷ []) f)

-- ---- documents that never fall

first-least : (x : ℕ) (xs : List ℕ) (j : ℕ) → is_never_falling (x ∷ xs) ≡ true → j < length xs → x ≤ get_or xs j 0
first-least x [] j e h = absurd (omega (arith, h))
first-least x (y ∷ ys) zero e h = let parts = and_parts (nat_le x y) (is_never_falling (y ∷ ys)) e in grind (arith, parts.0)
first-least x (y ∷ ys) (suc j) e h =
    let parts = and_parts (nat_le x y) (is_never_falling (y ∷ ys)) e in
    let first : x ≤ y = grind (arith, parts.0) in
    omega (arith, first, first-least y ys j parts.1 (omega (arith, h)))

-- none before a place is above the one there
below-at : (docs : List ℕ) (i d : ℕ) → is_never_falling docs ≡ true → i < length docs → get_or docs i 0 ≡ d
    → are_below (d + 1) (take i docs) ≡ true
below-at [] i d e h f = absurd (omega (arith, h))
below-at (x ∷ xs) zero d e h f = refl
below-at (x ∷ []) (suc i) d e h f = absurd (omega (arith, h))
below-at (x ∷ y ∷ ys) (suc i) d e h f =
    let parts = and_parts (nat_le x y) (is_never_falling (y ∷ ys)) e in
    let low : x < d + 1 = omega (arith, f, first-least x (y ∷ ys) i e (omega (arith, h))) in
    and_from (nat_lt x (d + 1)) _ (lt-ltb x (d + 1) low) (below-at (y ∷ ys) i d parts.1 (omega (arith, h)) f)

-- Of the documents before a place, all below `next`, the last of which is the one before it, these
-- are the rows with values and their starts.
pub record IsWalked (n : ℕ) (docs rows starts : List ℕ) (i next : ℕ) : Type 0 where
  pub rows_are : rows ≡ rows_with_value (counts_of_rows n (take i docs))
  pub starts_are : starts ++ i ∷ [] ≡ starts_of (counts_of_rows n (take i docs))
  pub below : are_below next (take i docs) ≡ true
  pub last : (next ≡ 0) ⊎ (0 < count (next - 1) (take i docs))

module _ (n : ℕ) (docs : List ℕ) (fall : is_never_falling docs ≡ true) (all : are_below n docs ≡ true) where
  next-docs : (i d : ℕ) → i < length docs → get_or docs i 0 ≡ d → take (i + 1) docs ≡ take i docs ++ d ∷ []
  next-docs i d h e = take_more docs i 0 h ∙ ap (λ v. take i docs ++ v ∷ []) e

  below-more : (i d : ℕ) → i < length docs → get_or docs i 0 ≡ d → are_below (d + 1) (take (i + 1) docs) ≡ true
  below-more i d h e =
      ap (are_below (d + 1)) (next-docs i d h e)
      ∙ below-next (d + 1) d (take i docs) (omega arith) (below-at docs i d fall h e)

  last-more : (i d : ℕ) → i < length docs → get_or docs i 0 ≡ d → 0 < count ((d + 1) - 1) (take (i + 1) docs)
  last-more i d h e =
      let same : (d + 1) - 1 ≡ d = omega arith in
      let is : count ((d + 1) - 1) (take (i + 1) docs) ≡ count d (take i docs) + 1 =
      (λ j. count (same j) (next-docs i d h e j)) ∙ count-next d (take i docs) in
      omega (arith, is)

  -- a document of a new row
  pub walked-new : (rows starts rows' starts' : List ℕ) (i d next next' : ℕ) → i < length docs → get_or docs i 0 ≡ d
      → d < n → next ≤ d → rows' ≡ rows ++ d ∷ [] → starts' ≡ starts ++ i ∷ [] → next' ≡ d + 1
      → IsWalked n docs rows starts i next → IsWalked n docs rows' starts' (i + 1) next'
  walked-new rows starts rows' starts' i d next next' h e low new f g k w =
      let before = below-at docs i d fall h e in
      let none = none-above next d (take i docs) w.below new in
      let more = next-docs i d h e in
      record {
        rows_are =
            f ∙ rows-new n d i (take i docs) rows starts low before w.rows_are w.starts_are none
            ∙ ap (λ l. rows_with_value (counts_of_rows n l)) (sym more);
        starts_are =
            ap (λ l. l ++ (i + 1) ∷ []) g
            ∙ starts-new n d i (take i docs) rows starts low before w.rows_are w.starts_are none
            ∙ ap (λ l. starts_of (counts_of_rows n l)) (sym more);
        below = subst (λ m. are_below m (take (i + 1) docs) ≡ true) (sym k) (below-more i d h e);
        last = inr (subst (λ m. 0 < count (m - 1) (take (i + 1) docs)) (sym k) (last-more i d h e));
      }

  -- a document of the same row
  pub walked-again : (rows starts : List ℕ) (i d next : ℕ) → i < length docs → get_or docs i 0 ≡ d → d < n → d < next
      → IsWalked n docs rows starts i next → IsWalked n docs rows starts (i + 1) next
  walked-again rows starts i d next h e low old w = by w.last
    where
      by : (next ≡ 0) ⊎ (0 < count (next - 1) (take i docs)) → IsWalked n docs rows starts (i + 1) next
      by (inl z) = absurd (omega (arith, z, old))
      by (inr some) =
          let before = below-at docs i d fall h e in
          let more = next-docs i d h e in
          let same : next ≡ d + 1 = same-row before some in
          let own : next - 1 ≡ d = omega (arith, same) in
          let held : 0 < count d (take i docs) = subst (λ k. 0 < count k (take i docs)) own some in
          record {
            rows_are =
                rows-again n d i (take i docs) rows starts low before w.rows_are w.starts_are held
                ∙ ap (λ l. rows_with_value (counts_of_rows n l)) (sym more);
            starts_are =
                starts-again n d i (take i docs) rows starts low before w.rows_are w.starts_are held
                ∙ ap (λ l. starts_of (counts_of_rows n l)) (sym more);
            below = subst (λ k. are_below k (take (i + 1) docs) ≡ true) (sym same) (below-more i d h e);
            last = inr (subst (λ k. 0 < count (k - 1) (take (i + 1) docs)) (sym same) (last-more i d h e));
          }
        where
          same-row : are_below (d + 1) (take i docs) ≡ true → 0 < count (next - 1) (take i docs) → next ≡ d + 1
          same-row before some = elim (cases_order next (d + 1)) [
            | inl e ↦ e
            | inr (inl l) ↦ absurd (omega (arith, l, old))
            | inr (inr g) ↦ absurd (omega (arith, some, none-above (d + 1) (next - 1) (take i docs) before (omega (arith, g))))
          ]

-- before the first document
pub walked-none : (n : ℕ) (docs rows starts : List ℕ) → rows ≡ [] → starts ≡ [] → IsWalked n docs rows starts 0 0
unfolding counts_of_rows
walked-none n docs rows starts r s = record {
  rows_are = r ∙ sym (none-rows n);
  starts_are = ap (λ l. l ++ 0 ∷ []) s ∙ sym (none-starts n);
  below = refl;
  last = inl refl;
}
  where
    none-rows : (n : ℕ) → rows_with_value (counts_of_rows n []) ≡ []
    none-rows n = let z : n ≡ 0 + n = omega arith in ap (λ k. rows_with_value (counts_of_rows k [])) z ∙ rows-later 0 n [] refl

    none-starts : (n : ℕ) → starts_of (counts_of_rows n []) ≡ 0 ∷ []
    none-starts n =
        let z : n ≡ 0 + n = omega arith in
        ap (λ k. starts_of (counts_of_rows k [])) z ∙ starts-later 0 n [] refl ∙ sym starts-none
