-- Row counts that are compared one by one.
use Rattle.std.proofs.Common.{◌≡◌, ◌≢◌, ℕ, zero, suc, ◌+◌, ◌<◌, ◌==◌, ◌&&◌, Bool, true, false, List, [], ◌∷◌, length, drop, get_or, slice_index, refl, sym, ap, ◌∙◌, arith, add-one}
use Rattle.std.specs.Bool.{nat_eq}
use Rattle.std.specs.Cmp.Lexicographic.{pointwise}
use Rattle.std.proofs.lemmas.Bool.{eq-eqb, ne_eqb, eqb-true, and_parts}
use Rattle.col_file.specs.Readers.{SeenReader}
use Rattle.col_merge_plan.specs.Slots.{counts_read}

-- what is left of the comparison from a place on
abbrev pub left_alike : List ℕ → List ℕ → ℕ → Bool
left_alike xs ys i = pointwise nat_eq (drop i xs) (drop i ys)

-- the numbers at a place are one
alike-more : (xs ys : List ℕ) (i : ℕ) → i < length xs → i < length ys → slice_index xs i ≡ slice_index ys i
    → left_alike xs ys i ≡ left_alike xs ys (suc i)
alike-more [] ys i h k e = absurd (omega arith)
alike-more (x ∷ xs) [] i h k e = absurd (omega arith)
alike-more (x ∷ xs) (y ∷ ys) zero h k e = ap (λ b. b && pointwise nat_eq xs ys) (eq-eqb x y e)
alike-more (x ∷ xs) (y ∷ ys) (suc i) h k e = alike-more xs ys i (omega (arith, h)) (omega (arith, k)) e

-- or they differ
alike-stops : (xs ys : List ℕ) (i : ℕ) → i < length xs → i < length ys → slice_index xs i ≢ slice_index ys i → left_alike xs ys i ≡ false
alike-stops [] ys i h k e = absurd (omega arith)
alike-stops (x ∷ xs) [] i h k e = absurd (omega arith)
alike-stops (x ∷ xs) (y ∷ ys) zero h k e = ap (λ b. b && pointwise nat_eq xs ys) (ne_eqb x y e)
alike-stops (x ∷ xs) (y ∷ ys) (suc i) h k e = alike-stops xs ys i (omega (arith, h)) (omega (arith, k)) e

-- lists that are alike are one
pub alike-same : (xs ys : List ℕ) → pointwise nat_eq xs ys ≡ true → xs ≡ ys
alike-same [] [] e = refl
alike-same [] (y ∷ ys) e = cc
alike-same (x ∷ xs) [] e = cc
alike-same (x ∷ xs) (y ∷ ys) e =
    let parts = and_parts (x == y) (pointwise nat_eq xs ys) e in
    let head = eqb-true x y parts.0 in
    let tail = alike-same xs ys parts.1 in
    cc

-- ---- the counts of readers

-- there is one row count for each reader
pub length-counts : (rs : List SeenReader) → length (counts_read rs) ≡ length rs
length-counts [] = refl
length-counts (r ∷ rs) = ap suc (length-counts rs)

count-at : (rs : List SeenReader) (i : ℕ) (r : SeenReader) → i < length rs → r ≡ get_or rs i r
    → slice_index (counts_read rs) i ≡ r.keys.row_count
count-at [] i r h e = absurd (omega arith)
count-at (x ∷ rs) zero r h e = sym (ap (λ (r : SeenReader). r.keys.row_count) e)
count-at (x ∷ rs) (suc i) r h e = count-at rs i r (omega (arith, h)) e

module _ (own : List ℕ) (rs : List SeenReader) (i n m : ℕ) (r : SeenReader) (long : length own ≡ length rs)
    (within : i < length rs) (is : r ≡ get_or rs i r) (mine : n ≡ slice_index own i) (theirs : m ≡ r.keys.row_count)
  where
    own-within : i < length own
    own-within = omega arith

    counts-within : i < length (counts_read rs)
    counts-within = omega (arith, length-counts rs)

    -- a reader has as many rows as the order knows
    pub counts-more : n ≡ m → left_alike own (counts_read rs) i ≡ left_alike own (counts_read rs) (i + 1)
    counts-more e =
        rw add-one (alike-more own (counts_read rs) i own-within counts-within
        (sym mine ∙ e ∙ theirs ∙ sym (count-at rs i r within is)))

    -- or not
    pub counts-stop : n ≢ m → left_alike own (counts_read rs) i ≡ false
    counts-stop ne =
        alike-stops own (counts_read rs) i own-within counts-within (λ e. ne (mine ∙ e ∙ count-at rs i r within is ∙ sym theirs))
