-- Rows that pass a test, as a list.
use Rattle.std.proofs.Common.{◌≡◌, ◌||◌, ⊎_elim, ℕ, zero, suc, ◌+◌, ◌<◌, ◌≤◌, ◌&&◌, Bool, true, false, cond, List, ◌∷◌, filter, refl, sym, ap, ◌∙◌, arith}
use Rattle.std.specs.List.{range_with_len}
use Rattle.std.proofs.lemmas.Bool.{eq-eqb, le-leb, lt-ltb, cases_lt}
use Rattle.col_query.specs.Sets.{docs_where}
use Rattle.col_places.specs.Places.{are_places, is_listed, places_of}
use Rattle.col_places.proofs.WalkLemmas.{listed-below, listed-later, places-agree, places-lower}

-- they ascend
pub range-places : (p : ℕ → Bool) (k n end_ : ℕ) → k + n ≤ end_ → are_places k end_ (filter p (range_with_len k n)) ≡ true
range-places p k zero end_ le = refl
range-places p k (suc n) end_ le = by (p k) (range-places p (k + 1) n end_ (omega (arith, le)))
  where
    rest : List ℕ
    rest = filter p (range_with_len (k + 1) n)

    by : (b : Bool) → are_places (k + 1) end_ (filter p (range_with_len (k + 1) n)) ≡ true
        → are_places k end_ (cond b (k ∷ filter p (range_with_len (k + 1) n)) (filter p (range_with_len (k + 1) n))) ≡ true
    by true later = λ i. le-leb k k (omega arith) i && lt-ltb k end_ (omega (arith, le)) i && later i
    by false later = places-lower k (k + 1) end_ (filter p (range_with_len (k + 1) n)) (omega arith) later

pub where-places : (p : ℕ → Bool) (n : ℕ) → are_places 0 n (docs_where p n) ≡ true
where-places p n = range-places p 0 n n (omega arith)

-- a row is one of them where it passes
range-listed : (p : ℕ → Bool) (k n r : ℕ) → k ≤ r → r < k + n → is_listed (filter p (range_with_len k n)) r ≡ p r
range-listed p k zero r le lt = absurd (omega (arith, le, lt))
range-listed p k (suc n) r le lt =
    ⊎_elim
    (λ less. later (p k) less (range-listed p (k + 1) n r (omega (arith, less)) (omega (arith, lt))))
    (λ more. here (p k) refl (omega (arith, more, le)))
    (cases_lt k r)
  where
    later : (b : Bool) → k < r → is_listed (filter p (range_with_len (k + 1) n)) r ≡ p r
        → is_listed (cond b (k ∷ filter p (range_with_len (k + 1) n)) (filter p (range_with_len (k + 1) n))) r ≡ p r
    later true less rest = listed-later k r (filter p (range_with_len (k + 1) n)) (λ e. omega (arith, e, less)) ∙ rest
    later false less rest = rest

    here : (b : Bool) → p k ≡ b → k ≡ r
        → is_listed (cond b (k ∷ filter p (range_with_len (k + 1) n)) (filter p (range_with_len (k + 1) n))) r ≡ p r
    here true is same =
        ap (λ b. b || is_listed (filter p (range_with_len (k + 1) n)) r) (eq-eqb k r same) ∙ sym is ∙ ap p same
    here false is same =
        listed-below (k + 1) (k + 1 + n) (filter p (range_with_len (k + 1) n)) r (range-places p (k + 1) n (k + 1 + n) (omega arith))
        (omega (arith, same))
        ∙ sym is ∙ ap p same

-- the places of those that are listed are those of the rows that pass
pub places-where : (p : ℕ → Bool) (first n : ℕ) (alive : List ℕ) → are_places 0 n alive ≡ true
    → places_of first (is_listed (docs_where p n)) alive ≡ places_of first p alive
places-where p first n alive are =
    places-agree (is_listed (docs_where p n)) p first 0 n alive are (λ r le lt. range-listed p 0 n r le (omega (arith, lt)))
