-- The bytes of the distinct texts of a column.
use Rattle.std.proofs.Common.{◌≡◌, ◌<◌, ℕ, zero, suc, ◌-◌, ◌^◌, List, [], ◌∷◌, length, map, Bool, true, false, refl, sym, ◌∙◌, ap, arith}
use Rattle.std.specs.Prelude.{nat_lt, nat_eq, ◌||◌, min, sum_by}
use Rattle.std.specs.List.{list_any}
use Rattle.std.specs.Ordering.{nat_cmp, eq_by_cmp}
use Rattle.std.specs.Cmp.Lexicographic.{slice_cmp}
use Rattle.std.specs.FinMap.{nat_cmp-IsAntisymmetric, slice_cmp-IsAntisymmetric}
use Rattle.std.proofs.lemmas.Bool.{and_parts, or_left, or_right}
use Rattle.std.proofs.lemmas.Cmp.{nat_list_cmp_total}
use Rattle.std.proofs.lemmas.List.Sorted.{sum_by-IsPermutation}
use Rattle.col_common.specs.Ascending.{are_below}
use Rattle.col_model.specs.Sorted.{distinct_items}
use Rattle.col_model.proofs.DistinctLaws.{same_distinct}
use Rattle.col_model.proofs.TestLaws.{both-ways}
use Rattle.col_terms.specs.Building.{ordered}
use Rattle.col_terms.proofs.OrderedLemmas.{permutation-ordered}
use Rattle.col_writer_columns.specs.Texts.{term_of, texts_by_id, ids_of, AreIds}

-- a term that passes stands somewhere
term-found : (p : List ℕ → Bool) (terms : List (List ℕ)) → list_any p terms ≡ true
    → (k : ℕ) × (k < length terms) × (p (term_of terms k) ≡ true)
term-found p [] e = cc
term-found p (t ∷ terms) e = by (p t) refl e (term-found p terms)
  where
    by : (b : Bool) → p t ≡ b → (b || list_any p terms) ≡ true
        → (list_any p terms ≡ true → (k : ℕ) × (k < length terms) × (p (term_of terms k) ≡ true))
        → (k : ℕ) × (k < length (t ∷ terms)) × (p (term_of (t ∷ terms) k) ≡ true)
    by true f e later = (0, omega arith, f)
    by false f e later = let r = later e in (suc r.0, omega (arith, r.1), r.2)

term-among : (p : List ℕ → Bool) (terms : List (List ℕ)) (k : ℕ) → k < length terms → p (term_of terms k) ≡ true → list_any p terms ≡ true
term-among p [] k h e = absurd (omega arith)
term-among p (t ∷ terms) zero h e = or_left (p t) (list_any p terms) e
term-among p (t ∷ terms) (suc k) h e = or_right (p t) (list_any p terms) (term-among p terms k (omega arith) e)

-- texts of ids are terms
texts-are-terms : (p : List ℕ → Bool) (terms : List (List ℕ)) (ids : List ℕ) → are_below (length terms) ids ≡ true
    → list_any p (map (term_of terms) ids) ≡ true → list_any p terms ≡ true
texts-are-terms p terms [] known e = cc
texts-are-terms p terms (id ∷ ids) known e =
    let parts = and_parts (nat_lt id (length terms)) (are_below (length terms) ids) known in
    by (p (term_of terms id)) refl (grind arith) e (texts-are-terms p terms ids parts.1)
  where
    by : (b : Bool) → p (term_of terms id) ≡ b → id < length terms
        → (b || list_any p (map (term_of terms) ids)) ≡ true
        → (list_any p (map (term_of terms) ids) ≡ true → list_any p terms ≡ true) → list_any p terms ≡ true
    by true f below e later = term-among p terms id below f
    by false f below e later = later e

-- and terms of ids are texts
id-found : (p : List ℕ → Bool) (terms : List (List ℕ)) (k : ℕ) (ids : List ℕ) → p (term_of terms k) ≡ true
    → list_any (nat_eq k) ids ≡ true → list_any p (map (term_of terms) ids) ≡ true
id-found p terms k [] f e = cc
id-found p terms k (id ∷ ids) f e = by (nat_eq k id) refl e (id-found p terms k ids f)
  where
    by : (b : Bool) → nat_eq k id ≡ b → (b || list_any (nat_eq k) ids) ≡ true
        → (list_any (nat_eq k) ids ≡ true → list_any p (map (term_of terms) ids) ≡ true)
        → (p (term_of terms id) || list_any p (map (term_of terms) ids)) ≡ true
    by true g e later = let same : k ≡ id = grind arith in or_left _ _ (ap (λ x. p (term_of terms x)) (sym same) ∙ f)
    by false g e later = or_right _ _ (later e)

texts-of-ids : (terms : List (List ℕ)) (ps : List (ℕ × ℕ)) → map (λ p. p.1) (texts_by_id terms ps) ≡ map (term_of terms) (ids_of ps)
unfolding texts_by_id
texts-of-ids terms [] = refl
texts-of-ids terms (p ∷ ps) = ap (λ r. term_of terms p.1 ∷ r) (texts-of-ids terms ps)

-- the distinct texts are the terms
pub same-terms : (terms : List (List ℕ)) (ps : List (ℕ × ℕ)) → AreIds terms ps
    → ordered terms ≡ distinct_items (slice_cmp nat_cmp) (map (λ p. p.1) (texts_by_id terms ps))
same-terms terms ps h =
    same_distinct (slice_cmp nat_cmp) nat_list_cmp_total (slice_cmp-IsAntisymmetric nat_cmp-IsAntisymmetric) terms
    (map (term_of terms) (ids_of ps))
    (λ q. both-ways _ _
    (λ e. let k = term-found (eq_by_cmp (slice_cmp nat_cmp) q) terms e in id-found (eq_by_cmp (slice_cmp nat_cmp) q)
    terms k.0 (ids_of ps) k.2 (h.used k.0 k.1))
    (texts-are-terms (eq_by_cmp (slice_cmp nat_cmp) q) terms (ids_of ps) h.known))
    ∙ ap (distinct_items (slice_cmp nat_cmp)) (sym (texts-of-ids terms ps))

-- the distinct texts have the bytes of the terms
pub term-bytes : (terms : List (List ℕ)) (ps : List (ℕ × ℕ)) (now : List (ℕ × List ℕ)) → AreIds terms ps
    → texts_by_id terms ps ≡ now
    → min (sum_by length terms) (2 ^ 64 - 1)
    ≡ min (sum_by length (distinct_items (slice_cmp nat_cmp) (map (λ p. p.1) now))) (2 ^ 64 - 1)
term-bytes terms ps now h is =
    ap (λ n. min n (2 ^ 64 - 1))
    (sym (sum_by-IsPermutation length terms (ordered terms) (permutation-ordered terms h.differ))
    ∙ ap (sum_by length)
    (same-terms terms ps h ∙ ap (λ r. distinct_items (slice_cmp nat_cmp) (map (λ p. p.1) r)) is))
