-- The places of terms that differ.
use Rattle.std.proofs.Common.{◌≡◌, ℕ, zero, suc, ◌+◌, ◌<◌, nat_lt, not, Bool, true, false, cond, ◌||◌, List, [], ◌∷◌, ◌++◌, length, get_or, slice_get, bytes_eq, Some, None, refl, sym, ap, ◌∙◌, arith}
use Rattle.std.specs.List.{IsDistinct, enumerate_from}
use Rattle.std.proofs.lemmas.Bool.{lt-ltb, le-ltb, ltb-true, ltb-false, false_from_ne_true, true≢false}
use Rattle.std.proofs.lemmas.Bool.Decides.{nat_tests}
use Rattle.std.proofs.lemmas.List.Sums.{position_or_len_is, passes_at_first, prefix_len-le-length}
use Rattle.std.proofs.lemmas.Option.{none-some, same_Some, slice_get-get_or}
use Rattle.std.proofs.lemmas.List.{length_push, get_or_push, get_or_append_left}
use Rattle.std.proofs.lemmas.List.FromFn.{get_or-enumerate_from}
use Rattle.std.proofs.lemmas.Map.Keys.{apart_from_distinct}
use Rattle.std.proofs.lemmas.Slice.Eq.{bytes_eq-Decides}
use Rattle.col_terms.specs.Building.{is_known, id_of, known_id, Allocates}
use Rattle.col_terms.specs.Streams.{OrdTerm, numbered}
use Rattle.col_model.proofs.OrderingLaws.{bytes_eq-true}

-- ---- equal bytes

-- byte lists that are the same pass the test of equality
pub same_bytes : (a b : List ℕ) → a ≡ b → bytes_eq a b ≡ true
same_bytes a b e = (bytes_eq-Decides a b).1 e

-- ---- where a term is

-- a term is known just where its place is below the count
pub known_below : (ts : List (List ℕ)) (t : List ℕ) → is_known ts t ≡ nat_lt (id_of ts t) (length ts)
known_below [] t = sym (le-ltb 0 0 (omega arith))
known_below (x ∷ ts) t = go (bytes_eq t x) refl (known_below ts t)
  where
    go : (b : Bool) → bytes_eq t x ≡ b → is_known ts t ≡ nat_lt (id_of ts t) (length ts)
        → is_known (x ∷ ts) t ≡ nat_lt (id_of (x ∷ ts) t) (suc (length ts))
    go true e rest = rw (e, lt-ltb 0 (suc (length ts)) (omega arith)) refl
    go false e rest =
        let shifted : nat_lt (id_of ts t) (length ts) ≡ nat_lt (1 + id_of ts t) (suc (length ts)) = grind (arith, nat_tests) in
        rw e (rest ∙ shifted)

-- the place of a term that is there is below the number of terms
pub place_below : (ts : List (List ℕ)) (t : List ℕ) → is_known ts t ≡ true → id_of ts t < length ts
place_below ts t e = ltb-true (id_of ts t) (length ts) (sym (known_below ts t) ∙ e)

-- the term at its place
pub term_at_place : (ts : List (List ℕ)) (t : List ℕ) → is_known ts t ≡ true → get_or ts (id_of ts t) [] ≡ t
term_at_place ts t e = sym (bytes_eq-true t (get_or ts (id_of ts t) []) (passes_at_first (bytes_eq t) ts [] (place_below ts t e)))

-- a term that isn't there would be behind all others
place_unknown : (ts : List (List ℕ)) (t : List ℕ) → is_known ts t ≡ false → id_of ts t ≡ length ts
place_unknown ts t e =
    let below = prefix_len-le-length (λ x. not (bytes_eq t x)) ts in
    let unknown : nat_lt (id_of ts t) (length ts) ≡ false = sym (known_below ts t) ∙ e in
    omega (arith, ltb-false (id_of ts t) (length ts) unknown)

-- each term of the list is known
pub known_at : (ts : List (List ℕ)) (i : ℕ) → i < length ts → is_known ts (get_or ts i []) ≡ true
known_at [] i h = absurd (omega arith)
known_at (x ∷ ts) zero h = rw (same_bytes x x refl) refl
known_at (x ∷ ts) (suc i) h = go (bytes_eq (get_or ts i []) x) (known_at ts i (omega arith))
  where
    go : (b : Bool) → is_known ts (get_or ts i []) ≡ true → (b || is_known ts (get_or ts i [])) ≡ true
    go true e = refl
    go false e = e

-- where terms differ, each has one place
pub place_at : (ts : List (List ℕ)) (i : ℕ) → IsDistinct bytes_eq ts → i < length ts → id_of ts (get_or ts i []) ≡ i
place_at ts i d h =
    let t = get_or ts i [] in
    position_or_len_is (bytes_eq t) ts i [] (omega arith)
    (λ k below. false_from_ne_true (bytes_eq t (get_or ts k [])) (λ e. true≢false (
    sym (same_bytes (get_or ts k []) t (sym (bytes_eq-true t (get_or ts k []) e)))
    ∙ apart_from_distinct bytes_eq ts k i [] d below h)))
    (λ k. same_bytes t t refl)

-- where terms differ, a term that stands at a place has this place
pub same_place : (ts : List (List ℕ)) (i : ℕ) (t : List ℕ) → IsDistinct bytes_eq ts → i < length ts → get_or ts i [] ≡ t → id_of ts t ≡ i
same_place ts i t d h e = ap (id_of ts) (sym e) ∙ place_at ts i d h

-- ---- numbered terms

enumerate-push : {X : Type 0} (a : ℕ) (xs : List X) (y : X)
    → enumerate_from a (xs ++ y ∷ []) ≡ enumerate_from a xs ++ (a + length xs, y) ∷ []
enumerate-push a [] y = ap (λ k. (k, y) ∷ []) (omega arith)
enumerate-push a (x ∷ xs) y =
    ap (λ ps. (a, x) ∷ ps)
    (enumerate-push (a + 1) xs y ∙ ap (λ k. enumerate_from (a + 1) xs ++ (k, y) ∷ []) (omega arith))

-- one term more has the number of those before it as its ordinal
pub numbered-push : (ts : List (List ℕ)) (t : List ℕ) → numbered (ts ++ t ∷ []) ≡ numbered ts ++ (length ts, t) ∷ []
numbered-push ts t = enumerate-push 0 ts t ∙ ap (λ k. numbered ts ++ (k, t) ∷ []) (omega arith)

-- the numbered term at a place is that place with the term there
pub numbered-get : (ts : List (List ℕ)) (i : ℕ) (d : OrdTerm) → i < length ts → get_or (numbered ts) i d ≡ (i, get_or ts i d.1)
numbered-get ts i d h = get_or-enumerate_from 0 ts i d h ∙ ap (λ k. (k, get_or ts i d.1)) (omega arith)

-- ---- a term that comes

-- a test that decides what is there
some_known : (ts : List (List ℕ)) (t : List ℕ) (id : ℕ) (b : Bool) → is_known ts t ≡ b
    → cond b (Some (id_of ts t)) None ≡ Some id → (is_known ts t ≡ true) × (id_of ts t ≡ id)
some_known ts t id true e f = (e, same_Some (id_of ts t) id f)
some_known ts t id false e f = absurd (none-some id f)

-- a term that is there is given its own id, and the terms stay
pub allocates-known : (ts : List (List ℕ)) (t : List ℕ) (id : ℕ) → known_id ts t ≡ Some id → Allocates ts t id ts
allocates-known ts t id e =
    let there = some_known ts t id (is_known ts t) refl e in
    record {
      id_is = sym there.1;
      terms = ap (λ b. cond b ts (ts ++ t ∷ [])) (sym there.0);
      held =
          ap (slice_get ts) (sym there.1) ∙ slice_get-get_or ts (id_of ts t) [] (place_below ts t there.0)
          ∙ ap Some (term_at_place ts t there.0);
      stays = λ k h. refl;
    }

-- a term that isn't there is put behind the others, and its place is its id
pub allocates-new : (ts : List (List ℕ)) (t : List ℕ) (id : ℕ) (new : List (List ℕ)) → is_known ts t ≡ false
    → id ≡ length ts → new ≡ ts ++ t ∷ [] → Allocates ts t id new
allocates-new ts t id new e f g =
    let longer = length_push ts t in
    let here : id < length (ts ++ t ∷ []) = omega arith in
    record {
      id_is = f ∙ sym (place_unknown ts t e);
      terms = g ∙ ap (λ b. cond b ts (ts ++ t ∷ [])) (sym e);
      held = ap (λ us. slice_get us id) g ∙ slice_get-get_or (ts ++ t ∷ []) id [] here ∙ ap Some (get_or_push ts t [] id (sym f));
      stays = λ k h.
          let within : k < length (ts ++ t ∷ []) = omega arith in
          ap (λ us. slice_get us k) g ∙ slice_get-get_or (ts ++ t ∷ []) k [] within
          ∙ ap Some (get_or_append_left ts (t ∷ []) [] k h) ∙ sym (slice_get-get_or ts k [] h);
    }
