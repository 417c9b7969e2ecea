-- Texts of a column, by the ids of their terms.
use Rattle.std.proofs.Common.{◌≡◌, ◌<◌, ◌≤◌, ◌⊎◌, ℕ, suc, ◌+◌, ◌-◌, ◌^◌, List, [], ◌∷◌, ◌++◌, length, Bool, true, false, cond, Result, Ok, Err, unwrap_or, refl, sym, ◌∙◌, ap, subst, arith, inl, inr, length-append}
use Rattle.std.specs.Prelude.{nat_lt, nat_le, nat_eq, ◌&&◌, ◌||◌, not, slice_get, bytes_eq, ⊤}
use Rattle.std.specs.List.{list_any, IsDistinct}
use Rattle.std.proofs.lemmas.Map.Keys.{IsDistinct-push}
use Rattle.std.proofs.lemmas.Cmp.{nat_list_eq_equiv}
use Rattle.std.proofs.lemmas.Bool.{and_parts, and_from}
use Rattle.std.proofs.lemmas.List.Folds.{list_all-append, list_any-append}
use Rattle.std.proofs.lemmas.Map.Steps.{le-length_from_below}
use Rattle.std.proofs.lemmas.Option.{slice_get_within}
use Rattle.std.proofs.lemmas.List.{length-map}
use Rattle.col_common.specs.Ascending.{are_below}
use Rattle.col_common.specs.declared.error.ColumnarError.{ColumnarError}
use Rattle.col_common.specs.declared.error.ColumnarError.TheVariants as answers
use Rattle.col_model.specs.Refusal.{◌>>=◌, refuse_if, doc_order, too_large}
use Rattle.col_terms.specs.Building.{is_known, id_of, with_term, Allocates, is_past_ids, IsRefusal}
use Rattle.col_writer_rows.specs.Documents.{is_late_doc, docs_of}
use Rattle.col_writer_columns.specs.Posted.{posted_after}
use Rattle.col_writer_columns.specs.Answers.{RecordsOrRefuses, Refuses}
use Rattle.col_writer_columns.specs.Texts.{term_of, texts_by_id, ids_of, AreIds}
use Rattle.col_writer_columns.proofs.TypeListLemmas.{map-push}

-- texts have the documents of their ids
pub same_docs : (terms : List (List ℕ)) (ps : List (ℕ × ℕ)) → docs_of (texts_by_id terms ps) ≡ docs_of ps
unfolding texts_by_id
same_docs terms [] = refl
same_docs terms (p ∷ ps) = ap (λ r. p.0 ∷ r) (same_docs terms ps)

-- there are as many texts as ids
pub same_length : (terms : List (List ℕ)) (ps : List (ℕ × ℕ)) → length (texts_by_id terms ps) ≡ length ps
unfolding texts_by_id
same_length terms ps = length-map ps _

-- what is refused of ids is refused of their texts, and what isn't, isn't
pub texts-posted : (terms : List (List ℕ)) (ps : List (ℕ × ℕ)) (d id : ℕ) (t : List ℕ)
    → posted_after (texts_by_id terms ps) d t
    ≡ (posted_after ps d id >>= λ _. Ok (texts_by_id terms ps ++ (d, t) ∷ []))
unfolding posted_after
texts-posted terms ps d id t =
    ap (λ ds. refuse_if (is_late_doc ds d) doc_order >>= λ _. refuse_if
    (nat_le (2 ^ 32 - 1) (length (texts_by_id terms ps))) too_large >>=
    λ _. Ok (texts_by_id terms ps ++ (d, t) ∷ [])) (same_docs terms ps)
    ∙ ap (λ n. refuse_if (is_late_doc (docs_of ps) d) doc_order >>=
    λ _. refuse_if (nat_le (2 ^ 32 - 1) n) too_large >>= λ _. Ok (texts_by_id terms ps ++ (d, t) ∷ []))
    (same_length terms ps)
    ∙ joined (is_late_doc (docs_of ps) d) (nat_le (2 ^ 32 - 1) (length ps))
  where
    joined : (b c : Bool) →
        (refuse_if b doc_order >>= λ _. refuse_if c too_large >>= λ _. Ok (texts_by_id terms ps ++ (d, t) ∷ []))
        ≡ ((refuse_if b doc_order >>= λ _. refuse_if c too_large >>= λ _. Ok (ps ++ (d, id) ∷ [])) >>=
        λ _. Ok (texts_by_id terms ps ++ (d, t) ∷ []))
    joined true c = refl
    joined false true = refl
    joined false false = refl

-- what is posted is few
pub posted-few : {X : Type 0} (ps qs : List (ℕ × X)) (d : ℕ) (x : X) → posted_after ps d x ≡ Ok qs → length ps < 2 ^ 32 - 1
unfolding posted_after
posted-few ps qs d x e = by (is_late_doc (docs_of ps) d) (nat_le (2 ^ 32 - 1) (length ps)) refl e
  where
    by : (b c : Bool) → nat_le (2 ^ 32 - 1) (length ps) ≡ c
        → (refuse_if b doc_order >>= λ _. refuse_if c too_large >>= λ _. Ok (ps ++ (d, x) ∷ [])) ≡ Ok qs
        → length ps < 2 ^ 32 - 1
    by true c f e = cc
    by false true f e = cc
    by false false f e = grind arith

-- there are no more terms than values
pub few_terms : (terms : List (List ℕ)) (ps : List (ℕ × ℕ)) → AreIds terms ps → length terms ≤ length ps
few_terms terms ps h =
    let many = le-length_from_below (ids_of ps) (length terms) h.used in omega
    (arith, many, length-map ps (λ (p : ℕ × ℕ). p.1))

-- so there is always an id for one more
pub not_past : (terms : List (List ℕ)) (t : List ℕ) → length terms < 2 ^ 32 - 1 → is_past_ids terms t ≡ false
not_past terms t few =
    let b : nat_le (2 ^ 32 - 1) (length terms) ≡ false = grind arith in ap (λ c. not (is_known terms t) && c) b ∙
    none (not (is_known terms t))
  where
    none : (a : Bool) → (a && false) ≡ false
    none true = refl
    none false = refl

-- terms keep their ids
kept_terms : (old new : List (List ℕ)) (ps : List (ℕ × ℕ))
    → ((k : ℕ) → k < length old → slice_get new k ≡ slice_get old k) → are_below (length old) (ids_of ps) ≡ true
    → texts_by_id new ps ≡ texts_by_id old ps
unfolding texts_by_id
kept_terms old new [] stays known = refl
kept_terms old new (p ∷ ps) stays known =
    let parts = and_parts (nat_lt p.1 (length old)) (are_below (length old) (ids_of ps)) known in
    let below : p.1 < length old = grind arith in
    λ i. (p.0, unwrap_or (stays p.1 below i) []) ∷ kept_terms old new ps stays parts.1 i

-- the texts with one more
pub texts-with : (old new : List (List ℕ)) (ps : List (ℕ × ℕ)) (d id : ℕ) (t : List ℕ) → AreIds old ps
    → Allocates old t id new → texts_by_id new (ps ++ (d, id) ∷ []) ≡ texts_by_id old ps ++ (d, t) ∷ []
unfolding texts_by_id
texts-with old new ps d id t h a =
    map-push (λ (p : ℕ × ℕ). (p.0, term_of new p.1)) ps (d, id)
    ∙ (λ i. kept_terms old new ps a.stays h.known i ++ (d, unwrap_or (a.held i) []) ∷ [])

grown : (old : List (List ℕ)) (t : List ℕ)
    → (length old ≤ length (with_term old t)) × (length (with_term old t) ≤ length old + 1)
    × (length old < length (with_term old t) → is_known old t ≡ false)
grown old t = by (is_known old t)
  where
    by : (b : Bool) → (length old ≤ length (cond b old (old ++ t ∷ [])))
        × (length (cond b old (old ++ t ∷ [])) ≤ length old + 1)
        × (length old < length (cond b old (old ++ t ∷ [])) → b ≡ false)
    by true = (omega arith, omega arith, λ h. absurd (omega arith))
    by false = (omega (arith, length-append old (t ∷ [])), omega (arith, length-append old (t ∷ [])), λ h. refl)

all-raised : (m n : ℕ) (ids : List ℕ) → m ≤ n → are_below m ids ≡ true → are_below n ids ≡ true
all-raised m n [] h e = refl
all-raised m n (id ∷ ids) h e =
    let parts = and_parts (nat_lt id m) (are_below m ids) e in
    and_from (nat_lt id n) (are_below n ids) (grind arith) (all-raised m n ids h parts.1)

-- the place of a term that isn't there
no_place : (t : List ℕ) (old : List (List ℕ)) → is_known old t ≡ false → id_of old t ≡ length old
no_place t [] e = refl
no_place t (x ∷ xs) e = by (bytes_eq t x) e (no_place t xs)
  where
    by : (b : Bool) → (b || is_known xs t) ≡ false → (is_known xs t ≡ false → id_of xs t ≡ length xs)
        → cond (not b) (1 + id_of xs t) 0 ≡ suc (length xs)
    by true e later = cc
    by false e later = let l = later e in omega arith

-- terms differ
still-differ : (old : List (List ℕ)) (t : List ℕ) → IsDistinct bytes_eq old → IsDistinct bytes_eq (with_term old t)
still-differ old t d = by (is_known old t) refl
  where
    by : (b : Bool) → is_known old t ≡ b → IsDistinct bytes_eq (cond b old (old ++ t ∷ []))
    by true e = d
    by false e = IsDistinct-push nat_list_eq_equiv old t d e

none-differ : ⊤ → IsDistinct bytes_eq []
unfolding IsDistinct
none-differ t = t

-- ids with one more, of the term that was given it, are ids of the terms
pub ids-with : (old new : List (List ℕ)) (ps : List (ℕ × ℕ)) (d id : ℕ) (t : List ℕ) → AreIds old ps
    → Allocates old t id new → AreIds new (ps ++ (d, id) ∷ [])
ids-with old new ps d id t h a =
    let g = grown old t in
    let many : length new ≡ length (with_term old t) = ap length a.terms in
    let more : length old ≤ length new = omega (arith, many, g.0) in
    let all_ids : ids_of (ps ++ (d, id) ∷ []) ≡ ids_of ps ++ id ∷ [] = map-push (λ (p : ℕ × ℕ). p.1) ps (d, id) in
    let below : id < length new = slice_get_within new id t a.held in
    let last : nat_lt id (length new) ≡ true = grind arith in
    record {
      differ = subst (IsDistinct bytes_eq) (sym a.terms) (still-differ old t h.differ);
      known = ap (are_below (length new)) all_ids ∙ list_all-append (λ k. nat_lt k (length new)) (ids_of ps) (id ∷ [])
          ∙ and_from _ _ (all-raised (length old) (length new) (ids_of ps) more h.known) (and_from _ _ last refl);
      used =
          λ k lt. ap (list_any (nat_eq k)) all_ids ∙ list_any-append (nat_eq k) (ids_of ps) (id ∷ [])
          ∙ by k lt (nat_lt k (length old)) refl;
    }
  where
    either : (a b : Bool) → (a ≡ true) ⊎ (b ≡ true) → (a || (b || false)) ≡ true
    either true b e = refl
    either false true e = refl
    either false false (inl e) = e
    either false false (inr e) = e

    by : (k : ℕ) → k < length new → (b : Bool) → nat_lt k (length old) ≡ b
        → (list_any (nat_eq k) (ids_of ps) || (nat_eq k id || false)) ≡ true
    by k lt true e = let low : k < length old = grind arith in either _ _ (inl (h.used k low))
    by k lt false e =
        let g = grown old t in
        let many : length new ≡ length (with_term old t) = ap length a.terms in
        let high : length old ≤ k = grind arith in
        let fresh : is_known old t ≡ false = g.2 (omega (arith, many)) in
        let place : id ≡ length old = a.id_is ∙ no_place t old fresh in
        let here : k ≡ id = omega (arith, g.1, many, place) in
        either (list_any (nat_eq k) (ids_of ps)) (nat_eq k id) (inr (grind arith))

-- ---- the answers of a text

-- a refusal of the ids
pub text-refused : (terms : List (List ℕ)) (ps qs : List (ℕ × ℕ)) (now : List (ℕ × List ℕ)) (d : ℕ) (t : List ℕ)
    (r : Result (Unit {0}) ColumnarError) (x y : ColumnarError) → texts_by_id terms ps ≡ now → r ≡ Err x → x ≡ y
    → RecordsOrRefuses ps qs (Err y) (posted_after ps d 0) → RecordsOrRefuses now (texts_by_id terms qs) r (posted_after now d t)
text-refused terms ps qs now d t r x y is err same h =
    let P : Result (Unit {0}) ColumnarError → Type 0 = λ o. RecordsOrRefuses now (texts_by_id terms qs) o (posted_after now d t) in
    subst P (sym (err ∙ ap Err same)) (record { ok = tt; refused = moved h.refused; kept = ap (texts_by_id terms) h.kept ∙ is })
  where
    moved : (y ≡ answers.OutOfMemory) ⊎ Refuses (posted_after ps d 0) y → (y ≡ answers.OutOfMemory) ⊎ Refuses (posted_after now d t) y
    moved (inl m) = inl m
    moved (inr (e, at, as_answer)) =
        inr (
          e,
          ap (λ v. posted_after v d t) (sym is) ∙ texts-posted terms ps d 0 t
              ∙ ap (λ o. o >>= λ _. Ok (texts_by_id terms ps ++ (d, t) ∷ [])) at,
          as_answer,
        )

-- no memory for the term, and the place is let go
pub text-undone : (now left : List (ℕ × List ℕ)) (d : ℕ) (t : List ℕ) (x : ColumnarError) → x ≡ answers.OutOfMemory
    → left ≡ now → RecordsOrRefuses now left (Err x) (posted_after now d t)
text-undone now left d t x e f = record { ok = tt; refused = inl e; kept = f }

-- a text whose id was given is recorded at its document
pub text-recorded :
    (old new : List (List ℕ)) (ps qs rs : List (ℕ × ℕ)) (now : List (ℕ × List ℕ)) (d id : ℕ) (t : List ℕ)
    → texts_by_id old ps ≡ now → AreIds old ps → posted_after ps d 0 ≡ Ok qs → Allocates old t id new
    → rs ≡ ps ++ (d, id) ∷ [] → RecordsOrRefuses now (texts_by_id new rs) (Ok tt) (posted_after now d t)
text-recorded old new ps qs rs now d id t is h posted a more =
    let made : texts_by_id new rs ≡ now ++ (d, t) ∷ [] =
    ap (texts_by_id new) more ∙ texts-with old new ps d id t h a ∙ ap (λ r. r ++ (d, t) ∷ []) is in
    record {
      ok =
          ap (λ v. posted_after v d t) (sym is) ∙ texts-posted old ps d 0 t
          ∙ ap (λ o. o >>= λ _. Ok (texts_by_id old ps ++ (d, t) ∷ [])) posted ∙ ap (λ r. Ok (r ++ (d, t) ∷ [])) is
          ∙ ap Ok (sym made);
      refused = tt;
      kept = tt;
    }

-- a term gets its id, or there is no memory
pub only_memory : (old : List (List ℕ)) (ps : List (ℕ × ℕ)) (t : List ℕ) (x : ColumnarError) → AreIds old ps
    → length ps < 2 ^ 32 - 1 → IsRefusal x → (x ≡ answers.TooLarge → is_past_ids old t ≡ true)
    → x ≡ answers.OutOfMemory
only_memory old ps t x h few (inl m) past = m
only_memory old ps t x h few (inr e) past =
    let terms = few_terms old ps h in
    let no : false ≡ true = sym (not_past old t (omega arith)) ∙ past e in cc

-- without terms and ids there are no texts, and all terms have their ids
pub no_texts-again : (terms : List (List ℕ)) (ps : List (ℕ × ℕ)) → terms ≡ [] → ps ≡ [] → (texts_by_id terms ps ≡ []) × AreIds terms ps
unfolding texts_by_id
no_texts-again terms ps e f =
    let none : ids_of ps ≡ [] = ap ids_of f in (
      ap (λ r. texts_by_id terms r) f,
      record {
        differ = subst (IsDistinct bytes_eq) (sym e) (none-differ tt);
        known = ap (are_below (length terms)) none;
        used = λ id h. absurd (omega (arith, ap length e));
      },
    )
