-- Terms of columns that are noted one by one.
use Rattle.std.proofs.Common.{◌≡◌, ◌⊎◌, ℕ, zero, suc, ◌<◌, Bool, true, false, cond, List, [], ◌∷◌, ◌++◌, map, length, replicate, is_some, Option, Some, None, slice_get, refl, sym, ap, ◌∙◌, subst, inl, inr, arith}
use Rattle.std.proofs.lemmas.Bool.{true≢false}
use Rattle.std.proofs.lemmas.Option.{slice_get_within}
use Rattle.col_text.specs.Texts.{Texts}
use Rattle.col_terms.specs.Building.{is_known, with_term, Allocates}
use Rattle.col_merge_texts.specs.Items.{terms_of, item_at}
use Rattle.col_merge_texts.proofs.AmongLemmas.{some-same}
use Rattle.col_merge_texts.specs.Noting.{Noted, no_ids_of, nothing_noted, HasIdIf, Sets, Notes, IsNoted}
use Rattle.col_merge_texts.specs.Taking.{Place, IsPlace, StandsAt, AreNoted}

-- ---- one term

-- the last of a list
last-is : (ts : List (List ℕ)) (t : List ℕ) → slice_get (ts ++ t ∷ []) (length ts) ≡ Some t
last-is [] t = refl
last-is (u ∷ ts) t = last-is ts t

-- a term more is the one that came
came-is : (b : Bool) (ts new : List (List ℕ)) (t : List ℕ) → is_known ts t ≡ b → new ≡ with_term ts t → (id : ℕ)
    → id < length new → (id < length ts) ⊎ (slice_get new id ≡ Some t)
came-is true ts new t known e id h =
    let same : new ≡ ts = e ∙ whole in
    inl (subst (λ (us : List (List ℕ)). id < length us) same h)
  where
    whole : with_term ts t ≡ ts
    whole = ap (λ b. cond b ts (ts ++ t ∷ [])) known
came-is false ts new t known e id h = by (subst (λ (us : List (List ℕ)). id < length us) more h)
  where
    more : new ≡ ts ++ t ∷ []
    more = e ∙ whole
      where
        whole : with_term ts t ≡ ts ++ t ∷ []
        whole = ap (λ b. cond b ts (ts ++ t ∷ [])) known

    by : id < length (ts ++ t ∷ []) → (id < length ts) ⊎ (slice_get new id ≡ Some t)
    by low = elim (below-or-last ts t id low) [
      | inl under ↦ inl under
      | inr at ↦ inr (ap (λ (us : List (List ℕ)). slice_get us id) more ∙ ap (slice_get (ts ++ t ∷ [])) at ∙ last-is ts t)
    ]
      where
        below-or-last : (us : List (List ℕ)) (u : List ℕ) (k : ℕ) → k < length (us ++ u ∷ []) → (k < length us) ⊎ (k ≡ length us)
        below-or-last [] u zero l = inr refl
        below-or-last [] u (suc k) l = absurd (omega (arith, l))
        below-or-last (v ∷ us) u zero l = inl (omega arith)
        below-or-last (v ∷ us) u (suc k) l =
            elim (below-or-last us u k (omega (arith, l)))
            [ inl under ↦ inl (omega (arith, under)) | inr at ↦ inr (ap suc at) ]

-- no id is none
none-apart : (id : ℕ) → Some None ≡ Some (Some id) → ⊥
none-apart id e = cc

-- a place that gets an id
pub notes-new : (n m : Noted) (p : ℕ × ℕ) (t : List ℕ) (id : ℕ) → item_at n.ids p ≡ Some None
    → Allocates n.terms t id m.terms → Sets p (Some id) n.ids m.ids → Notes p t n m
notes-new n m p t id free a s = record {
  lengths = s.lengths;
  told = record { id = id; there = s.told; is = a.held };
  others = s.others;
  keeps = λ q k e. elim (s.others q) [
    | inl same ↦ absurd (none-apart k (sym free ∙ ap (item_at n.ids) (sym same) ∙ e))
    | inr kept ↦ kept ∙ e
  ];
  stay = a.stays;
  came = came-is (is_known n.terms t) n.terms m.terms t refl a.terms;
}

-- ---- all terms

-- an option that isn't none has a value
pub some-item : {X : Type 0} (o : Option X) → is_some o ≡ true → (x : X) × (o ≡ Some x)
some-item None e = absurd (true≢false (sym e))
some-item (Some x) e = (x, refl)

abbrev no-ids : ℕ → List (Option ℕ)
no-ids k = replicate k None

module _ (columns : List Texts) (Whole : Place → Type 0) where
  -- an id that is there is one of the terms
  pub id-below : (Left : Place → Type 0) (n : Noted) → AreNoted columns Whole Left n → (q : Place) (id : ℕ)
      → item_at n.ids q ≡ Some (Some id) → id < length n.terms
  id-below Left n h q id e =
      let there : is_some (item_at (terms_of columns) q) ≡ true =
      sym (some-same (terms_of columns) n.ids h.lengths q.0 q.1) ∙ ap is_some e in
      let item = some-item (item_at (terms_of columns) q) there in
      slice_get_within n.terms id item.0 (h.ids q id e ∙ item.1)

  -- the term of a place that is noted leaves the other places to be noted
  pub noted-more : (Left Next : Place → Type 0) (n m : Noted) (p : Place) (t : List ℕ)
      → AreNoted columns Whole Left n → Whole p → item_at (terms_of columns) p ≡ Some t → Notes p t n m
      → ((q : Place) → Whole q → Left q → (q ≡ p) ⊎ Next q) → AreNoted columns Whole Next m
  noted-more Left Next n m p t h here is notes next = record {
    lengths = notes.lengths ∙ h.lengths;
    ids = ids;
    whole = h.whole;
    told = told;
    from = from;
  }
    where
      at-p : (q : Place) → q ≡ p → IsNoted m q
      at-p q e = (notes.told.id, ap (item_at m.ids) e ∙ notes.told.there)

      ids : (q : Place) (id : ℕ) → item_at m.ids q ≡ Some (Some id) → slice_get m.terms id ≡ item_at (terms_of columns) q
      ids q id e = elim (notes.others q) [ inl same ↦ own same | inr kept ↦ old (sym kept ∙ e) ]
        where
          own : q ≡ p → slice_get m.terms id ≡ item_at (terms_of columns) q
          own same =
              let told : Some (Some id) ≡ Some (Some notes.told.id) = sym e ∙ ap (item_at m.ids) same ∙ notes.told.there in
              let one : id ≡ notes.told.id = cc in
              ap (slice_get m.terms) one ∙ notes.told.is ∙ sym is ∙ ap (item_at (terms_of columns)) (sym same)

          old : item_at n.ids q ≡ Some (Some id) → slice_get m.terms id ≡ item_at (terms_of columns) q
          old f = notes.stay id (id-below Left n h q id f) ∙ h.ids q id f

      told : (q : Place) → Whole q → Next q ⊎ IsNoted m q
      told q w = elim (h.told q w) [
        | inl left ↦ elim (next q w left) [ inl e ↦ inr (at-p q e) | inr later ↦ inl later ]
        | inr there ↦ elim (notes.others q) [ inl e ↦ inr (at-p q e) | inr kept ↦ inr (there.0, kept ∙ there.1) ]
      ]

      from : (id : ℕ) → id < length m.terms → StandsAt columns Whole m id
      from id low = elim (notes.came id low) [
        | inl old ↦ stood id old
        | inr e ↦ record { place = p; whole = here; is = e ∙ sym is }
      ]
        where
          stood : (k : ℕ) → k < length n.terms → StandsAt columns Whole m k
          stood k old = let was = h.from k old in record { place = was.place; whole = was.whole; is = notes.stay k old ∙ was.is }

  -- what is left is among other places
  pub noted-less : (Left Next : Place → Type 0) (n : Noted) → AreNoted columns Whole Left n
      → ((q : Place) → Whole q → Left q → Next q) → AreNoted columns Whole Next n
  noted-less Left Next n h next = record {
    lengths = h.lengths;
    ids = h.ids;
    whole = h.whole;
    told = λ q w. elim (h.told q w) [ inl left ↦ inl (next q w left) | inr there ↦ inr there ];
    from = h.from;
  }

  -- a place has its id, or none
  pub noted-held : (Left : Place → Type 0) (n : Noted) (p : Place) (t : List ℕ) → AreNoted columns Whole Left n
      → item_at (terms_of columns) p ≡ Some t → HasIdIf n p t
  noted-held Left n p t h is id e = h.ids p id e ∙ is

  -- a place where a term stands has its place among the ids
  pub noted-within : (Left : Place → Type 0) (n : Noted) (p : Place) (t : List ℕ) → AreNoted columns Whole Left n
      → item_at (terms_of columns) p ≡ Some t → is_some (item_at n.ids p) ≡ true
  noted-within Left n p t h is = some-same (terms_of columns) n.ids h.lengths p.0 p.1 ∙ ap is_some is

  -- ---- none yet

  -- before the first place nothing is noted, and all places are left
  pub noted-start : ((p : Place) → Whole p → IsPlace columns p) → AreNoted columns Whole Whole (nothing_noted (terms_of columns))
  noted-start whole = record {
    lengths = lengths (terms_of columns);
    ids = λ p id e. absurd (no-id (terms_of columns) p.0 p.1 id e);
    whole = whole;
    told = λ p w. inl w;
    from = λ id h. absurd (omega (arith, h));
  }
    where
      replicated : (k : ℕ) → length (no-ids k) ≡ k
      replicated zero = refl
      replicated (suc k) = ap suc (replicated k)

      lengths : (tss : List (List (List ℕ))) → map length (no_ids_of tss) ≡ map length tss
      lengths [] = refl
      lengths (ts ∷ tss) = λ i. replicated (length ts) i ∷ lengths tss i

      no-item : (k j id : ℕ) → slice_get (no-ids k) j ≡ Some (Some id) → ⊥
      no-item zero j id e = cc
      no-item (suc k) zero id e = cc
      no-item (suc k) (suc j) id e = no-item k j id e

      no-id : (tss : List (List (List ℕ))) (i j id : ℕ) → item_at (no_ids_of tss) (i, j) ≡ Some (Some id) → ⊥
      no-id [] i j id e = cc
      no-id (ts ∷ tss) zero j id e = no-item (length ts) j id e
      no-id (ts ∷ tss) (suc i) j id e = no-id tss i j id e
