-- Terms that are read in place, put in order with their ids.
use Rattle.std.proofs.Common.{◌≡◌, ℕ, ◌+◌, ◌<◌, ◌≢◌, true, false, List, [], ◌∷◌, length, map, get_or, set, bytes_eq, refl, sym, ap, ◌∙◌, subst, inl, inr, arith}
use Rattle.std.specs.declared.cmp.Ordering.{Ordering}
use Rattle.std.specs.declared.cmp.Ordering.TheVariants.{Less, Equal, Greater}
use Rattle.std.specs.Ordering.{nat_cmp, is_lt, ordering_then, ordering_reverse}
use Rattle.std.specs.Cmp.Lexicographic.{slice_cmp}
use Rattle.std.specs.List.{All, IsDistinct}
use Rattle.std.specs.List.Sorted.{IsPermutation, IsSorted}
use Rattle.std.proofs.lemmas.Bool.{true≢false, cases_eq}
use Rattle.std.proofs.lemmas.Cmp.{nat_list_cmp_total}
use Rattle.std.proofs.lemmas.List.{get_or-map, length-map, get_or-set_same, get_or-set_other, same_lists, get_or_default}
use Rattle.std.proofs.lemmas.List.FromFn.{length-enumerate_from}
use Rattle.std.proofs.lemmas.List.Elements.{All-head, All-tail}
use Rattle.std.proofs.lemmas.List.Sorted.{All-permutation, IsPermutation-sym, IsPermutation-trans, IsPermutation-map, length_permutation, list_any-IsPermutation}
use Rattle.std.proofs.lemmas.Map.Keys.{IsDistinct-IsPermutation, apart_from_distinct, sorted_from_all_adjacent}
use Rattle.std.proofs.lemmas.Map.Lookups.{exact_bytes}
use Rattle.std.specs.List.{enumerate_from}
use Rattle.col_common.proofs.OctetLemmas.{bytes_eq-swap}
use Rattle.col_terms.specs.Building.{is_known, id_of, ordered, ordinals, TermRef, ord_term, texts, HasHead, AreNumbered, AreOrdered}
use Rattle.col_terms.specs.TermTable.{head_of}
use Rattle.col_terms.specs.Streams.{OrdTerm, numbered}
use Rattle.std.proofs.Math.Seq.{take-length}
use Rattle.col_terms.proofs.HeadLemmas.{heads_agree}
use Rattle.col_terms.proofs.OrderedLemmas.{AreInOrder, in_order-ordered, permutation-ordered, same_in_order}
use Rattle.col_terms.proofs.PlaceLemmas.{same_bytes, known_at, place_at, place_below, term_at_place, numbered-get}

-- a term of no bytes, for places past the end
abbrev pub nothing : TermRef
nothing = (0, record { ref_ptr = (0, 0); now = [] }, 0)

terms_of_refs : (vs : List TermRef) → map (λ (q : OrdTerm). q.1) (map ord_term vs) ≡ texts vs
terms_of_refs [] = refl
terms_of_refs (v ∷ vs) = ap (λ ts. v.1.now ∷ ts) (terms_of_refs vs)

terms_of_numbered : (a : ℕ) (ts : List (List ℕ)) → map (λ (q : OrdTerm). q.1) (enumerate_from a ts) ≡ ts
terms_of_numbered a [] = refl
terms_of_numbered a (t ∷ ts) = ap (λ us. t ∷ us) (terms_of_numbered (a + 1) ts)

-- the order of terms behind their first bytes, with their ids
abbrev pub by_term : TermRef → TermRef → Ordering
by_term x y = ordering_then (ordering_then (nat_cmp x.0 y.0) (slice_cmp nat_cmp x.1.now y.1.now)) (nat_cmp x.2 y.2)

-- the first bytes decide nothing that the terms don't
by_texts : (x y : TermRef) → HasHead x → HasHead y → by_term x y ≡ ordering_then (slice_cmp nat_cmp x.1.now y.1.now) (nat_cmp x.2 y.2)
by_texts x y h k =
    let texts_cmp = slice_cmp nat_cmp x.1.now y.1.now in
    ap (λ o. ordering_then o (nat_cmp x.2 y.2))
    (ap (λ n. ordering_then (nat_cmp n y.0) texts_cmp) h.head
    ∙ ap (λ n. ordering_then (nat_cmp (head_of x.1.now) n) texts_cmp) k.head
    ∙ heads_agree 8 x.1.now y.1.now h.bytes k.bytes)

module _ (ts : List (List ℕ)) (differ : IsDistinct bytes_eq ts) (us vs : List TermRef)
    (all : AreNumbered ts (length ts) us) (moved : IsPermutation us vs) (up : IsSorted by_term vs) where
  counted : IsPermutation (map ord_term vs) (numbered ts)
  counted =
      IsPermutation-sym (numbered ts) (map ord_term vs) (subst (λ qs. IsPermutation qs (map ord_term vs))
      (all.terms ∙ ap numbered (take-length ts)) (IsPermutation-map ord_term us vs moved))

  same_terms : IsPermutation (texts vs) ts
  same_terms =
      let term : OrdTerm → List ℕ = λ q. q.1 in
      subst (λ us. IsPermutation us ts) (terms_of_refs vs)
      (subst (λ us. IsPermutation (map term (map ord_term vs)) us) (terms_of_numbered 0 ts)
      (IsPermutation-map term (map ord_term vs) (numbered ts) counted))

  have_heads : All HasHead vs
  have_heads = All-permutation HasHead us vs moved all.heads

  terms_differ : IsDistinct bytes_eq (texts vs)
  terms_differ = IsDistinct-IsPermutation bytes_eq bytes_eq-swap ts (texts vs) (IsPermutation-sym (texts vs) ts same_terms) differ

  text_at : (k : ℕ) → k < length vs → get_or (texts vs) k [] ≡ (get_or vs k nothing).1.now
  text_at k h = get_or-map (λ (p : TermRef). p.1.now) vs k nothing [] h

  neighbours : (k : ℕ) → k + 1 < length (texts vs) → slice_cmp nat_cmp (get_or (texts vs) k []) (get_or (texts vs) (k + 1) []) ≡ Less
  neighbours k h = go (slice_cmp nat_cmp a b) refl
    where
      a : List ℕ
      a = get_or (texts vs) k []

      b : List ℕ
      b = get_or (texts vs) (k + 1) []

      within : k + 1 < length vs
      within = let long = length-map vs (λ (p : TermRef). p.1.now) in omega arith

      not_less : is_lt (ordering_then (slice_cmp nat_cmp b a) (nat_cmp (get_or vs (k + 1) nothing).2 (get_or vs k nothing).2)) ≡ false
      not_less =
          let h2 = within in
          let least : is_lt (by_term (get_or vs (k + 1) nothing) (get_or vs k nothing)) ≡ false = up k nothing (omega arith) within in
          let heads = by_texts (get_or vs (k + 1) nothing) (get_or vs k nothing) (have_heads (k + 1) nothing within)
          (have_heads k nothing (omega arith)) in
          rw (text_at k (omega arith), text_at (k + 1) within) (ap is_lt (sym heads) ∙ least)

      go : (o : Ordering) → slice_cmp nat_cmp a b ≡ o → slice_cmp nat_cmp a b ≡ Less
      go Less e = e
      go Equal e =
          absurd (true≢false (sym (same_bytes a b (exact_bytes a b e))
          ∙ apart_from_distinct bytes_eq (texts vs) k (k + 1) [] terms_differ (omega arith) h))
      go Greater e =
          let back : slice_cmp nat_cmp b a ≡ Less = nat_list_cmp_total.antisymm b a ∙ ap ordering_reverse e in
          absurd (true≢false (sym (ap
          (λ o. is_lt (ordering_then o (nat_cmp (get_or vs (k + 1) nothing).2 (get_or vs k nothing).2))) back)
          ∙ not_less))

  in_order : AreInOrder (texts vs)
  in_order = sorted_from_all_adjacent nat_list_cmp_total (texts vs) [] neighbours

  -- each id is the place of its term
  abbrev IsPlaced : OrdTerm → Type 0
  IsPlaced q = q.0 ≡ id_of ts q.1

  numbered_placed : All IsPlaced (numbered ts)
  numbered_placed k d h =
      let within : k < length ts = let long = length-enumerate_from 0 ts in omega arith in
      let place : id_of ts (get_or ts k d.1) ≡ k = ap (id_of ts) (get_or_default ts k d.1 [] within) ∙ place_at ts k differ within in
      subst IsPlaced (sym (numbered-get ts k d within)) (sym place)

  ids_are : (ws : List TermRef) → All IsPlaced (map ord_term ws) → map (λ (p : TermRef). p.2) ws ≡ map (id_of ts) (texts ws)
  ids_are [] a = refl
  ids_are (w ∷ ws) a =
      ap (λ i. i ∷ map (λ (p : TermRef). p.2) ws) (All-head IsPlaced (ord_term w) (map ord_term ws) a)
      ∙ ap (λ is. id_of ts w.1.now ∷ is) (ids_are ws (All-tail IsPlaced (ord_term w) (map ord_term ws) a))

  -- terms sorted with their ids are the terms in order, each with its id
  pub are_ordered : AreOrdered ts vs
  are_ordered =
      let put : texts vs ≡ ordered ts = same_in_order (texts vs) (ordered ts) in_order (in_order-ordered ts)
      (IsPermutation-trans (texts vs) ts (ordered ts) same_terms (permutation-ordered ts differ)) in
      record {
        differ = differ;
        terms = put;
        ids =
            ids_are vs (All-permutation IsPlaced (numbered ts) (map ord_term vs)
            (IsPermutation-sym (map ord_term vs) (numbered ts) counted) numbered_placed) ∙ ap (map (id_of ts)) put;
      }

-- ---- from ids to places

module _ (ts : List (List ℕ)) (vs : List TermRef) (a : AreOrdered ts vs) where
  -- the id at a place
  abbrev pub id_at : ℕ → ℕ
  id_at k = get_or (map (λ (p : TermRef). p.2) vs) k 0

  order : IsPermutation ts (ordered ts)
  order = permutation-ordered ts a.differ

  ordered_differ : IsDistinct bytes_eq (ordered ts)
  ordered_differ = IsDistinct-IsPermutation bytes_eq bytes_eq-swap ts (ordered ts) order a.differ

  long : length (ordered ts) ≡ length vs
  long = ap length (sym a.terms) ∙ length-map vs (λ (p : TermRef). p.1.now)

  -- there are as many terms in order as there are terms
  pub count-ordered : length vs ≡ length ts
  count-ordered = sym long ∙ length_permutation ts (ordered ts) order

  -- the id that is read at a place is the one there
  pub id-read : (k : ℕ) → k < length vs → (get_or vs k nothing).2 ≡ id_at k
  id-read k h = sym (get_or-map (λ (p : TermRef). p.2) vs k nothing 0 h)

  module _ (k : ℕ) (h : k < length vs) where
    in_order_too : k < length (ordered ts)
    in_order_too = let l = long in omega arith

    known : is_known ts (get_or (ordered ts) k []) ≡ true
    known = list_any-IsPermutation (bytes_eq (get_or (ordered ts) k [])) ts (ordered ts) order ∙ known_at (ordered ts) k in_order_too

    id-is : id_at k ≡ id_of ts (get_or (ordered ts) k [])
    id-is = ap (λ is. get_or is k 0) a.ids ∙ get_or-map (id_of ts) (ordered ts) k [] 0 in_order_too

    -- each id is below the number of terms
    pub id-below : id_at k < length ts
    id-below = let below = place_below ts (get_or (ordered ts) k []) known in omega (arith, id-is)

    term-of-id : get_or ts (id_at k) [] ≡ get_or (ordered ts) k []
    term-of-id = ap (λ i. get_or ts i []) id-is ∙ term_at_place ts (get_or (ordered ts) k []) known

    place-of-id : id_of (ordered ts) (get_or ts (id_at k) []) ≡ k
    place-of-id = ap (id_of (ordered ts)) term-of-id ∙ place_at (ordered ts) k ordered_differ in_order_too

  -- one place more
  pub placed-more : (ords : List ℕ) (ord id : ℕ) → ord < length vs → length ords ≡ length vs → id ≡ id_at ord
      → ((k : ℕ) → k < ord → get_or ords (id_at k) 0 ≡ k) → (k : ℕ) → k < ord + 1
      → get_or (set ords id ord) (id_at k) 0 ≡ k
  placed-more ords ord id h l at so_far k m =
      elim (cases_eq k ord) [
        | inl same ↦
            let here : id ≡ id_at k = at ∙ ap id_at (sym same) in
            let within : id < length ords = let below = id-below ord h in let c = count-ordered in omega arith in
            ap (λ i. get_or (set ords id ord) i 0) (sym here) ∙ get_or-set_same ords id ord 0 within ∙ sym same
        | inr apart ↦
            let other : id_at k ≢ id = λ e. apart (sym (place-of-id k (omega arith))
            ∙ ap (λ i. id_of (ordered ts) (get_or ts i [])) (e ∙ at) ∙ place-of-id ord h) in
            get_or-set_other ords id (id_at k) ord 0 other ∙ so_far k (omega arith)
      ]

  -- all places are there
  pub ordinals-are : (ords : List ℕ) → length ords ≡ length vs
      → ((k : ℕ) → k < length vs → get_or ords (id_at k) 0 ≡ k) → ords ≡ ordinals ts
  ordinals-are ords l placed = same_lists ords (ordinals ts) (l ∙ count-ordered ∙ sym (length-map ts (id_of (ordered ts)))) at
    where
      at : (i d : ℕ) → i < length ords → get_or ords i d ≡ get_or (ordinals ts) i d
      at i d h =
          let within : i < length ts = let c = count-ordered in omega arith in
          let t = get_or ts i [] in
          let there : is_known (ordered ts) t ≡ true =
          sym (list_any-IsPermutation (bytes_eq t) ts (ordered ts) order) ∙ known_at ts i within in
          let k = id_of (ordered ts) t in
          let below : k < length vs = let p = place_below (ordered ts) t there in let m = long in omega arith in
          let here : id_at k ≡ i = id-is k below ∙ ap (id_of ts) (term_at_place (ordered ts) t there) ∙ place_at ts i a.differ within in
          get_or_default ords i d 0 h ∙ ap (λ j. get_or ords j 0) (sym here) ∙ placed k below
          ∙ sym (get_or-map (id_of (ordered ts)) ts i [] d within)
