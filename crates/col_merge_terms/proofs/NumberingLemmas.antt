-- Numbers for the terms of columns, key by key.
use Rattle.std.proofs.Common.{◌≡◌, ◌⊎◌, ℕ, suc, ◌+◌, ◌<◌, ◌≤◌, ◌^◌, Bool, true, false, not, List, [], ◌∷◌, ◌++◌, map, filter, drop, length, bytes_eq, sum_by, is_some, Option, Some, None, get_or, append_assoc, append-nil, refl, sym, ap, ◌∙◌, subst, inl, inr, arith}
use Rattle.std.specs.Prelude.{option_map}
use Rattle.std.specs.List.{AllByRecursion}
use Rattle.std.specs.Ordering.{is_gt}
use Rattle.std.proofs.lemmas.Bool.{true≢false, ne_eqb}
use Rattle.std.proofs.lemmas.List.{length-drop, length-map, drop_more, drop_all}
use Rattle.std.proofs.lemmas.List.Sums.{sum_by-cons}
use Rattle.std.proofs.lemmas.List.Concat.{flat_map-append}
use Rattle.col_model.specs.U64List.{joined_lists}
use Rattle.col_model.proofs.OrderingLaws.{bytes_eq-true, bytes_eq-same}
use Rattle.col_model.proofs.StatsLaws.{all_by, mapped_all}
use Rattle.col_terms.specs.Building.{id_of}
use Rattle.col_terms.specs.Streams.{TermStream, numbered, stream_of}
use Rattle.col_model.proofs.ListLaws.{all-filter, filter-few}
use Rattle.col_merge_terms.specs.declared.terms_with_segment_ord.TermsWithSegmentOrd.{TermsWithSegmentOrd}
use Rattle.col_text.specs.Texts.{Texts}
use Rattle.col_merge_terms.specs.Merging.{SegmentTerm, term_cmp, has_key, in_segment, in_order, terms_left, Merging, merged_step, is_on_key, places_of}
use Rattle.col_merge_texts.specs.Items.{terms_of, item_at, IsAmong}
use Rattle.col_merge_terms.specs.Numbering.{term_count, terms_from, terms_in_order, kept_terms, keys_of, Numbers, AreNumbered, merged_places, places_among}
use Rattle.col_model.proofs.SortLaws.{moved-sorted}
use Rattle.col_model.proofs.PermutationLaws.{all-moved}
use Rattle.col_merge_texts.proofs.AmongLemmas.{in-all, in-map, some-same}
use Rattle.col_merge_terms.proofs.ItemLemmas.{in-filter, in-moved, item-map, same-lists}
use Rattle.col_merge_terms.proofs.PlaceLemmas.{genuine-all, in-all-terms, keys-ordered, never_fall-ordered, never_fall-filtered, keys-step, is_other, others-first, rising-terms, rising-filtered, place-dropped, drop-next, length-joined, length-distinct}

-- ---- walks over the terms of columns

pub streams-more : (ss : List TermsWithSegmentOrd) (n : ℕ) (ts : List (List ℕ)) (tss : List (List (List ℕ)))
    → terms_left (ss ++ record { terms = stream_of (numbered ts); segment_ord = n } ∷ []) ++ terms_from (n + 1) tss
    ≡ terms_left ss ++ terms_from n (ts ∷ tss)
unfolding terms_from
streams-more ss n ts tss =
    let left = λ (s : TermsWithSegmentOrd). in_segment s.segment_ord s.terms.left in
    ap (λ r. r ++ terms_from (n + 1) tss) (flat_map-append left ss (record { terms = stream_of (numbered ts); segment_ord = n } ∷ []))
    ∙ append_assoc (terms_left ss) (in_segment n (numbered ts) ++ []) (terms_from (n + 1) tss)
    ∙ ap (λ r. terms_left ss ++ (r ++ terms_from (n + 1) tss)) (append-nil (in_segment n (numbered ts)))

-- ---- the walks of all columns, one by one

-- columns whose count of terms is below 2 ^ 64 have fewer than 2 ^ 64 terms
pub terms-counted : (columns : List Texts) → term_count columns < 2 ^ 64 → sum_by length (terms_of columns) < 2 ^ 64
terms-counted columns h = omega (arith, same columns, h)
  where
    same : (cs : List Texts) → sum_by length (terms_of cs) ≡ term_count cs
    same [] = refl
    same (c ∷ cs) =
        let more = same cs in omega
        (arith, more, sum_by-cons length c.terms (terms_of cs), sum_by-cons (λ (d : Texts). length d.terms) c cs)

-- the walk of one column more has the terms to give that its column had to bring
pub streams-step :
    (columns : List Texts) (ss new : List TermsWithSegmentOrd) (n : ℕ) (column : Texts) (s : TermStream)
    → n < length columns → column ≡ get_or columns n column → s ≡ stream_of (numbered column.terms)
    → new ≡ ss ++ record { terms = s; segment_ord = n } ∷ []
    → terms_left new ++ terms_from (n + 1) (terms_of (drop (n + 1) columns)) ≡ terms_left ss ++ terms_from n (terms_of (drop n columns))
streams-step columns ss new n column s h e f g =
    let here : drop n columns ≡ column ∷ drop (n + 1) columns = drop_more columns n column h ∙ ap (λ c. c ∷ drop (n + 1) columns) (sym e) in
    let value = λ (w : TermStream). ss ++ record { terms = w; segment_ord = n } ∷ [] in
    ap (λ r. terms_left r ++ terms_from (n + 1) (terms_of (drop (n + 1) columns))) (g ∙ ap value f)
    ∙ streams-more ss n column.terms (terms_of (drop (n + 1) columns))
    ∙ ap (λ cs. terms_left ss ++ terms_from n (terms_of cs)) (sym here)

-- where each column has its walk, the walks have all terms to give
pub streams-whole : (columns : List Texts) (ss : List TermsWithSegmentOrd) (n : ℕ) (whole : List SegmentTerm)
    → length columns ≤ n → terms_left ss ++ terms_from n (terms_of (drop n columns)) ≡ whole → terms_left ss ≡ whole
unfolding terms_from
streams-whole columns ss n whole h e =
    let none : drop n columns ≡ [] = drop_all n columns h in
    sym (append-nil (terms_left ss)) ∙ sym (ap (λ cs. terms_left ss ++ terms_from n (terms_of cs)) none) ∙ e

-- ---- a step of the list

-- a step onto a key leaves fewer terms
pub step-shorter : (left : List SegmentTerm) → is_on_key (merged_step left) ≡ true → length (merged_step left).left < length left
step-shorter [] on = absurd (true≢false (sym on))
step-shorter (t ∷ ts) on =
    let same = ap length (others-first t ts) in
    omega (arith, same, filter-few (is_other t.key) ts)

-- one that doesn't had none
pub step-none : (left : List SegmentTerm) → is_on_key (merged_step left) ≡ false → left ≡ []
step-none [] off = refl
step-none (t ∷ ts) off = absurd (true≢false (sym (first (bytes_eq t.key t.key) refl) ∙ off))
  where
    first : (b : Bool) → bytes_eq t.key t.key ≡ b → is_on_key (merged_step (t ∷ ts)) ≡ true
    first b e =
        let same = bytes_eq-same t.key in rw same
        (ap not (ne_eqb (suc (length (filter (has_key t.key) ts))) 0 (λ z. absurd (omega (arith, z)))))

-- ---- the start and the end

-- before the first key no term has its number, in a mapping as long as the columns' terms
pub numbered-start : (tss : List (List (List ℕ))) (kept : List ℕ → Bool) (mapping : List (List ℕ))
    → map length mapping ≡ map length tss → AreNumbered tss kept (in_order (terms_from 0 tss)) 0 mapping
numbered-start tss kept mapping e =
    let moved = moved-sorted (λ a b. not (is_gt (term_cmp a b))) (terms_from 0 tss) in
    record {
      never_fall = never_fall-ordered (terms_from 0 tss);
      genuine =
          all-moved (λ t. item_at tss (t.segment, t.ord) ≡ Some t.key) (terms_from 0 tss)
          (in_order (terms_from 0 tss)) moved (genuine-all tss);
      lengths = e;
      rest = ap (filter kept) (sym (keys-ordered tss));
      told =
          λ i j key f p. inl (in-moved (record { key = key; segment = i; ord = j }) (terms_from 0 tss)
          (in_order (terms_from 0 tss)) moved (in-all-terms tss i j key f));
    }

filter-every : (ks : List (List ℕ)) → filter (λ k. true) ks ≡ ks
filter-every [] = refl
filter-every (k ∷ ks) = ap (λ r. k ∷ r) (filter-every ks)

lengths-places : (all : List (List ℕ)) (tss : List (List (List ℕ))) → map length (places_among all tss) ≡ map length tss
lengths-places all [] = refl
lengths-places all (ts ∷ tss) =
    let first : length (map (id_of all) ts) ≡ length ts = length-map ts (id_of all) in
    let rest = lengths-places all tss in
    cc

-- all terms have been given their places
pub numbered-end : (tss : List (List (List ℕ))) (next : ℕ) (mapping : List (List ℕ))
    → AreNumbered tss (λ k. true) [] next mapping → mapping ≡ merged_places tss
numbered-end tss next mapping h =
    same-lists mapping (merged_places tss) (h.lengths ∙ sym (lengths-places (terms_in_order tss) tss)) each
  where
    each : (i j : ℕ) (v : ℕ) → item_at (merged_places tss) (i, j) ≡ Some v → item_at mapping (i, j) ≡ Some v
    each i j v e = go (item_at tss (i, j)) refl (sym (item-map (id_of (terms_in_order tss)) tss i j) ∙ e)
      where
        go : (o : Option (List ℕ)) → item_at tss (i, j) ≡ o → option_map (id_of (terms_in_order tss)) o ≡ Some v
            → item_at mapping (i, j) ≡ Some v
        go None f g = cc
        go (Some key) f g = elim (h.told i j key f refl) [
          | inl none ↦ absurd none
          | inr told ↦ told ∙ ap (λ ks. Some (id_of ks key)) (filter-every (terms_in_order tss)) ∙ g
        ]

-- ---- one key more

module _ (tss : List (List (List ℕ))) (kept : List ℕ → Bool) (t : SegmentTerm) (ts : List SegmentTerm) (next : ℕ)
    (mapping : List (List ℕ)) (h : AreNumbered tss kept (t ∷ ts) next mapping) where
  abbrev current : List SegmentTerm
  current = filter (has_key t.key) (t ∷ ts)

  abbrev left : List SegmentTerm
  left = filter (is_other t.key) (t ∷ ts)

  -- each term of the key is one of its segment
  pub own-places : AllByRecursion (λ p. item_at tss p ≡ Some t.key) (places_of current)
  own-places =
      mapped_all (λ p. item_at tss p ≡ Some t.key) (λ (u : SegmentTerm). (u.segment, u.ord)) current (own (t ∷ ts) h.genuine)
    where
      own : (us : List SegmentTerm) → AllByRecursion (λ u. item_at tss (u.segment, u.ord) ≡ Some u.key) us
          → AllByRecursion (λ u. item_at tss (u.segment, u.ord) ≡ Some t.key) (filter (has_key t.key) us)
      own [] a = tt
      own (u ∷ us) a = go (bytes_eq t.key u.key) refl (own us a.1)
        where
          go : (b : Bool) → bytes_eq t.key u.key ≡ b
              → AllByRecursion (λ u. item_at tss (u.segment, u.ord) ≡ Some t.key) (filter (has_key t.key) us)
              → AllByRecursion (λ u. item_at tss (u.segment, u.ord) ≡ Some t.key) (filter (has_key t.key) (u ∷ us))
          go true e rest = rw e (a.0 ∙ ap Some (sym (bytes_eq-true t.key u.key e)), rest)
          go false e rest = rw e rest

  pub places-within : AllByRecursion (λ p. is_some (item_at mapping p) ≡ true) (places_of current)
  places-within = all_by (λ (p : ℕ × ℕ) e. some-same tss mapping h.lengths p.0 p.1 ∙ ap is_some e) (places_of current) own-places

  -- where a term is that is left
  divided : (i j : ℕ) (key : List ℕ) → IsAmong (record { key = key; segment = i; ord = j }) (t ∷ ts)
      → IsAmong (record { key = key; segment = i; ord = j }) left ⊎ (IsAmong (i, j) (places_of current) × (key ≡ t.key))
  divided i j key there = go (bytes_eq t.key key) refl
    where
      u : SegmentTerm
      u = record { key = key; segment = i; ord = j }

      go : (b : Bool) → bytes_eq t.key key ≡ b → IsAmong u left ⊎ (IsAmong (i, j) (places_of current) × (key ≡ t.key))
      go true e =
          inr (
            in-map (λ (v : SegmentTerm). (v.segment, v.ord)) u current
                (in-filter (has_key t.key) u (t ∷ ts) there e),
            sym (bytes_eq-true t.key key e),
          )
      go false e = inl (in-filter (is_other t.key) u (t ∷ ts) there (ap not e))

  -- the key is kept
  module _ (keeps : kept t.key ≡ true) where
    rest-is : drop next (kept_terms kept tss) ≡ t.key ∷ filter kept (keys_of left)
    rest-is = h.rest ∙ ap (filter kept) (keys-step t ts h.never_fall) ∙ first
      where
        first : filter kept (t.key ∷ keys_of left) ≡ t.key ∷ filter kept (keys_of left)
        first = rw keeps refl

    place-is : id_of (kept_terms kept tss) t.key ≡ next
    place-is =
        place-dropped next (kept_terms kept tss) t.key (filter kept (keys_of left))
        (rising-filtered kept (terms_in_order tss) (rising-terms tss)) rest-is

    pub next-fits : sum_by length tss < 2 ^ 64 → next + 1 < 2 ^ 64
    next-fits few =
        let long = ap length rest-is in
        let dropped = length-drop next (kept_terms kept tss) in
        omega (arith, long, dropped, filter-few kept (terms_in_order tss), length-distinct (joined_lists tss), length-joined tss)

  -- and its terms got the next number
  module _ (keeps : kept t.key ≡ true) (new : List (List ℕ)) (numbers : Numbers (places_of current) next mapping new) where
    given : (i j : ℕ) (key : List ℕ) → IsAmong (i, j) (places_of current) → key ≡ t.key
        → item_at new (i, j) ≡ Some (id_of (kept_terms kept tss) key)
    given i j key there e =
        in-all (λ p. item_at new p ≡ Some next) (i, j) (places_of current) there numbers.told
        ∙ ap Some (sym (ap (id_of (kept_terms kept tss)) e ∙ place-is keeps))

    pub numbered-more : AreNumbered tss kept left (next + 1) new
    numbered-more = record {
      never_fall = never_fall-filtered (is_other t.key) (t ∷ ts) h.never_fall;
      genuine = all-filter (λ u. item_at tss (u.segment, u.ord) ≡ Some u.key) (is_other t.key) (t ∷ ts) h.genuine;
      lengths = numbers.lengths ∙ h.lengths;
      rest = drop-next next (kept_terms kept tss) t.key (filter kept (keys_of left)) (rest-is keeps);
      told = told;
    }
      where
        told : (i j : ℕ) (key : List ℕ) → item_at tss (i, j) ≡ Some key → kept key ≡ true
            → IsAmong (record { key = key; segment = i; ord = j }) left
            ⊎ (item_at new (i, j) ≡ Some (id_of (kept_terms kept tss) key))
        told i j key f p = elim (h.told i j key f p) [
          | inl there ↦ elim (divided i j key there) [ inl later ↦ inl later | inr here ↦ inr (given i j key here.0 here.1) ]
          | inr e ↦ elim (numbers.others (i, j)) [
            | inl here ↦ inr (given i j key here (same i j key f here))
            | inr kept-so ↦ inr (kept-so ∙ e)
          ]
        ]
          where
            same : (i j : ℕ) (key : List ℕ) → item_at tss (i, j) ≡ Some key → IsAmong (i, j) (places_of current) → key ≡ t.key
            same i j key f here =
                let own = in-all (λ p. item_at tss p ≡ Some t.key) (i, j) (places_of current) here own-places in
                cc

-- ---- the same for a merge that went a step on

-- the places of the next key's terms are within the mapping
pub key-within : (tss : List (List (List ℕ))) (kept : List ℕ → Bool) (left : List SegmentTerm) (next : ℕ)
    (mapping : List (List ℕ)) → AreNumbered tss kept left next mapping → (merger : Merging)
    → merger ≡ merged_step left
    → AllByRecursion (λ p. is_some (item_at mapping p) ≡ true) (places_of merger.current)
key-within tss kept [] next mapping h merger e =
    subst (λ (m : Merging). AllByRecursion (λ p. is_some (item_at mapping p) ≡ true) (places_of m.current)) (sym e)
    tt
key-within tss kept (t ∷ ts) next mapping h merger e =
    subst (λ (m : Merging). AllByRecursion (λ p. is_some (item_at mapping p) ≡ true) (places_of m.current)) (sym e)
    (places-within tss kept t ts next mapping h)

-- where the next key's terms are given the next number, the keys left go on with the one behind it
pub key-numbered : (tss : List (List (List ℕ))) (left : List SegmentTerm) (next : ℕ) (mapping : List (List ℕ))
    → AreNumbered tss (λ k. true) left next mapping → (merger : Merging) → merger ≡ merged_step left
    → is_on_key merger ≡ true
    → (new : List (List ℕ)) → Numbers (places_of merger.current) next mapping new → AreNumbered tss (λ k. true) merger.left (next + 1) new
key-numbered tss [] next mapping h merger e on new n = absurd (true≢false (sym on ∙ ap is_on_key e))
key-numbered tss (t ∷ ts) next mapping h merger e on new n =
    let own = subst (λ (m : Merging). Numbers (places_of m.current) next mapping new) e n in
    subst (λ (m : Merging). AreNumbered tss (λ k. true) m.left (next + 1) new) (sym e)
    (numbered-more tss (λ k. true) t ts next mapping h refl new own)

-- with fewer than 2 ^ 64 terms the number behind the next key's is below 2 ^ 64, too
pub key-fits : (tss : List (List (List ℕ))) (left : List SegmentTerm) (next : ℕ) (mapping : List (List ℕ))
    → AreNumbered tss (λ k. true) left next mapping → (merger : Merging) → merger ≡ merged_step left
    → is_on_key merger ≡ true
    → sum_by length tss < 2 ^ 64 → next + 1 < 2 ^ 64
key-fits tss [] next mapping h merger e on few = absurd (true≢false (sym on ∙ ap is_on_key e))
key-fits tss (t ∷ ts) next mapping h merger e on few = next-fits tss (λ k. true) t ts next mapping h refl few
