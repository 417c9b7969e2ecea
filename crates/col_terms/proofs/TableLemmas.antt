-- The bytes of a dictionary.
use Rattle.std.proofs.Common.{◌≡◌, ℕ, zero, suc, ◌+◌, ◌-◌, ◌*◌, ◌<◌, ◌≤◌, ◌==◌, ◌&&◌, Bool, true, false, List, [], ◌∷◌, length, sum, sum_by, take, drop, get_or, slice_get, Option, Some, None, option_map, unwrap_or, inl, inr, add-one, refl, sym, ap, ◌∙◌, subst, arith}
use Rattle.std.proofs.lemmas.Bool.{and_parts, le-leb, lt-leb, eqb-true, cases_lt}
use Rattle.std.proofs.lemmas.List.{length-drop, length-take-le, drop-drop}
use Rattle.std.proofs.lemmas.Option.{none-some, same_Some, cond_some}
use Rattle.std.proofs.lemmas.List.Sums.{sum_by-cons}
use Rattle.col_common.specs.Reading.{only_if, items}
use Rattle.col_common.specs.Ascending.{is_ascending, is_never_falling, differences}
use Rattle.col_model.specs.Dictionary.{cut, terms}
use Rattle.col_model.specs.Limits.{dictionary_length}
use Rattle.col_terms.specs.TermTable.{number_at, numbers_in, start_at, terms_by, cut_whole, terms_of, IsTable}
use Rattle.col_terms.proofs.NumberLemmas.{items-numbers, length-numbers_in, number_at-drop, get_or-numbers_in}
use Rattle.col_terms.proofs.CutLemmas.{cut-at, rises, ends-within, length-cut}
use Rattle.col_model.proofs.ListLaws.{length-differences, sum-cons}

-- what the bytes have where they have a count and ends
module _ (bytes : List ℕ) where
  pub terms-short : length bytes < 4 → terms bytes ≡ None
  unfolding terms
  terms-short h = rw (lt-leb 4 (length bytes) h) refl

  pub terms-few : 4 ≤ length bytes → length (drop 4 bytes) < 4 * number_at bytes 0 → terms bytes ≡ None
  unfolding terms number_at
  terms-few h k = rw (le-leb 4 (length bytes) h, items-numbers, lt-leb (4 * number_at bytes 0) (length (drop 4 bytes)) k) refl

  pub terms-cut : 4 ≤ length bytes → 4 * number_at bytes 0 ≤ length (drop 4 bytes)
      → terms bytes ≡ only_if
      (cut_whole (numbers_in (number_at bytes 0) (drop 4 bytes)) (drop (4 * number_at bytes 0) (drop 4 bytes)))
      (terms_by (numbers_in (number_at bytes 0) (drop 4 bytes)) (drop (4 * number_at bytes 0) (drop 4 bytes)))
  unfolding terms number_at
  terms-cut h k = rw (le-leb 4 (length bytes) h, items-numbers, le-leb (4 * number_at bytes 0) (length (drop 4 bytes)) k) refl

  -- so many ends are there, and they cut the text
  pub record IsLaid (n : ℕ) : Type 0 where
    pub enough : 4 ≤ length bytes
    pub fits : 4 * n ≤ length (drop 4 bytes)
    pub whole : cut_whole (numbers_in n (drop 4 bytes)) (drop (4 * n) (drop 4 bytes)) ≡ true
    pub are : terms_of bytes ≡ terms_by (numbers_in n (drop 4 bytes)) (drop (4 * n) (drop 4 bytes))

  length-terms_by : (n : ℕ) (text : List ℕ) → length (terms_by (numbers_in n (drop 4 bytes)) text) ≡ n
  length-terms_by n text =
      let ends = numbers_in n (drop 4 bytes) in
      length-cut (differences (0 ∷ ends)) text ∙ length-differences 0 ends ∙ length-numbers_in n (drop 4 bytes)

  pub laid : (n : ℕ) → IsTable bytes n → IsLaid n
  laid n t =
      elim (cases_lt (length bytes) 4) [
        | inl few ↦ absurd (none-some (terms_of bytes) (sym (terms-short few) ∙ t.whole))
        | inr enough ↦ elim (cases_lt (length (drop 4 bytes)) (4 * number_at bytes 0)) [
          | inl few ↦ absurd (none-some (terms_of bytes) (sym (terms-few enough few) ∙ t.whole))
          | inr fits ↦
              let m = number_at bytes 0 in
              let parts = cond_some (cut_whole (numbers_in m (drop 4 bytes)) (drop (4 * m) (drop 4 bytes)))
              (terms_by (numbers_in m (drop 4 bytes)) (drop (4 * m) (drop 4 bytes))) (terms_of bytes)
              (sym (terms-cut enough fits) ∙ t.whole) in
              let same : m ≡ n = sym (t.count ∙ ap length (sym parts.1) ∙ length-terms_by m (drop (4 * m) (drop 4 bytes))) in
              subst IsLaid same (record { enough = enough; fits = fits; whole = parts.0; are = sym parts.1 })
        ]
      ]

  pub start-end : (n i : ℕ) → i < n → start_at bytes (suc i) ≡ get_or (numbers_in n (drop 4 bytes)) i 0
  start-end n i h = sym (get_or-numbers_in n (drop 4 bytes) i h ∙ number_at-drop 4 (4 * i) bytes)

  pub start-before : (n i : ℕ) → i < n → start_at bytes i ≡ get_or (0 ∷ numbers_in n (drop 4 bytes)) i 0
  start-before n zero h = refl
  start-before n (suc i) h = start-end n i (omega arith)

  -- the terms of a dictionary ascend
  pub table_ascending : (n : ℕ) → IsTable bytes n → is_ascending (terms_of bytes) ≡ true
  table_ascending n t =
      let l = laid n t in
      ap is_ascending l.are ∙ (and_parts (is_never_falling (numbers_in n (drop 4 bytes))
      && (sum (differences (0 ∷ numbers_in n (drop 4 bytes))) == length (drop (4 * n) (drop 4 bytes)))) _
      l.whole).1

  -- the number of each end is there
  pub has_room : (n i : ℕ) → IsTable bytes n → i < n → 4 * i + 8 ≤ length bytes
  has_room n i t h =
      let l = laid n t in
      let behind_count = length-drop 4 bytes in
      omega (arith, l.enough, l.fits)

  -- the bytes of a term
  pub record HasTerm (n i s e : ℕ) : Type 0 where
    pub ordered : s ≤ e
    pub within : (n + 1) * 4 + e ≤ length bytes
    pub is : slice_get (terms_of bytes) i ≡ Some (take ((n + 1) * 4 + e - ((n + 1) * 4 + s)) (drop ((n + 1) * 4 + s) bytes))

  -- a term stands in the dictionary from where its start says to where the next one's says
  pub has_term : (n i s e : ℕ) → IsTable bytes n → i < n → s ≡ start_at bytes i → e ≡ start_at bytes (i + 1) → HasTerm n i s e
  has_term n i s e t h p q =
      let l = laid n t in
      let ends = numbers_in n (drop 4 bytes) in
      let text = drop (4 * n) (drop 4 bytes) in
      let parts = and_parts (is_never_falling ends && (sum (differences (0 ∷ ends)) == length text)) _ l.whole in
      let tests = and_parts (is_never_falling ends) (sum (differences (0 ∷ ends)) == length text) parts.0 in
      let up : is_never_falling (0 ∷ ends) ≡ true = rises ends tests.0 in
      let full : sum (differences (0 ∷ ends)) ≡ length text = eqb-true (sum (differences (0 ∷ ends))) (length text) tests.1 in
      let count = length-numbers_in n (drop 4 bytes) in
      let in_ends : i < length ends = omega arith in
      let s_is : s ≡ get_or (0 ∷ ends) i 0 = p ∙ start-before n i h in
      let e_is : e ≡ get_or ends i 0 = q ∙ ap (start_at bytes) (add-one i) ∙ start-end n i h in
      let bounds = ends-within 0 ends i up in_ends in
      let behind_count = length-drop 4 bytes in
      let behind_ends = length-drop (4 * n) (drop 4 bytes) in
      let at : slice_get (terms_of bytes) i ≡ Some (take (e - s) (drop s text)) =
      ap (λ ts. slice_get ts i) l.are ∙ cut-at 0 ends text i up in_ends
      ∙ ap (λ k. Some (take (k - get_or (0 ∷ ends) i 0) (drop (get_or (0 ∷ ends) i 0) text))) (sym e_is)
      ∙ ap (λ k. Some (take (e - k) (drop k text))) (sym s_is) in
      let joined : drop s text ≡ drop ((n + 1) * 4 + s) bytes =
      drop-drop s (4 * n) (drop 4 bytes) ∙ drop-drop (4 * n + s) 4 bytes
      ∙ ap (λ k. drop k bytes) (omega arith) in
      record {
        ordered = omega (arith, bounds.0, s_is, e_is);
        within = omega (arith, bounds.1, e_is, full, l.enough, l.fits);
        is = at ∙ ap (λ r. Some (take (e - s) r)) joined ∙ ap (λ k. Some (take k (drop ((n + 1) * 4 + s) bytes))) (omega arith);
      }

  -- how many terms there are, where the bytes stand for any list
  pub count-short : length bytes < 4 → None ≡ option_map length (terms bytes)
  count-short h = ap (option_map length) (sym (terms-short h))

  -- bytes that are too few for the ends that they count are no dictionary
  pub count-few : (n : ℕ) → n ≡ number_at bytes 0 → 4 ≤ length bytes → length (drop 4 bytes) < n * 4
      → None ≡ option_map length (terms bytes)
  count-few n e h k = ap (option_map length) (sym (terms-few h (omega arith)))

  counted : (n : ℕ) → n ≡ number_at bytes 0 → 4 ≤ length bytes → n * 4 ≤ length (drop 4 bytes) → (b : Bool)
      → b ≡ cut_whole (numbers_in n (drop 4 bytes)) (drop (n * 4) (drop 4 bytes))
      → terms bytes ≡ only_if b (terms_by (numbers_in n (drop 4 bytes)) (drop (4 * n) (drop 4 bytes)))
  counted n e h k b test =
      let order : n * 4 ≡ 4 * n = omega arith in
      let cut_by : ℕ → Type 0 = λ m. terms bytes
      ≡ only_if (cut_whole (numbers_in m (drop 4 bytes)) (drop (4 * m) (drop 4 bytes)))
      (terms_by (numbers_in m (drop 4 bytes)) (drop (4 * m) (drop 4 bytes))) in
      subst cut_by (sym e) (terms-cut h (omega arith))
      ∙ ap (λ c. only_if c (terms_by (numbers_in n (drop 4 bytes)) (drop (4 * n) (drop 4 bytes))))
      (sym (test ∙ ap (λ k. cut_whole (numbers_in n (drop 4 bytes)) (drop k (drop 4 bytes))) order))

  -- ends that don't cut the text whole are no dictionary
  pub count-other : (n : ℕ) → n ≡ number_at bytes 0 → 4 ≤ length bytes → n * 4 ≤ length (drop 4 bytes)
      → false ≡ cut_whole (numbers_in n (drop 4 bytes)) (drop (n * 4) (drop 4 bytes))
      → None ≡ option_map length (terms bytes)
  count-other n e h k test = ap (option_map length) (sym (counted n e h k false test))

  -- ends that cut the text whole make a dictionary of as many terms
  pub count-whole : (n : ℕ) → n ≡ number_at bytes 0 → 4 ≤ length bytes → n * 4 ≤ length (drop 4 bytes)
      → true ≡ cut_whole (numbers_in n (drop 4 bytes)) (drop (n * 4) (drop 4 bytes))
      → Some n ≡ option_map length (terms bytes)
  count-whole n e h k test =
      sym (ap (option_map length) (counted n e h k true test)
      ∙ ap Some (length-terms_by n (drop (4 * n) (drop 4 bytes))))

-- bytes with a count of terms
pub table_counted : (bytes : List ℕ) (n : ℕ) → Some n ≡ option_map length (terms bytes) → IsTable bytes n
unfolding terms_of
table_counted bytes n e = go (terms bytes) refl e
  where
    go : (o : Option (List (List ℕ))) → terms bytes ≡ o → Some n ≡ option_map length o → IsTable bytes n
    go None is e = absurd (none-some n (sym e))
    go (Some ts) is e =
        let same : unwrap_or (terms bytes) [] ≡ ts = ap (λ o. unwrap_or o []) is in
        record { whole = is ∙ ap Some (sym same); count = same_Some n (length ts) e ∙ ap length (sym same) }

-- four bytes 0 are a dictionary without terms
pub empty_table : IsTable (0 ∷ 0 ∷ 0 ∷ 0 ∷ []) 0
unfolding terms_of terms items cut
empty_table = record { whole = refl; count = refl }

-- four zero bytes are the dictionary without terms
pub empty_terms : terms_of (0 ∷ 0 ∷ 0 ∷ 0 ∷ []) ≡ []
unfolding terms_of terms items cut
empty_terms = refl

-- the terms have all of the text
size-cut : (ns xs : List ℕ) → sum ns ≤ length xs → sum_by length (cut ns xs) ≡ sum ns
unfolding cut
size-cut [] xs h = refl
size-cut (n ∷ ns) xs h =
    let split = sum-cons n ns in
    let front = length-take-le n xs (omega arith) in
    let behind = length-drop n xs in
    sum_by-cons length (take n xs) (cut ns (drop n xs)) ∙ ap (λ k. k + sum_by length (cut ns (drop n xs))) front
    ∙ ap (λ k. n + k) (size-cut ns (drop n xs) (omega arith)) ∙ sym split

-- how many bytes there are
pub table_length : (bytes : List ℕ) (n : ℕ) → IsTable bytes n → length bytes ≡ dictionary_length (terms_of bytes)
table_length bytes n t =
    let l = laid bytes n t in
    let ends = numbers_in n (drop 4 bytes) in
    let text = drop (4 * n) (drop 4 bytes) in
    let parts = and_parts (is_never_falling ends && (sum (differences (0 ∷ ends)) == length text)) _ l.whole in
    let tests = and_parts (is_never_falling ends) (sum (differences (0 ∷ ends)) == length text) parts.0 in
    let full : sum (differences (0 ∷ ends)) ≡ length text = eqb-true (sum (differences (0 ∷ ends))) (length text) tests.1 in
    let sizes : sum_by length (terms_of bytes) ≡ sum (differences (0 ∷ ends)) =
    ap (sum_by length) l.are ∙ size-cut (differences (0 ∷ ends)) text (omega arith) in
    let behind_count = length-drop 4 bytes in
    let behind_ends = length-drop (4 * n) (drop 4 bytes) in
    omega (arith, sizes, full, t.count, l.enough, l.fits)
