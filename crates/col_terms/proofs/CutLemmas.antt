-- Terms cut from a text by their ends.
use Rattle.std.proofs.Common.{◌≡◌, ℕ, zero, suc, ◌+◌, ◌-◌, ◌*◌, ◌<◌, ◌≤◌, ◌==◌, ◌&&◌, nat_le, Bool, true, false, List, [], ◌∷◌, length, sum, take, drop, get_or, slice_get, Option, Some, None, refl, sym, ap, ◌∙◌, arith}
use Rattle.std.proofs.lemmas.Bool.{and_parts, and_from, and_left, and_right, le-leb, lt-leb, leb-true, ne_eqb}
use Rattle.std.proofs.lemmas.Bool.Decides.{nat_tests}
use Rattle.std.proofs.lemmas.List.{length-drop, drop-drop, drop_all}
use Rattle.col_common.specs.Ascending.{is_before, is_ascending, is_never_falling, differences}
use Rattle.col_model.specs.Dictionary.{cut}
use Rattle.col_model.proofs.ListLaws.{sum-cons}
use Rattle.col_terms.specs.TermTable.{number_at, numbers_in, cut_whole, follows}
use Rattle.col_terms.proofs.NumberLemmas.{length-numbers_in, drop-numbers_in}

-- ---- the test of ends, one end after another

-- the terms ascend behind the last one
abbrev pub ascend_behind : Option (List ℕ) → List (List ℕ) → Bool
ascend_behind None ts = is_ascending ts
ascend_behind (Some last) ts = is_ascending (last ∷ ts)

-- ends behind a place cut what is left of the text into terms behind the last one
abbrev pub cut_rest : ℕ → Option (List ℕ) → List ℕ → List ℕ → Bool
cut_rest start last ends rest =
    is_never_falling (start ∷ ends) && (sum (differences (start ∷ ends)) == length rest)
    && ascend_behind last (cut (differences (start ∷ ends)) rest)

and_true : (b : Bool) → (b && true) ≡ b
and_true true = refl
and_true false = refl

-- no end is left
pub cut_rest-none : (start : ℕ) (last : Option (List ℕ)) (rest : List ℕ) → cut_rest start last [] rest ≡ (0 == length rest)
unfolding cut
cut_rest-none start None rest = and_true (0 == length rest)
cut_rest-none start (Some last) rest = and_true (0 == length rest)

-- an end before the place
pub cut_rest-falls : (start e : ℕ) (last : Option (List ℕ)) (es rest : List ℕ) → e < start → cut_rest start last (e ∷ es) rest ≡ false
cut_rest-falls start e last es rest h = rw (lt-leb start e h) refl

module _ (start e : ℕ) (last : Option (List ℕ)) (es rest : List ℕ) where
  sized : sum (differences (start ∷ e ∷ es)) ≡ (e - start) + sum (differences (e ∷ es))
  sized = sum-cons (e - start) (differences (e ∷ es))

  -- an end past the text
  pub cut_rest-long : length rest < e - start → cut_rest start last (e ∷ es) rest ≡ false
  cut_rest-long h =
      let ne = ne_eqb (sum (differences (start ∷ e ∷ es))) (length rest) (λ s. omega (arith, sized)) in
      and_left (is_never_falling (start ∷ e ∷ es) && (sum (differences (start ∷ e ∷ es)) == length rest)) _
      (and_right (is_never_falling (start ∷ e ∷ es)) (sum (differences (start ∷ e ∷ es)) == length rest) ne)

  stands_behind : (l : Option (List ℕ)) (t : List ℕ) (ts : List (List ℕ)) → follows l t ≡ false → ascend_behind l (t ∷ ts) ≡ false
  stands_behind None t ts h = cc
  stands_behind (Some l) t ts h = and_left (is_before l t) (is_ascending (t ∷ ts)) h

  ascends_on : (l : Option (List ℕ)) (t : List ℕ) (ts : List (List ℕ)) → follows l t ≡ true
      → ascend_behind l (t ∷ ts) ≡ is_ascending (t ∷ ts)
  ascends_on None t ts h = refl
  ascends_on (Some l) t ts h = ap (λ b. b && is_ascending (t ∷ ts)) h

  -- a term that doesn't stand behind the last one
  pub cut_rest-unordered : follows last (take (e - start) rest) ≡ false → cut_rest start last (e ∷ es) rest ≡ false
  unfolding cut
  cut_rest-unordered h =
      and_right (is_never_falling (start ∷ e ∷ es) && (sum (differences (start ∷ e ∷ es)) == length rest)) _
      (stands_behind last (take (e - start) rest) (cut (differences (e ∷ es)) (drop (e - start) rest)) h)

  -- one term more
  pub cut_rest-more : start ≤ e → e - start ≤ length rest → follows last (take (e - start) rest) ≡ true
      → cut_rest start last (e ∷ es) rest ≡ cut_rest e (Some (take (e - start) rest)) es (drop (e - start) rest)
  unfolding cut
  cut_rest-more h k f =
      let ts = cut (differences (e ∷ es)) (drop (e - start) rest) in
      let left = length-drop (e - start) rest in
      let sums : (sum (differences (start ∷ e ∷ es)) == length rest) ≡
      (sum (differences (e ∷ es)) == length (drop (e - start) rest)) =
      let s = sized in grind (arith, nat_tests) in
      ap (λ a. ((a && is_never_falling (e ∷ es)) && (sum (differences (start ∷ e ∷ es)) == length rest))
      && ascend_behind last (take (e - start) rest ∷ ts)) (le-leb start e h)
      ∙ ap (λ s. (is_never_falling (e ∷ es) && s) && ascend_behind last (take (e - start) rest ∷ ts)) sums
      ∙ ap (λ w. (is_never_falling (e ∷ es) && (sum (differences (e ∷ es)) == length (drop (e - start) rest))) && w)
      (ascends_on last (take (e - start) rest) ts f)

-- a turn of a walk over ends: e is the end at place i
module _ (n : ℕ) (bytes text : List ℕ) (i start e : ℕ) (last : Option (List ℕ)) (h : i < n)
    (read : e ≡ number_at bytes (i * 4)) (so_far : cut_whole (numbers_in n bytes) text ≡ cut_rest start last
    (drop i (numbers_in n bytes)) (drop start text)) where
  here : cut_whole (numbers_in n bytes) text ≡ cut_rest start last (e ∷ drop (i + 1) (numbers_in n bytes)) (drop start text)
  here =
      let at : number_at bytes (4 * i) ≡ e = ap (number_at bytes) (omega arith) ∙ sym read in
      so_far ∙ ap (λ es. cut_rest start last es (drop start text))
      (drop-numbers_in n bytes i h ∙ ap (λ k. k ∷ drop (i + 1) (numbers_in n bytes)) at)

  -- an end before the start of its term says that the text isn't cut whole
  pub turn-falls : e < start → false ≡ cut_whole (numbers_in n bytes) text
  turn-falls falls = sym (here ∙ cut_rest-falls start e last (drop (i + 1) (numbers_in n bytes)) (drop start text) falls)

  -- an end behind the text says that the text isn't cut whole
  pub turn-long : start ≤ length text → length text < e → false ≡ cut_whole (numbers_in n bytes) text
  turn-long within long =
      let left = length-drop start text in
      sym (here ∙ cut_rest-long start e last (drop (i + 1) (numbers_in n bytes)) (drop start text) (omega arith))

  -- a term that doesn't follow the one before it says that the text isn't cut whole
  pub turn-unordered : follows last (take (e - start) (drop start text)) ≡ false → false ≡ cut_whole (numbers_in n bytes) text
  turn-unordered f = sym (here ∙ cut_rest-unordered start e last (drop (i + 1) (numbers_in n bytes)) (drop start text) f)

  -- a term that follows the one before it leaves the rest of the text to be cut
  pub turn-more : start ≤ e → e ≤ length text → follows last (take (e - start) (drop start text)) ≡ true
      → cut_whole (numbers_in n bytes) text
      ≡ cut_rest e (Some (take (e - start) (drop start text))) (drop (i + 1) (numbers_in n bytes)) (drop e text)
  turn-more up fits f =
      let left = length-drop start text in
      let moved : drop (e - start) (drop start text) ≡ drop e text =
      drop-drop (e - start) start text ∙ ap (λ k. drop k text) (omega arith) in
      here ∙ cut_rest-more start e last (drop (i + 1) (numbers_in n bytes)) (drop start text) up (omega arith) f
      ∙ ap (cut_rest e (Some (take (e - start) (drop start text))) (drop (i + 1) (numbers_in n bytes))) moved

-- no end is left, and the text must be taken whole
pub turn-end : (n : ℕ) (bytes text : List ℕ) (i start : ℕ) (last : Option (List ℕ)) → n ≤ i → start ≤ length text
    → cut_whole (numbers_in n bytes) text ≡ cut_rest start last (drop i (numbers_in n bytes)) (drop start text)
    → (start == length text) ≡ cut_whole (numbers_in n bytes) text
turn-end n bytes text i start last h within so_far =
    let none : drop i (numbers_in n bytes) ≡ [] = drop_all i (numbers_in n bytes) (omega (arith, length-numbers_in n bytes)) in
    let left = length-drop start text in
    let same : (0 == length (drop start text)) ≡ (start == length text) = grind (arith, nat_tests) in
    sym (so_far ∙ ap (λ es. cut_rest start last es (drop start text)) none ∙ cut_rest-none start last (drop start text) ∙ same)

-- ---- terms at their places

-- a term stands between the end before and its own
pub cut-at : (s : ℕ) (ends text : List ℕ) (i : ℕ) → is_never_falling (s ∷ ends) ≡ true → i < length ends
    → slice_get (cut (differences (s ∷ ends)) (drop s text)) i
    ≡ Some (take (get_or ends i 0 - get_or (s ∷ ends) i 0) (drop (get_or (s ∷ ends) i 0) text))
unfolding cut
cut-at s [] text i up h = absurd (omega arith)
cut-at s (e ∷ es) text zero up h = refl
cut-at s (e ∷ es) text (suc i) up h =
    let parts = and_parts (nat_le s e) (is_never_falling (e ∷ es)) up in
    let le : s ≤ e = leb-true s e parts.0 in
    let moved : drop (e - s) (drop s text) ≡ drop e text = drop-drop (e - s) s text ∙ ap (λ k. drop k text) (omega arith) in
    rw moved (cut-at e es text i parts.1 (omega arith))

-- ends that never fall start at 0 or later
pub rises : (ends : List ℕ) → is_never_falling ends ≡ true → is_never_falling (0 ∷ ends) ≡ true
rises [] h = refl
rises (e ∷ es) h = and_from (nat_le 0 e) (is_never_falling (e ∷ es)) (le-leb 0 e (omega arith)) h

-- each end is at least the one before, and within the text
pub ends-within : (s : ℕ) (ends : List ℕ) (i : ℕ) → is_never_falling (s ∷ ends) ≡ true → i < length ends
    → (get_or (s ∷ ends) i 0 ≤ get_or ends i 0) × (get_or ends i 0 ≤ s + sum (differences (s ∷ ends)))
ends-within s [] i up h = absurd (omega arith)
ends-within s (e ∷ es) zero up h =
    let le : s ≤ e = leb-true s e (and_parts (nat_le s e) (is_never_falling (e ∷ es)) up).0 in
    let sized = sum-cons (e - s) (differences (e ∷ es)) in
    (le, omega (arith, sized))
ends-within s (e ∷ es) (suc i) up h =
    let parts = and_parts (nat_le s e) (is_never_falling (e ∷ es)) up in
    let le : s ≤ e = leb-true s e parts.0 in
    let later = ends-within e es i parts.1 (omega arith) in
    let sized = sum-cons (e - s) (differences (e ∷ es)) in
    (later.0, omega (arith, later.1, sized))

-- there are as many pieces as lengths
pub length-cut : (ns xs : List ℕ) → length (cut ns xs) ≡ length ns
unfolding cut
length-cut [] xs = refl
length-cut (n ∷ ns) xs = ap suc (length-cut ns (drop n xs))
