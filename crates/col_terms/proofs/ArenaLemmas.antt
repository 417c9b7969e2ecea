-- Terms one behind another.
use Rattle.std.proofs.Common.{◌≡◌, ℕ, zero, suc, ◌+◌, ◌-◌, ◌*◌, ◌^◌, ◌<◌, ◌≤◌, nat_lt, min, Bool, true, ◌&&◌, List, [], ◌∷◌, ◌++◌, length, map, sum, sum_by, take, drop, get_or, slice_get, Some, bytes_eq, refl, sym, ap, ◌∙◌, subst, arith, append-nil, add-one}
use Rattle.std.specs.List.{concat, list_all, All, IsDistinct}
use Rattle.std.proofs.lemmas.List.{length-append, length-take, map-append, get_or_default}
use Rattle.std.proofs.lemmas.Option.{same_Some, slice_get-get_or}
use Rattle.std.proofs.lemmas.List.Elements.{All-append}
use Rattle.std.proofs.lemmas.List.Folds.{concat-append, list_all-append}
use Rattle.std.proofs.lemmas.List.Sums.{sum_by-cons}
use Rattle.std.proofs.lemmas.List.Sorted.{length_permutation, sum_by-IsPermutation}
use Rattle.std.proofs.Math.Seq.{take-suc}
use Rattle.col_common.specs.Ascending.{is_never_falling, differences}
use Rattle.col_model.specs.Dictionary.{cut}
use Rattle.col_model.specs.Limits.{dictionary_length}
use Rattle.col_model.specs.Sound.{are_bytes}
use Rattle.col_terms.specs.Building.{HoldsTerms, TermRef, HasHead, AreNumbered, ord_term, ordered, counted_bytes}
use Rattle.col_terms.specs.Streams.{OrdTerm, numbered}
use Rattle.col_terms.specs.TermTable.{ends_from, terms_by}
use Rattle.col_terms.proofs.CutLemmas.{cut-at, ends-within}
use Rattle.col_terms.proofs.OrderedLemmas.{permutation-ordered}
use Rattle.col_terms.proofs.PlaceLemmas.{numbered-push}
use Rattle.col_terms.proofs.WritingLemmas.{ends_rise, length-ends_from, sizes_are, length-concat, cut-concat}

-- ---- one term more

ends-push : (start : ℕ) (ts : List (List ℕ)) (t : List ℕ)
    → ends_from start (ts ++ t ∷ []) ≡ ends_from start ts ++ (start + length (concat (ts ++ t ∷ []))) ∷ []
ends-push start [] t = ap (λ n. n ∷ []) (ap (λ n. start + n) (sym (length-append t [] ∙ omega arith)))
ends-push start (u ∷ ts) t =
    let long = length-append u (concat (ts ++ t ∷ [])) in
    ap (λ es. (start + length u) ∷ es)
    (ends-push (start + length u) ts t ∙ ap (λ n. ends_from (start + length u) ts ++ n ∷ []) (omega arith))

-- the terms that a text and its ends hold
pub held : (bytes ends : List ℕ) (ts : List (List ℕ)) → HoldsTerms bytes ends ts → terms_by ends bytes ≡ ts
held bytes ends ts h =
    ap (λ es. cut (differences (0 ∷ es)) bytes) h.ends_are ∙ ap (λ ns. cut ns bytes) (sizes_are 0 ts)
    ∙ ap (cut (map length ts)) h.bytes_are ∙ cut-concat ts

concat-all : (Q : ℕ → Bool) (ts : List (List ℕ)) → list_all Q (concat ts) ≡ list_all (list_all Q) ts
concat-all Q [] = refl
concat-all Q (t ∷ ts) = list_all-append Q t (concat ts) ∙ ap (λ b. list_all Q t && b) (concat-all Q ts)

-- the terms that a text of bytes holds are bytes
pub held-bytes : (bytes ends : List ℕ) (ts : List (List ℕ)) → HoldsTerms bytes ends ts → are_bytes bytes ≡ true
    → list_all are_bytes ts ≡ true
held-bytes bytes ends ts h e = sym (concat-all (λ x. nat_lt x 256) ts) ∙ ap are_bytes (sym h.bytes_are) ∙ e

-- no bytes and no ends hold no terms
pub holds-none : (bytes ends : List ℕ) → bytes ≡ [] → ends ≡ [] → HoldsTerms bytes ends []
holds-none bytes ends e f = record { ends_are = f; bytes_are = e }

pub holds-more : (bytes ends : List ℕ) (ts : List (List ℕ)) (t : List ℕ) (end : ℕ) → HoldsTerms bytes ends ts
    → end ≡ length (bytes ++ t) → HoldsTerms (bytes ++ t) (ends ++ end ∷ []) (ts ++ t ∷ [])
holds-more bytes ends ts t end h e =
    let one : concat (t ∷ []) ≡ t = append-nil t in
    let all : bytes ++ t ≡ concat (ts ++ t ∷ []) = ap (λ s. s ++ t) h.bytes_are ∙ ap (λ u. concat ts ++ u) (sym one)
    ∙ sym (concat-append ts (t ∷ [])) in
    record {
      ends_are =
          ap (λ es. es ++ end ∷ []) h.ends_are
          ∙ ap (λ n. ends_from 0 ts ++ n ∷ []) (e ∙ ap length all ∙ omega arith) ∙ sym (ends-push 0 ts t);
      bytes_are = all;
    }

-- a text and ends after one term more
pub record Grown (bytes ends t : List ℕ) (text all : List ℕ) : Type 0 where
  pub terms : terms_by all text ≡ terms_by ends bytes ++ t ∷ []
  pub holds : HoldsTerms text all (terms_by all text)

-- a term put behind the text, with its end, is the next of the terms that they hold
pub grown : (bytes ends t : List ℕ) (end : ℕ) (text all : List ℕ) → HoldsTerms bytes ends (terms_by ends bytes)
    → text ≡ bytes ++ t → end ≡ length text → all ≡ ends ++ end ∷ [] → Grown bytes ends t text all
grown bytes ends t end text all h e f g =
    let ts = terms_by ends bytes in
    let more : HoldsTerms text all (ts ++ t ∷ []) =
    subst (λ s. HoldsTerms s all (ts ++ t ∷ [])) (sym e)
    (subst (λ es. HoldsTerms (bytes ++ t) es (ts ++ t ∷ [])) (sym g) (holds-more bytes ends ts t end h (f ∙ ap length e))) in
    let terms = held text all (ts ++ t ∷ []) more in
    record { terms = terms; holds = subst (HoldsTerms text all) (sym terms) more }

-- ---- counts

-- there are as many ends as terms
pub holds-count : (bytes ends : List ℕ) (ts : List (List ℕ)) → HoldsTerms bytes ends ts → length ends ≡ length ts
holds-count bytes ends ts h = ap length h.ends_are ∙ length-ends_from 0 ts

sum_of_lengths : (ts : List (List ℕ)) → sum (map length ts) ≡ sum_by length ts
sum_of_lengths [] = refl
sum_of_lengths (t ∷ ts) =
    sum_by-cons (λ n. n) (length t) (map length ts) ∙ ap (λ n. length t + n) (sum_of_lengths ts)
    ∙ sym (sum_by-cons length t ts)

-- the length of the text, below 2 ^ 64, is the count of the terms' bytes
pub holds-counted : (bytes ends : List ℕ) (ts : List (List ℕ)) → HoldsTerms bytes ends ts → length bytes < 2 ^ 64
    → length bytes ≡ counted_bytes ts
holds-counted bytes ends ts h short =
    let all : length bytes ≡ sum_by length ts = ap length h.bytes_are ∙ length-concat ts ∙ sum_of_lengths ts in
    omega arith

-- how long the dictionary is
pub length-counted : (ts : List (List ℕ)) (n b r : ℕ) → IsDistinct bytes_eq ts → n ≡ length ts
    → b ≡ counted_bytes ts → r ≡ min ((n + 1) * 4 + b) (2 ^ 64 - 1)
    → r ≡ min (dictionary_length (ordered ts)) (2 ^ 64 - 1)
length-counted ts n b r d e f g =
    let same = permutation-ordered ts d in
    let lengths = length_permutation ts (ordered ts) same in
    let sums = sum_by-IsPermutation length ts (ordered ts) same in
    let total : dictionary_length (ordered ts) ≡ 4 + 4 * n + sum_by length ts = omega (arith, lengths, sums) in
    omega arith

-- ---- a term at its place

-- where a term starts and ends
pub record HoldsAt (bytes : List ℕ) (ts : List (List ℕ)) (id from to : ℕ) : Type 0 where
  pub ordered : from ≤ to
  pub within : to ≤ length bytes
  pub is : slice_get ts id ≡ Some (take (to - from) (drop from bytes))

module _ (bytes ends : List ℕ) (ts : List (List ℕ)) (id from to : ℕ) (h : HoldsTerms bytes ends ts)
    (below : id < length ts) (starts : from ≡ get_or (0 ∷ ends) id 0) (stops : to ≡ get_or ends id to) where
  count : length ends ≡ length ts
  count = holds-count bytes ends ts h

  full : sum (differences (0 ∷ ends)) ≡ length bytes
  full = ap (λ es. sum (differences (0 ∷ es))) h.ends_are ∙ ap sum (sizes_are 0 ts) ∙ sym (ap length h.bytes_are ∙ length-concat ts)

  rises : is_never_falling (0 ∷ ends) ≡ true
  rises = ap (λ es. is_never_falling (0 ∷ es)) h.ends_are ∙ ends_rise 0 ts

  end : to ≡ get_or ends id 0
  end = stops ∙ get_or_default ends id to 0 (let c = count in omega arith)

  -- a term starts where the one before it ends, or at 0, and stops at its own end
  pub holds-at : HoldsAt bytes ts id from to
  holds-at =
      let within = ends-within 0 ends id rises (let c = count in omega arith) in
      let e = end in
      record {
        ordered = omega (arith, within.0);
        within = let f = full in omega (arith, within.1);
        is =
            ap (λ us. slice_get us id) (sym (held bytes ends ts h)) ∙ cut-at 0 ends bytes id rises (let c = count in omega arith)
            ∙ ap (λ n. Some (take (get_or ends id 0 - n) (drop n bytes))) (sym starts)
            ∙ ap (λ n. Some (take (n - from) (drop from bytes))) (sym e);
      }

-- ---- terms with their ids

-- one term alone
one_head : (p : TermRef) → HasHead p → All HasHead (p ∷ [])
one_head p head zero d below = head
one_head p head (suc k) d below = absurd (omega arith)

-- one term more
pub numbered-more : (ts : List (List ℕ)) (ps qs : List TermRef) (id : ℕ) (p : TermRef) → AreNumbered ts id ps
    → HasHead p → p.2 ≡ id → id < length ts → slice_get ts id ≡ Some p.1.now → qs ≡ ps ++ p ∷ []
    → AreNumbered ts (id + 1) qs
numbered-more ts ps qs id p a head at below found grows =
    let t = get_or ts id [] in
    let term : t ≡ p.1.now = same_Some t p.1.now (sym (slice_get-get_or ts id [] below) ∙ found) in
    let count : length (take id ts) ≡ id = let l = length-take id ts in omega arith in
    let next : take (id + 1) ts ≡ take id ts ++ p.1.now ∷ [] =
    ap (λ k. take k ts) (add-one id) ∙ take-suc ts id [] below ∙ ap (λ u. take id ts ++ u ∷ []) term in
    let pair : ◌≡◌ {A = OrdTerm} (p.2, p.1.now) (length (take id ts), p.1.now) = ap (λ k. (k, p.1.now)) (at ∙ sym count) in
    record {
      heads = subst (All HasHead) (sym grows) (All-append HasHead ps (p ∷ []) a.heads (one_head p head));
      terms =
          ap (map ord_term) grows ∙ map-append ord_term ps (p ∷ [])
          ∙ ap (λ qs. qs ++ ord_term p ∷ []) a.terms
          ∙ ap (λ (q : OrdTerm). numbered (take id ts) ++ q ∷ []) pair
          ∙ sym (ap numbered next ∙ numbered-push (take id ts) p.1.now);
    }
