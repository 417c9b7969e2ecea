-- What is written of terms in order is read back.
use Rattle.std.proofs.Common.{◌≡◌, ℕ, suc, ◌+◌, ◌-◌, ◌^◌, ◌<◌, ◌==◌, ◌&&◌, nat_le, true, List, [], ◌∷◌, ◌++◌, length, map, sum, sum_by, drop, get_or, flat_map, option_map, unwrap_or, Some, refl, sym, ap, ◌∙◌, inl, inr, arith}
use Rattle.std.specs.Int.{w32, to_le_bytes}
use Rattle.std.specs.List.{concat}
use Rattle.std.specs.Ordering.{nat_cmp, ordering_reverse}
use Rattle.std.specs.Cmp.Lexicographic.{slice_cmp}
use Rattle.std.proofs.lemmas.Bool.{and_from, le-leb, eq-eqb, cases_order}
use Rattle.std.proofs.lemmas.Cmp.{nat_list_cmp_total, tied_itself}
use Rattle.std.proofs.lemmas.List.{length-append, take_at, drop_at}
use Rattle.std.proofs.lemmas.List.Sums.{sum_by-cons}
use Rattle.col_common.specs.Reading.{only_if, le_number, items}
use Rattle.col_common.specs.Ascending.{is_ascending, is_never_falling, differences, AreBelow}
use Rattle.col_model.specs.Dictionary.{cut, terms}
use Rattle.col_model.specs.Limits.{dictionary_length}
use Rattle.col_model.proofs.ReadingLaws.{le_number-w32, items-flat_map}
use Rattle.col_terms.specs.TermTable.{terms_of, ends_from, dictionary_bytes}
use Rattle.col_terms.specs.Laws.{OrdinalsAreInOrder, DictionariesAreReadBack}
use Rattle.col_terms.proofs.TableLemmas.{table_counted, table_ascending}
use Rattle.col_terms.proofs.HeadLemmas.{cmp_same}
use Rattle.col_terms.proofs.SearchLemmas.{pairwise}
use Rattle.col_model.proofs.OrderingLaws.{nat_cmp-less, nat_cmp-greater}

-- ---- ends and lengths

-- there are as many ends as terms
pub length-ends_from : (start : ℕ) (ts : List (List ℕ)) → length (ends_from start ts) ≡ length ts
length-ends_from start [] = refl
length-ends_from start (t ∷ ts) = ap suc (length-ends_from (start + length t) ts)

-- the ends never fall, nor is the first below the start
pub ends_rise : (start : ℕ) (ts : List (List ℕ)) → is_never_falling (start ∷ ends_from start ts) ≡ true
ends_rise start [] = refl
ends_rise start (t ∷ ts) =
    and_from (nat_le start (start + length t))
    (is_never_falling ((start + length t) ∷ ends_from (start + length t) ts))
    (le-leb start (start + length t) (omega arith)) (ends_rise (start + length t) ts)

-- the same without the start
tail_rises : (start : ℕ) (ts : List (List ℕ)) → is_never_falling (ends_from start ts) ≡ true
tail_rises start [] = refl
tail_rises start (t ∷ ts) = ends_rise (start + length t) ts

-- the differences of the ends are the lengths of the terms
pub sizes_are : (start : ℕ) (ts : List (List ℕ)) → differences (start ∷ ends_from start ts) ≡ map length ts
sizes_are start [] = refl
sizes_are start (t ∷ ts) =
    let size : start + length t - start ≡ length t = omega arith in
    ap (λ n. n ∷ differences ((start + length t) ∷ ends_from (start + length t) ts)) size
    ∙ ap (λ ns. length t ∷ ns) (sizes_are (start + length t) ts)

ends_fit : (start : ℕ) (ts : List (List ℕ)) → start + sum_by length ts < 2 ^ 32 → AreBelow (2 ^ 32) (ends_from start ts)
ends_fit start [] h = tt
ends_fit start (t ∷ ts) h =
    let split = sum_by-cons length t ts in
    (omega arith, ends_fit (start + length t) ts (omega arith))

-- ---- the text

-- the text is as long as its terms together
pub length-concat : (ts : List (List ℕ)) → length (concat ts) ≡ sum (map length ts)
length-concat [] = refl
length-concat (t ∷ ts) =
    length-append t (concat ts) ∙ ap (λ n. length t + n) (length-concat ts)
    ∙ sym (sum_by-cons (λ n. n) (length t) (map length ts))

-- the text, cut by the lengths of its terms, gives these back
pub cut-concat : (ts : List (List ℕ)) → cut (map length ts) (concat ts) ≡ ts
unfolding cut
cut-concat [] = refl
cut-concat (t ∷ ts) =
    ap (λ u. u ∷ cut (map length ts) (drop (length t) (t ++ concat ts))) (take_at t (concat ts) (length t) refl)
    ∙ ap (λ r. t ∷ cut (map length ts) r) (drop_at t (concat ts) (length t) refl)
    ∙ ap (λ us. t ∷ us) (cut-concat ts)

-- ---- the whole

-- the numbers are read, and the text is behind them
ends_read : (ts : List (List ℕ)) → sum_by length ts < 2 ^ 32
    → items (le_number w32) (length ts) (flat_map (to_le_bytes w32) (ends_from 0 ts) ++ concat ts)
    ≡ Some (ends_from 0 ts, concat ts)
ends_read ts h =
    let ends = ends_from 0 ts in
    ap (λ n. items (le_number w32) n (flat_map (to_le_bytes w32) ends ++ concat ts)) (sym (length-ends_from 0 ts))
    ∙ items-flat_map (le_number w32) (to_le_bytes w32) (λ e. e < 2 ^ 32) (λ e rest k. le_number-w32 e rest k) ends
    (concat ts) (ends_fit 0 ts (omega arith))

-- they cut it into the terms
judged : (ts : List (List ℕ)) → is_ascending ts ≡ true
    → only_if (is_never_falling (ends_from 0 ts) && (sum (differences (0 ∷ ends_from 0 ts)) == length (concat ts))
    && is_ascending (cut (differences (0 ∷ ends_from 0 ts)) (concat ts)))
    (cut (differences (0 ∷ ends_from 0 ts)) (concat ts)) ≡ Some ts
judged ts up =
    let found : cut (differences (0 ∷ ends_from 0 ts)) (concat ts) ≡ ts = ap (λ ns. cut ns (concat ts)) (sizes_are 0 ts) ∙ cut-concat ts in
    let full : (sum (differences (0 ∷ ends_from 0 ts)) == length (concat ts)) ≡ true =
    eq-eqb (sum (differences (0 ∷ ends_from 0 ts))) (length (concat ts))
    (ap sum (sizes_are 0 ts) ∙ sym (length-concat ts)) in
    let tests = and_from
    (is_never_falling (ends_from 0 ts) && (sum (differences (0 ∷ ends_from 0 ts)) == length (concat ts)))
    (is_ascending (cut (differences (0 ∷ ends_from 0 ts)) (concat ts)))
    (and_from (is_never_falling (ends_from 0 ts)) (sum (differences (0 ∷ ends_from 0 ts)) == length (concat ts))
    (tail_rises 0 ts) full) (ap is_ascending found ∙ up) in
    ap (λ b. only_if b (cut (differences (0 ∷ ends_from 0 ts)) (concat ts))) tests ∙ ap Some found

pub terms-dictionary_bytes : (ts : List (List ℕ)) → is_ascending ts ≡ true → dictionary_length ts < 2 ^ 32
    → terms (dictionary_bytes ts) ≡ Some ts
unfolding terms dictionary_bytes
terms-dictionary_bytes ts up h =
    let few : length ts < 2 ^ 32 = omega arith in
    let short : sum_by length ts < 2 ^ 32 = omega arith in
    rw (le_number-w32 (length ts) (flat_map (to_le_bytes w32) (ends_from 0 ts) ++ concat ts) few, ends_read ts short) (judged ts up)

-- ascending terms are read back from their dictionary, where 32 bits count its bytes
pub read_back : DictionariesAreReadBack
read_back = terms-dictionary_bytes

-- ---- ordinals

-- the terms of a list that ascends compare as their places
compared : (ts : List (List ℕ)) (i j : ℕ) → is_ascending ts ≡ true → i < length ts → j < length ts
    → slice_cmp nat_cmp (get_or ts i []) (get_or ts j []) ≡ nat_cmp i j
compared ts i j up h k =
    elim (cases_order i j) [
      | inl same ↦ ap (λ n. slice_cmp nat_cmp (get_or ts n []) (get_or ts j [])) same
          ∙ tied_itself nat_list_cmp_total (get_or ts j []) ∙ sym (cmp_same j j refl)
          ∙ ap (λ n. nat_cmp n j) (sym same)
      | inr apart ↦ elim apart [
        | inl below ↦ pairwise ts i j up below k ∙ sym (nat_cmp-less i j below)
        | inr above ↦ nat_list_cmp_total.antisymm (get_or ts i []) (get_or ts j [])
            ∙ ap ordering_reverse (pairwise ts j i up above h) ∙ sym (nat_cmp-greater i j above)
      ]
    ]

-- ordinals compare as their terms do
pub ordinals_in_order : OrdinalsAreInOrder
unfolding terms_of
ordinals_in_order bytes ts e i j h k =
    let t = table_counted bytes (length ts) (sym (ap (option_map length) e)) in
    let same : terms_of bytes ≡ ts = ap (λ o. unwrap_or o []) e in
    compared ts i j (ap is_ascending (sym same) ∙ table_ascending bytes (length ts) t) h k
