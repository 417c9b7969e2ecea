-- Columns of terms that are taken segment by segment.
use Rattle.std.proofs.Common.{◌≡◌, ◌<◌, ◌≤◌, ℕ, suc, ◌+◌, List, [], ◌∷◌, ◌++◌, length, get_or, drop, add-one, append-nil, append_assoc, sym, ◌∙◌, ap, subst, arith}
use Rattle.std.specs.Prelude.{Option, slice_index_or}
use Rattle.std.proofs.lemmas.Grind.{common_steps}
use Rattle.std.proofs.Math.ListN.{set, drop_of_length-le}
use Rattle.std.proofs.Math.Seq.{drop-cons}
use Rattle.std.specs.declared.vec.Vec.{Vec}
use Rattle.std.specs.declared.alloc.Global.{Global}
use Rattle.col_numbers.specs.NumValues.{num_values_of}
use Rattle.col_numbers.specs.declared.num_values.NumValues.{NumValues}
use Rattle.col_column.specs.Columns.{Seen, rows_of_values}
use Rattle.col_text.specs.Texts.{Texts}
use Rattle.col_dynamic.specs.declared.dynamic_column.DynamicColumn.{DynamicColumn}
use Rattle.col_merge_texts.specs.Items.{lists_of}
use Rattle.col_sort.specs.Firsts.{first_keys}
use Rattle.col_sort_rows.specs.Keys.{SplitRows, added, rows_from, rows_of_all}
use Rattle.col_sort.specs.Texts.{IsTextOf, AreTexts, term_keys, all_term_keys}
use Rattle.col_sort.proofs.FirstLemmas.{next-at}
use Rattle.col_sort_rows.proofs.AddedLemmas.{added-segment, added-all}

-- where what is left is alike, the first item is, and what is behind it
first-behind : {A : Type 0} (xs ys : List A) (j : ℕ) (d : A) → drop j xs ≡ drop j ys → j < length xs → j < length ys
    → (get_or xs j d ≡ get_or ys j d) × (drop (j + 1) xs ≡ drop (j + 1) ys)
first-behind xs ys j d e h k =
    let same = sym (drop-cons xs j d h) ∙ e ∙ drop-cons ys j d k in
    let first : get_or xs j d ≡ get_or ys j d = cc in
    let rest : drop (suc j) xs ≡ drop (suc j) ys = cc in
    (first, ap (λ m. drop m xs) (add-one j) ∙ rest ∙ sym (ap (λ m. drop m ys) (add-one j)))

-- one more column of terms, before later ones
pub texts-more : (counts : List ℕ) (olds : List (Option DynamicColumn)) (texts : List Texts) (j : ℕ) (o : Option DynamicColumn)
    (t : Texts) (now : List Texts) → length olds ≡ length counts → j < length olds → o ≡ get_or olds j o
    → IsTextOf (get_or counts j 0) o t → now ≡ texts ++ t ∷ []
    → ((later : List Texts) → AreTexts (drop j counts) (drop j olds) later → AreTexts counts olds (texts ++ later))
    → (later : List Texts) → AreTexts (drop (j + 1) counts) (drop (j + 1) olds) later → AreTexts counts olds (now ++ later)
unfolding AreTexts
texts-more counts olds texts j o t now long h is text e all later are =
    let ns : drop j counts ≡ get_or counts j 0 ∷ drop (j + 1) counts =
    drop-cons counts j 0 (omega (arith, long)) ∙ (λ i. get_or counts j 0 ∷ drop (sym (add-one j) i) counts) in
    subst (AreTexts counts olds) (sym (ap (λ r. r ++ later) e ∙ append_assoc texts (t ∷ []) later))
    (all (t ∷ later) (subst (λ ns. AreTexts ns (drop j olds) (t ∷ later)) (sym ns)
    (subst (λ os. AreTexts (get_or counts j 0 ∷ drop (j + 1) counts) os (t ∷ later)) (sym (next-at olds j o h is)) (text, are))))

-- all columns of terms
pub texts-end : (counts : List ℕ) (olds : List (Option DynamicColumn)) (texts : List Texts) (j : ℕ)
    → length olds ≡ length counts → length olds ≤ j
    → ((later : List Texts) → AreTexts (drop j counts) (drop j olds) later → AreTexts counts olds (texts ++ later))
    → AreTexts counts olds texts
unfolding AreTexts
texts-end counts olds texts j long h all =
    subst (AreTexts counts olds) (append-nil texts)
    (all [] (subst (λ ns. AreTexts ns (drop j olds) []) (sym (drop_of_length-le counts (omega (arith, long))))
    (subst (λ os. AreTexts [] os []) (sym (drop_of_length-le olds h)) tt)))

-- ---- rows of segments

lists-behind : (vs : List (Vec ℕ Global)) (j : ℕ) (v : Vec ℕ Global) → j < length vs → v ≡ get_or vs j v
    → lists_of (drop j vs) ≡ v.items ∷ lists_of (drop (j + 1) vs)
lists-behind vs j v h e = ap lists_of (next-at vs j v h e)

-- the segment at a place, of those that are left
pub terms-next : (ts : List Texts) (vs : List (Vec ℕ Global)) (j : ℕ) (t : Texts) (v : Vec ℕ Global) (now next all : SplitRows ℕ)
    → length ts ≡ length vs → j < length ts → t ≡ get_or ts j t → v ≡ get_or vs j v
    → added now (rows_of_all j (all_term_keys (drop j ts) (lists_of (drop j vs)))) ≡ all
    → next ≡ added now (rows_from j 0 (term_keys t v.items))
    → added next (rows_of_all (j + 1) (all_term_keys (drop (j + 1) ts) (lists_of (drop (j + 1) vs)))) ≡ all
unfolding all_term_keys
terms-next ts vs j t v now next all long h is this e f =
    added-segment now next all j (term_keys t v.items) (all_term_keys (drop (j + 1) ts) (lists_of (drop (j + 1) vs)))
    (ap (λ kss. added now (rows_of_all j kss)) (sym (λ i. all_term_keys (next-at ts j t h is i)
    (lists-behind vs j v (omega (arith, long)) this i))) ∙ e) f

-- none is left
pub terms-end : (ts : List Texts) (vs : List (Vec ℕ Global)) (j : ℕ) (now all : SplitRows ℕ) → length ts ≤ j
    → added now (rows_of_all j (all_term_keys (drop j ts) (lists_of (drop j vs)))) ≡ all → now ≡ all
unfolding all_term_keys
terms-end ts vs j now all h e =
    added-all now all j (ap (λ ts. added now (rows_of_all j (all_term_keys ts (lists_of (drop j vs))))) (sym (drop_of_length-le ts h)) ∙ e)

-- the keys that are read of a segment are those of its terms
pub keys-read : (now next : SplitRows ℕ) (j : ℕ) (t : Texts) (ords : Seen (NumValues ℕ)) (ps read : List ℕ) → ords ≡ t.ords
    → read ≡ ps
    → next ≡ added now (rows_from j 0 (first_keys (λ ord. slice_index_or read ord 0) (rows_of_values num_values_of ords)))
    → next ≡ added now (rows_from j 0 (term_keys t ps))
keys-read now next j t ords ps read e f g =
    g ∙ (λ i. added now (rows_from j 0 (first_keys (λ ord. slice_index_or (f i) ord 0) (rows_of_values num_values_of (e i)))))

-- ---- columns that are taken out

-- those behind are as they were
pub taken-behind : (mids olds : List (Option DynamicColumn)) (j : ℕ) (o : Option DynamicColumn) → drop j mids ≡ drop j olds
    → length mids ≡ length olds → j < length olds → drop (j + 1) (set mids j o) ≡ drop (j + 1) olds
taken-behind mids olds j o e long h =
    behind mids j o ∙ (first-behind mids olds j o e (omega (arith, long)) h).1
  where
    behind : (xs : List (Option DynamicColumn)) (j : ℕ) (o : Option DynamicColumn) → drop (j + 1) (set xs j o) ≡ drop (j + 1) xs
    behind xs j o = let less : j < j + 1 = omega arith in grind (arith, common_steps)

-- the one at the place too
pub taken-is : (mids olds : List (Option DynamicColumn)) (j : ℕ) (o : Option DynamicColumn) → drop j mids ≡ drop j olds
    → length mids ≡ length olds → j < length olds → o ≡ get_or mids j o → o ≡ get_or olds j o
taken-is mids olds j o e long h is = is ∙ (first-behind mids olds j o e (omega (arith, long)) h).0

-- the terms of what was taken
pub taken-text : (n : ℕ) (o taken : Option DynamicColumn) (t : Texts) → taken ≡ o → IsTextOf n taken t → IsTextOf n o t
taken-text n o taken t e h = subst (λ o. IsTextOf n o t) e h
