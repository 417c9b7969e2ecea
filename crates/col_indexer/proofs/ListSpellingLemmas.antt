-- Lists of an index are read back.
use Rattle.std.proofs.Common.{◌≡◌, ℕ, ◌+◌, ◌^◌, ◌<◌, ◌≤◌, nat_lt, true, List, [], ◌∷◌, length, Some, ap, ◌∙◌, arith}
use Rattle.std.specs.List.{list_all}
use Rattle.std.proofs.lemmas.Bool.{and_parts, ltb-true}
use Rattle.col_common.specs.Ascending.{is_rising, AreBelow}
use Rattle.col_model.specs.Index.{RowSet}
use Rattle.col_model.specs.U64List.{values64}
use Rattle.col_model.proofs.ChosenLaws.{values64-chosen}
use Rattle.col_index.specs.Sets.{AreRows}
use Rattle.col_indexer.specs.Spelling.{index_codecs, index_list_bytes}
use Rattle.col_indexer.proofs.ByteCountLemmas.{index_codec, list_bytes-picked}

-- numbers below one are below a greater one
pub all_below : (n m : ℕ) (xs : List ℕ) → n ≤ m → list_all (λ x. nat_lt x n) xs ≡ true → AreBelow m xs
all_below n m [] h e = tt
all_below n m (x ∷ xs) h e =
    let parts = and_parts (nat_lt x n) (list_all (λ x. nat_lt x n) xs) e in
    let below = ltb-true x n parts.0 in
    (omega arith, all_below n m xs h parts.1)

-- rows that rise below a count are at most as many
rise_within : (n x : ℕ) (xs : List ℕ) → is_rising (x ∷ xs) ≡ true → list_all (λ r. nat_lt r n) (x ∷ xs) ≡ true → x + length (x ∷ xs) ≤ n
rise_within n x [] e a = let below = ltb-true x n (and_parts (nat_lt x n) true a).0 in omega arith
rise_within n x (y ∷ ys) e a =
    let up = and_parts (nat_lt x y) (is_rising (y ∷ ys)) e in
    let next = ltb-true x y up.0 in
    let rest = rise_within n y ys up.1 (and_parts (nat_lt x n) (list_all (λ r. nat_lt r n) (y ∷ ys)) a).1 in
    omega arith

few_rows : (n : ℕ) (xs : List ℕ) → is_rising xs ≡ true → list_all (λ r. nat_lt r n) xs ≡ true → length xs ≤ n
few_rows n [] e a = omega arith
few_rows n (x ∷ xs) e a = omega (arith, rise_within n x xs e a)

-- there are at most as many rows with a value as rows
pub rows-few : (s : RowSet) → AreRows s → length s.rows ≤ s.num_rows
rows-few s a =
    let parts = and_parts (is_rising s.rows) (list_all (λ r. nat_lt r s.num_rows) s.rows) a in few_rows s.num_rows
    s.rows parts.0 parts.1

-- a list of an index is read back
pub list-back : (xs : List ℕ) → AreBelow (2 ^ 64) xs → length xs < 2 ^ 32 → values64 (index_list_bytes xs) ≡ Some xs
list-back xs all few =
    let p = index_codec xs in ap values64 (list_bytes-picked xs p.0 p.1) ∙ values64-chosen index_codecs xs p.0 all
    few p.1
