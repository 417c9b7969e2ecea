-- The flags of the rows that are named.
use Rattle.std.proofs.Common.{◌≡◌, ◌≢◌, ◌+◌, ◌<◌, ◌∷◌, ◌++◌, ◌&&◌, ◌||◌, ◌⊎◌, inl, inr, [], ℕ, zero, suc, List, Bool, true, false, ap, sym, ◌∙◌, refl, arith, length, get_or, set, map, replicate, eqb, eq-eqb}
use Rattle.std.specs.List.{list_any, range_with_len}
use Rattle.std.proofs.lemmas.Bool.{cases_eq, ne_eqb}
use Rattle.std.proofs.lemmas.List.{ext_get_or, get_or-set_same, get_or-set_other}
use Rattle.std.proofs.Math.ListN.{length-set}
use Rattle.std.proofs.lemmas.List.FromFn.{length-map-range_with_len, get_or-map-range_with_len}
use Rattle.std.proofs.lemmas.List.Folds.{list_any-append}
use Rattle.col_order.specs.Orders.{named_rows}

-- a row after another, none is named
none_named : (a n : ℕ) → map (λ _. false) (range_with_len a n) ≡ replicate n false
none_named a zero = refl
none_named a (suc n) = ap (λ bs. false ∷ bs) (none_named (a + 1) n)

-- without addresses no row is named
pub named-none : (s n : ℕ) → named_rows [] s n ≡ replicate n false
unfolding named_rows
named-none s n = none_named 0 n

-- an address is that of a row
abbrev is_row : ℕ → ℕ → ℕ × ℕ → Bool
is_row s k a = eqb a.0 s && eqb a.1 k

-- each row has a flag
pub length-named : (xs : List (ℕ × ℕ)) (s n : ℕ) → length (named_rows xs s n) ≡ n
unfolding named_rows
length-named xs s n = length-map-range_with_len (λ k. list_any (is_row s k) xs) 0 n

-- the flag of a row
named-is : (xs : List (ℕ × ℕ)) (s n k : ℕ) → k < n → get_or (named_rows xs s n) k false ≡ list_any (is_row s k) xs
unfolding named_rows
named-is xs s n k h = get_or-map-range_with_len (λ k. list_any (is_row s k) xs) 0 n k k false h (omega arith)

-- one address more, at any row
row-more : (xs : List (ℕ × ℕ)) (s k segment row : ℕ)
    → list_any (is_row s k) (xs ++ ((segment, row) ∷ []))
    ≡ (list_any (is_row s k) xs || (eqb segment s && eqb row k))
row-more xs s k segment row = grind (arith, list_any-append (is_row s k) xs ((segment, row) ∷ []))

-- at its own row
row-same : (xs : List (ℕ × ℕ)) (s k : ℕ) → list_any (is_row s k) (xs ++ ((s, k) ∷ [])) ≡ true
row-same xs s k = grind (arith, row-more xs s k s k, eq-eqb s s refl, eq-eqb k k refl)

-- at another row of its segment
row-other : (xs : List (ℕ × ℕ)) (s k row : ℕ) → k ≢ row → list_any (is_row s k) (xs ++ ((s, row) ∷ [])) ≡ list_any (is_row s k) xs
row-other xs s k row other = grind (arith, row-more xs s k s row, ne_eqb row k)

-- at a row of another segment
row-apart : (xs : List (ℕ × ℕ)) (s k segment row : ℕ) → s ≢ segment
    → list_any (is_row s k) (xs ++ ((segment, row) ∷ [])) ≡ list_any (is_row s k) xs
row-apart xs s k segment row other = grind (arith, row-more xs s k segment row, ne_eqb segment s)

-- flags by another spelling
named_are : (xs : List (ℕ × ℕ)) (s n : ℕ) (flags : List Bool) → length flags ≡ n
    → ((k : ℕ) → k < n → list_any (is_row s k) xs ≡ get_or flags k false) → named_rows xs s n ≡ flags
named_are xs s n flags long each =
    ext_get_or false (named_rows xs s n) flags (length-named xs s n ∙ sym long)
    (λ k h. let within : k < n = omega (arith, length-named xs s n) in named-is xs s n k within ∙ each k within)

-- the flags with one set, row by row
set_row : (xs : List (ℕ × ℕ)) (s n row k : ℕ) → row < n → k < n → (k ≡ row) ⊎ (k ≢ row)
    → list_any (is_row s k) (xs ++ ((s, row) ∷ [])) ≡ get_or (set (named_rows xs s n) row true) k false
set_row xs s n row k inside within (inl same) =
    let put : get_or (set (named_rows xs s n) row true) row false ≡ true =
    get_or-set_same (named_rows xs s n) row true false (omega (arith, length-named xs s n)) in
    ap (λ i. list_any (is_row s k) (xs ++ ((s, i) ∷ []))) (sym same)
    ∙ (row-same xs s k ∙ (sym put ∙ ap (λ i. get_or (set (named_rows xs s n) row true) i false) (sym same)))
set_row xs s n row k inside within (inr other) =
    row-other xs s k row other ∙ sym (get_or-set_other (named_rows xs s n) row k true false other ∙ named-is xs s n k within)

-- one address more sets the flag of its row
pub named-more : (xs : List (ℕ × ℕ)) (s n row : ℕ) → row < n → named_rows (xs ++ ((s, row) ∷ [])) s n ≡ set (named_rows xs s n) row true
named-more xs s n row inside =
    named_are (xs ++ ((s, row) ∷ [])) s n (set (named_rows xs s n) row true) (length-set (named_rows xs s n) row true ∙ length-named xs s n)
    (λ k within. set_row xs s n row k inside within (cases_eq k row))

-- and none in another segment
pub named-apart : (xs : List (ℕ × ℕ)) (s n segment row : ℕ) → s ≢ segment → named_rows (xs ++ ((segment, row) ∷ [])) s n ≡ named_rows xs s n
named-apart xs s n segment row other =
    named_are (xs ++ ((segment, row) ∷ [])) s n (named_rows xs s n) (length-named xs s n)
    (λ k within. row-apart xs s k segment row other ∙ sym (named-is xs s n k within))
