-- The rows that have a value.
use Rattle.std.proofs.Common.{◌≡◌, ℕ, suc, ◌+◌, ◌<◌, ◌==◌, not, cond, List, [], ◌∷◌, ◌++◌, length, filter, get_or, refl, sym, ap, ◌∙◌, arith}
use Rattle.std.specs.List.{AllByRecursion, range_with_len}
use Rattle.std.proofs.lemmas.Bool.{ne_eqb}
use Rattle.std.proofs.lemmas.List.{get_or_at, append_assoc, length_push}
use Rattle.col_model.specs.Positions.{rows_with_value}
use Rattle.col_index.proofs.SpreadLaws.{IsSpread, ended, without, valued}

-- from a row on, the rows whose count isn't 0
abbrev pub rows_from : ℕ → List ℕ → List ℕ
rows_from a [] = []
rows_from a (c ∷ cs) = let later = rows_from (suc a) cs in cond (not (c == 0)) (a ∷ later) later

rows_behind : (front cs : List ℕ) (a : ℕ) → length front ≡ a
    → filter (λ row. not (get_or (front ++ cs) row 0 == 0)) (range_with_len a (length cs)) ≡ rows_from a cs
rows_behind front [] a e = refl
rows_behind front (c ∷ cs) a e =
    let here = get_or_at front c cs 0 a e in
    let more = filter (λ row. not (get_or (front ++ c ∷ cs) row 0 == 0)) (range_with_len (a + 1) (length cs)) in
    let rest : more ≡ rows_from (suc a) cs =
    ap (λ all. filter (λ row. not (get_or all row 0 == 0)) (range_with_len (a + 1) (length cs))) (sym (append_assoc front (c ∷ []) cs))
    ∙ ap (λ b. filter (λ row. not (get_or ((front ++ c ∷ []) ++ cs) row 0 == 0)) (range_with_len b (length cs))) (omega arith)
    ∙ rows_behind (front ++ c ∷ []) cs (suc a) (omega (arith, length_push front c)) in
    ap (λ n. cond (not (n == 0)) (a ∷ more) more) here ∙ ap (λ later. cond (not (c == 0)) (a ∷ later) later) rest

-- the rows with a value are those from row 0 on
pub rows_with_value-from : (cs : List ℕ) → rows_with_value cs ≡ rows_from 0 cs
rows_with_value-from cs = rows_behind [] cs 0 refl

-- where each of the rows has a value, these are the rows
pub spread_rows : {a : ℕ} {rows values cs : List ℕ} → AllByRecursion (λ v. 0 < v) values → IsSpread a rows values cs → rows_from a cs ≡ rows
spread_rows h ended = refl
spread_rows h (without s) = spread_rows h s
spread_rows h (valued {a = a} {v = v} {cs = cs} s) =
    ap (λ b. cond (not b) (a ∷ rows_from (suc a) cs) (rows_from (suc a) cs)) (ne_eqb v 0 (λ e. omega (arith, h.0)))
    ∙ ap (λ more. a ∷ more) (spread_rows h.1 s)
