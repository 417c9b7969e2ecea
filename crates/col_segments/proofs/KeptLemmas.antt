-- Tables that have a row alive.
use Rattle.std.proofs.Common.{◌≡◌, ℕ, suc, ◌+◌, ◌<◌, ◌≤◌, ◌==◌, not, Bool, true, false, cond, List, [], ◌∷◌, ◌++◌, length, take, get_or, map, flat_map, refl, sym, ap, ◌∙◌, subst, arith, append_assoc, length-append}
use Rattle.std.specs.List.{enumerate_from}
use Rattle.std.proofs.Math.ListN.{set}
use Rattle.std.proofs.lemmas.List.{take_more, take_more_set, append-nil}
use Rattle.std.proofs.lemmas.List.Sums.{sum_by-cons, sum_by-take-le}
use Rattle.col_model.proofs.SeenLaws.{not-zero}
use Rattle.col_segments.specs.Live.{with_alive, addresses}
use Rattle.col_segments.specs.Segments.{HeldTable, alive_count}

with_alive-append : (xs ys : List HeldTable) → with_alive (xs ++ ys) ≡ with_alive xs ++ with_alive ys
with_alive-append [] ys = refl
with_alive-append (x ∷ xs) ys = by (not (length x.alive == 0)) (with_alive-append xs ys)
  where
    by : (b : Bool) → with_alive (xs ++ ys) ≡ with_alive xs ++ with_alive ys
        → cond b (x ∷ with_alive (xs ++ ys)) (with_alive (xs ++ ys)) ≡ cond b (x ∷ with_alive xs) (with_alive xs) ++ with_alive ys
    by true later = ap (λ hs. x ∷ hs) later
    by false later = later

-- whether a table has a row alive
pub some-alive : (h : HeldTable) → 0 < length h.alive → not (length h.alive == 0) ≡ true
some-alive h some = by h.alive some
  where
    by : (alive : List ℕ) → 0 < length alive → not (length alive == 0) ≡ true
    by [] some = absurd (omega arith)
    by (r ∷ alive) some = ap not (not-zero (length alive))

pub none-alive : (h : HeldTable) → length h.alive ≤ 0 → not (length h.alive == 0) ≡ false
none-alive h none = by h.alive none
  where
    by : (alive : List ℕ) → length alive ≤ 0 → not (length alive == 0) ≡ false
    by [] none = refl
    by (r ∷ alive) none = absurd (omega arith)

with_alive-one : (h : HeldTable) → 0 < length h.alive → with_alive (h ∷ []) ≡ h ∷ []
with_alive-one h some = ap (λ b. cond b (h ∷ []) []) (some-alive h some)

with_alive-none : (h : HeldTable) → length h.alive ≤ 0 → with_alive (h ∷ []) ≡ []
with_alive-none h none = ap (λ b. cond b (h ∷ []) []) (none-alive h none)

-- a table behind others
pub with_alive-more : (hs : List HeldTable) (h : HeldTable) → 0 < length h.alive → with_alive (hs ++ h ∷ []) ≡ with_alive hs ++ h ∷ []
with_alive-more hs h some = with_alive-append hs (h ∷ []) ∙ ap (λ ys. with_alive hs ++ ys) (with_alive-one h some)

pub with_alive-same : (hs : List HeldTable) (h : HeldTable) → length h.alive ≤ 0 → with_alive (hs ++ h ∷ []) ≡ with_alive hs
with_alive-same hs h none =
    with_alive-append hs (h ∷ []) ∙ ap (λ ys. with_alive hs ++ ys) (with_alive-none h none) ∙ append-nil (with_alive hs)

-- the tables up to a place, and the one there
module _ (hs : List HeldTable) (i : ℕ) (d : HeldTable) (within : i < length hs) where
  pub one-more : 0 < length (get_or hs i d).alive → with_alive (take (i + 1) hs) ≡ with_alive (take i hs) ++ get_or hs i d ∷ []
  one-more some = ap with_alive (take_more hs i d within) ∙ with_alive-more (take i hs) (get_or hs i d) some

  pub count-more : 0 < length (get_or hs i d).alive → length (with_alive (take (i + 1) hs)) ≡ length (with_alive (take i hs)) + 1
  count-more some = ap length (one-more some) ∙ length-append (with_alive (take i hs)) (get_or hs i d ∷ [])

  pub none-more : length (get_or hs i d).alive ≤ 0 → with_alive (take (i + 1) hs) ≡ with_alive (take i hs)
  none-more none = ap with_alive (take_more hs i d within) ∙ with_alive-same (take i hs) (get_or hs i d) none

-- the same, where another table stands there now
module _ (hs : List HeldTable) (i : ℕ) (g : HeldTable) (within : i < length hs) where
  pub one-set : 0 < length g.alive → length (with_alive (take (i + 1) (set hs i g))) ≡ length (with_alive (take i hs)) + 1
  one-set some =
      ap (λ gs. length (with_alive gs)) (take_more_set hs i g within) ∙ ap length (with_alive-more (take i hs) g some)
      ∙ length-append (with_alive (take i hs)) (g ∷ [])

  pub none-set : length g.alive ≤ 0 → length (with_alive (take (i + 1) (set hs i g))) ≡ length (with_alive (take i hs))
  none-set none = ap (λ gs. length (with_alive gs)) (take_more_set hs i g within) ∙ ap length (with_alive-same (take i hs) g none)

with_alive-fewer : (hs : List HeldTable) → length (with_alive hs) ≤ alive_count hs
with_alive-fewer [] = omega arith
with_alive-fewer (h ∷ hs) = by h.alive (with_alive-fewer hs)
  where
    own : List ℕ → HeldTable
    own alive = record { table = h.table; alive = alive }

    by : (alive : List ℕ) → length (with_alive hs) ≤ alive_count hs
        → length (cond (not (length alive == 0)) (own alive ∷ with_alive hs) (with_alive hs)) ≤ alive_count (own alive ∷ hs)
    by [] le = omega (arith, le, sum_by-cons (λ (g : HeldTable). length g.alive) (own []) hs)
    by (r ∷ alive) le =
        subst (λ b. length (cond (not b) (own (r ∷ alive) ∷ with_alive hs) (with_alive hs)) ≤ alive_count (own (r ∷ alive) ∷ hs))
        (sym (not-zero (length alive))) (omega (arith, le, sum_by-cons (λ (g : HeldTable). length g.alive) (own (r ∷ alive)) hs))

-- there are as many tables at most as rows that are alive
pub few-tables : (hs : List HeldTable) (i : ℕ) → length (with_alive (take i hs)) ≤ alive_count hs
few-tables hs i = omega (arith, with_alive-fewer (take i hs), sum_by-take-le (λ (h : HeldTable). length h.alive) hs i)

-- ---- addresses

abbrev from_on : ℕ → List HeldTable → List (ℕ × ℕ)
from_on k hs = flat_map (λ p. map (λ r. (p.0, r)) p.1.alive) (enumerate_from k hs)

-- the addresses of one table more
addresses-on : (k : ℕ) (hs : List HeldTable) (h : HeldTable)
    → from_on k (hs ++ h ∷ []) ≡ from_on k hs ++ map (λ r. (k + length hs, r)) h.alive
addresses-on k [] h = append-nil (map (λ r. (k, r)) h.alive) ∙ ap (λ n. map (λ r. (n, r)) h.alive) (none_more k)
  where
    none_more : (n : ℕ) → n ≡ n + 0
    none_more n = omega arith
addresses-on k (g ∷ hs) h =
    ap (λ rest. map (λ r. (k, r)) g.alive ++ rest)
    (addresses-on (k + 1) hs h ∙ ap (λ n. from_on (k + 1) hs ++ map (λ r. (n, r)) h.alive) (one_more k (length hs)))
    ∙ sym (append_assoc (map (λ r. (k, r)) g.alive) (from_on (k + 1) hs) (map (λ r. (k + suc (length hs), r)) h.alive))
  where
    one_more : (n m : ℕ) → n + 1 + m ≡ n + suc m
    one_more n m = omega arith

-- those of the tables up to a place, and of the one there
pub addresses-more : (hs : List HeldTable) (i : ℕ) (d : HeldTable) → i < length hs → 0 < length (get_or hs i d).alive
    → addresses (with_alive (take (i + 1) hs))
    ≡ addresses (with_alive (take i hs)) ++ map (λ r. (length (with_alive (take i hs)), r)) (get_or hs i d).alive
addresses-more hs i d within some =
    ap addresses (one-more hs i d within some) ∙ addresses-on 0 (with_alive (take i hs)) (get_or hs i d)
    ∙ ap (λ n. addresses (with_alive (take i hs)) ++ map (λ r. (n, r)) (get_or hs i d).alive) (zero_more (length (with_alive (take i hs))))
  where
    zero_more : (n : ℕ) → 0 + n ≡ n
    zero_more n = omega arith
