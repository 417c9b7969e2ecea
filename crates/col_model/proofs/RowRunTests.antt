-- Whether numbers are runs of rows.
use Rattle.std.proofs.Common.{◌≡◌, ℕ, suc, ◌+◌, ◌<◌, ◌≤◌, ◌==◌, ◌&&◌, nat_lt, nat_le, Bool, true, false, List, [], ◌∷◌, length, zip, drop, refl, sym, ap, arith}
use Rattle.std.specs.List.{list_all}
use Rattle.std.proofs.lemmas.Bool.{true≢false, and_parts, and_from, ltb-true, leb-true, lt-ltb, le-leb, eq-eqb, eqb-true}
use Rattle.col_common.specs.Ascending.{is_rising, are_below}
use Rattle.col_model.specs.Index.{run_ends, are_runs}
use Rattle.col_model.proofs.TestLaws.{both-ways}

-- ---- runs, one behind another

-- from a row on, runs of which each ends before the next, and none behind the row count
abbrev pub runs_from : ℕ → ℕ → List ℕ → List ℕ → Bool
runs_from n next [] [] = true
runs_from n next [] (l ∷ ls) = false
runs_from n next (s ∷ ss) [] = false
runs_from n next (s ∷ ss) (l ∷ ls) = nat_le next s && nat_lt 0 l && nat_le (s + l) n && runs_from n (s + l + 1) ss ls

-- a run in front of others
pub record IsRunBefore (n next s l : ℕ) (ss ls : List ℕ) : Type 0 where
  pub from : next ≤ s
  pub some : 0 < l
  pub within : s + l ≤ n
  pub rest : runs_from n (s + l + 1) ss ls ≡ true

-- what the test says of the first run
pub first_run : (n next s l : ℕ) (ss ls : List ℕ) → runs_from n next (s ∷ ss) (l ∷ ls) ≡ true → IsRunBefore n next s l ss ls
first_run n next s l ss ls e =
    let whole = and_parts (nat_le next s && nat_lt 0 l && nat_le (s + l) n) (runs_from n (s + l + 1) ss ls) e in
    let ends = and_parts (nat_le next s && nat_lt 0 l) (nat_le (s + l) n) whole.0 in
    let starts = and_parts (nat_le next s) (nat_lt 0 l) ends.0 in
    record {
      from = leb-true next s starts.0;
      some = ltb-true 0 l starts.1;
      within = leb-true (s + l) n ends.1;
      rest = whole.1;
    }

-- and that is all that it says
pub run_in_front : (n next s l : ℕ) (ss ls : List ℕ) → IsRunBefore n next s l ss ls → runs_from n next (s ∷ ss) (l ∷ ls) ≡ true
run_in_front n next s l ss ls r =
    and_from (nat_le next s && nat_lt 0 l && nat_le (s + l) n) (runs_from n (s + l + 1) ss ls)
    (and_from (nat_le next s && nat_lt 0 l) (nat_le (s + l) n)
    (and_from (nat_le next s) (nat_lt 0 l) (le-leb next s r.from) (lt-ltb 0 l r.some)) (le-leb (s + l) n r.within))
    r.rest

-- ---- the same by the definition

-- its parts
pub record AreApart (n : ℕ) (starts lengths : List ℕ) : Type 0 where
  pub alike : length starts ≡ length lengths
  pub rising : is_rising starts ≡ true
  pub some : list_all (nat_lt 0) lengths ≡ true
  pub apart : list_all (λ p. nat_lt p.0 p.1) (zip (run_ends starts lengths) (drop 1 starts)) ≡ true
  pub within : are_below (n + 1) (run_ends starts lengths) ≡ true

-- lists that are runs of so many rows have equally many starts and lengths, and lie apart
pub are_runs-parts : (n : ℕ) (ss ls : List ℕ) → are_runs n ss ls ≡ true → AreApart n ss ls
are_runs-parts n ss ls e =
    let alike = length ss == length ls in
    let rising = is_rising ss in
    let some = list_all (nat_lt 0) ls in
    let apart = list_all (λ (p : ℕ × ℕ). nat_lt p.0 p.1) (zip (run_ends ss ls) (drop 1 ss)) in
    let a = and_parts (alike && rising && some && apart) (are_below (n + 1) (run_ends ss ls)) e in
    let b = and_parts (alike && rising && some) apart a.0 in
    let c = and_parts (alike && rising) some b.0 in
    let d = and_parts alike rising c.0 in
    record { alike = eqb-true _ _ d.0; rising = d.1; some = c.1; apart = b.1; within = a.1 }

pub are_runs-from : (n : ℕ) (ss ls : List ℕ) → AreApart n ss ls → are_runs n ss ls ≡ true
are_runs-from n ss ls r =
    let alike = length ss == length ls in
    let rising = is_rising ss in
    let some = list_all (nat_lt 0) ls in
    let apart = list_all (λ (p : ℕ × ℕ). nat_lt p.0 p.1) (zip (run_ends ss ls) (drop 1 ss)) in
    and_from (alike && rising && some && apart) (are_below (n + 1) (run_ends ss ls))
    (and_from (alike && rising && some) apart
    (and_from (alike && rising) some (and_from alike rising (eq-eqb _ _ r.alike) r.rising) r.some) r.apart)
    r.within

-- a first run in front of the next
runs_apart : (n next s l : ℕ) (ss ls : List ℕ) → next ≤ s → AreApart n (s ∷ ss) (l ∷ ls) → runs_from n next (s ∷ ss) (l ∷ ls) ≡ true
runs_apart n next s l [] [] h r =
    let some = ltb-true 0 l (and_parts (nat_lt 0 l) true r.some).0 in
    let within = ltb-true (s + l) (n + 1) (and_parts (nat_lt (s + l) (n + 1)) true r.within).0 in
    run_in_front n next s l [] [] (record { from = h; some = some; within = omega arith; rest = refl })
runs_apart n next s l [] (m ∷ ls) h r = absurd (omega (arith, r.alike))
runs_apart n next s l (t ∷ ss) [] h r = absurd (omega (arith, r.alike))
runs_apart n next s l (t ∷ ss) (m ∷ ls) h r =
    let some = and_parts (nat_lt 0 l) (list_all (nat_lt 0) (m ∷ ls)) r.some in
    let within = and_parts (nat_lt (s + l) (n + 1)) (are_below (n + 1) (run_ends (t ∷ ss) (m ∷ ls))) r.within in
    let apart = and_parts (nat_lt (s + l) t) (list_all (λ (p : ℕ × ℕ). nat_lt p.0 p.1) (zip (run_ends (t ∷ ss) (m ∷ ls)) ss)) r.apart in
    let here = ltb-true 0 l some.0 in
    let end = ltb-true (s + l) (n + 1) within.0 in
    let before = ltb-true (s + l) t apart.0 in
    let tail : AreApart n (t ∷ ss) (m ∷ ls) = record {
      alike = omega (arith, r.alike);
      rising = (and_parts (nat_lt s t) (is_rising (t ∷ ss)) r.rising).1;
      some = some.1;
      apart = apart.1;
      within = within.1;
    } in
    run_in_front n next s l (t ∷ ss) (m ∷ ls) (record {
      from = h;
      some = here;
      within = omega arith;
      rest = runs_apart n (s + l + 1) t m ss ls (omega arith) tail;
    })

runs_parted : (n next : ℕ) (ss ls : List ℕ) → runs_from n next ss ls ≡ true → AreApart n ss ls
runs_parted n next [] [] e = record { alike = refl; rising = refl; some = refl; apart = refl; within = refl }
runs_parted n next [] (l ∷ ls) e = absurd (true≢false (sym e))
runs_parted n next (s ∷ ss) [] e = absurd (true≢false (sym e))
runs_parted n next (s ∷ []) (l ∷ []) e =
    let r = first_run n next s l [] [] e in
    record {
      alike = refl;
      rising = refl;
      some = and_from (nat_lt 0 l) true (lt-ltb 0 l r.some) refl;
      apart = refl;
      within = and_from (nat_lt (s + l) (n + 1)) true (lt-ltb (s + l) (n + 1) (omega (arith, r.within))) refl;
    }
runs_parted n next (s ∷ []) (l ∷ m ∷ ls) e = absurd (true≢false (sym (first_run n next s l [] (m ∷ ls) e).rest))
runs_parted n next (s ∷ t ∷ ss) (l ∷ []) e = absurd (true≢false (sym (first_run n next s l (t ∷ ss) [] e).rest))
runs_parted n next (s ∷ t ∷ ss) (l ∷ m ∷ ls) e =
    let r = first_run n next s l (t ∷ ss) (m ∷ ls) e in
    let q = first_run n (s + l + 1) t m ss ls r.rest in
    let tail = runs_parted n (s + l + 1) (t ∷ ss) (m ∷ ls) r.rest in
    record {
      alike = ap suc tail.alike;
      rising = and_from (nat_lt s t) (is_rising (t ∷ ss)) (lt-ltb s t (omega (arith, q.from))) tail.rising;
      some = and_from (nat_lt 0 l) (list_all (nat_lt 0) (m ∷ ls)) (lt-ltb 0 l r.some) tail.some;
      apart =
          and_from (nat_lt (s + l) t) (list_all (λ (p : ℕ × ℕ). nat_lt p.0 p.1) (zip (run_ends (t ∷ ss) (m ∷ ls)) ss))
          (lt-ltb (s + l) t (omega (arith, q.from))) tail.apart;
      within =
          and_from (nat_lt (s + l) (n + 1)) (are_below (n + 1) (run_ends (t ∷ ss) (m ∷ ls)))
          (lt-ltb (s + l) (n + 1) (omega (arith, r.within))) tail.within;
    }

apart_runs : (n : ℕ) (ss ls : List ℕ) → AreApart n ss ls → runs_from n 0 ss ls ≡ true
apart_runs n [] [] r = refl
apart_runs n [] (l ∷ ls) r = absurd (omega (arith, r.alike))
apart_runs n (s ∷ ss) [] r = absurd (omega (arith, r.alike))
apart_runs n (s ∷ ss) (l ∷ ls) r = runs_apart n 0 s l ss ls (omega arith) r

-- runs of so many rows are runs from row 0 on
pub are_runs-first : (n : ℕ) (ss ls : List ℕ) → are_runs n ss ls ≡ runs_from n 0 ss ls
are_runs-first n ss ls =
    both-ways (are_runs n ss ls) (runs_from n 0 ss ls) (λ e. apart_runs n ss ls (are_runs-parts n ss ls e))
    (λ e. are_runs-from n ss ls (runs_parted n 0 ss ls e))
