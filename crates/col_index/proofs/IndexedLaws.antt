-- Indexes of counts: any counts are those of their rows with a value and of where these start.
use Rattle.std.proofs.Common.{◌≡◌, ℕ, zero, suc, ◌+◌, ◌<◌, ◌≤◌, ◌^◌, ◌==◌, ◌&&◌, not, nat_lt, nat_le, true, cond, List, [], ◌∷◌, length, filter, replicate, refl, sym, ap, ◌∙◌, subst, arith}
use Rattle.std.specs.List.{AllByRecursion, sum, list_all}
use Rattle.std.proofs.lemmas.Bool.{lt-ltb, eq-eqb, ne_eqb, leb-true, and_parts, and_from}
use Rattle.std.proofs.lemmas.List.Sums.{sum_by-cons}
use Rattle.col_common.specs.Ascending.{is_rising, differences}
use Rattle.col_model.specs.Index.{RowSet, RowOffsets, set_counts, offset_counts, are_offsets}
use Rattle.col_model.specs.Positions.{rows_with_value, starts_after, starts_of}
use Rattle.col_index.specs.Offsets.{AreOffsets}
use Rattle.col_index.specs.Sets.{AreRows}
use Rattle.col_index.proofs.SpreadLaws.{IsSpread, ended, without, valued, spread_from, spread_is, spread_starts, spread_sum, spread_length}
use Rattle.col_index.proofs.RowsLaws.{rows_from, rows_with_value-from}

-- ---- rows rise and stay below the count

rises_behind : (x : ℕ) (xs : List ℕ) → AllByRecursion (λ y. suc x ≤ y) xs → is_rising xs ≡ true → is_rising (x ∷ xs) ≡ true
rises_behind x [] h e = refl
rises_behind x (y ∷ ys) h e = and_from (nat_lt x y) (is_rising (y ∷ ys)) (lt-ltb x y h.0) e

pub spread_rises : {a : ℕ} {rows values cs : List ℕ} → IsSpread a rows values cs → is_rising rows ≡ true
spread_rises ended = refl
spread_rises (without s) = spread_rises s
spread_rises (valued {a = a} {rows = rows} s) = rises_behind a rows (spread_from (suc a) (omega arith) s) (spread_rises s)

pub spread_below : {a : ℕ} {rows values cs : List ℕ} (m : ℕ) → a + length cs ≤ m → IsSpread a rows values cs
    → list_all (λ r. nat_lt r m) rows ≡ true
spread_below m h ended = refl
spread_below m h (without s) = spread_below m (omega arith) s
spread_below m h (valued {a = a} {rows = rows} s) =
    and_from (nat_lt a m) (list_all (λ r. nat_lt r m) rows) (lt-ltb a m (omega arith))
    (spread_below m (omega arith) s)

-- ---- the numbers of values that aren't 0

-- the counts that are not 0
abbrev pub some_counts : List ℕ → List ℕ
some_counts cs = filter (λ c. not (c == 0)) cs

-- any counts are those of their rows
pub counts_spread : (a : ℕ) (cs : List ℕ) → IsSpread a (rows_from a cs) (some_counts cs) cs
counts_spread a [] = ended
counts_spread a (zero ∷ cs) = without (counts_spread (suc a) cs)
counts_spread a (suc c ∷ cs) =
    subst (λ b. IsSpread a (cond (not b) (a ∷ rows_from (suc a) cs) (rows_from (suc a) cs))
    (cond (not b) (suc c ∷ some_counts cs) (some_counts cs)) (suc c ∷ cs))
    (sym (ne_eqb (suc c) 0 (λ e. omega arith)))
    (valued (counts_spread (suc a) cs))

some_counts-positive : (cs : List ℕ) → AllByRecursion (λ v. 0 < v) (some_counts cs)
some_counts-positive [] = tt
some_counts-positive (zero ∷ cs) = some_counts-positive cs
some_counts-positive (suc c ∷ cs) =
    subst (λ b. AllByRecursion (λ v. 0 < v) (cond (not b) (suc c ∷ some_counts cs) (some_counts cs)))
    (sym (ne_eqb (suc c) 0 (λ e. omega arith)))
    (omega arith, some_counts-positive cs)

some_counts-ones : (cs : List ℕ) → list_all (λ c. nat_le c 1) cs ≡ true → some_counts cs ≡ replicate (length (some_counts cs)) 1
some_counts-ones [] e = refl
some_counts-ones (zero ∷ cs) e = some_counts-ones cs (and_parts (nat_le 0 1) (list_all (λ c. nat_le c 1) cs) e).1
some_counts-ones (suc c ∷ cs) e =
    let parts = and_parts (nat_le (suc c) 1) (list_all (λ d. nat_le d 1) cs) e in
    let one : suc c ≡ 1 = omega (arith, leb-true (suc c) 1 parts.0) in
    let kept : some_counts (suc c ∷ cs) ≡ suc c ∷ some_counts cs =
    ap (λ b. cond (not b) (suc c ∷ some_counts cs) (some_counts cs)) (ne_eqb (suc c) 0 (λ f. omega arith)) in
    kept
    ∙ ap (λ n. n ∷ some_counts cs) one
    ∙ ap (λ vs. 1 ∷ vs) (some_counts-ones cs parts.1)
    ∙ ap (λ vs. replicate (length vs) 1) (sym kept)

-- ---- where values start

-- the starts behind the first of values that aren't 0, all of which lie below a bound
record Runs (before bound : ℕ) (values : List ℕ) : Type 0 where
  more : List ℕ
  starts : starts_after before values ≡ before ∷ more
  apart : differences (before ∷ more) ≡ values
  rises : is_rising (before ∷ more) ≡ true
  many : length more ≡ length values
  small : list_all (λ s. nat_lt s bound) (before ∷ more) ≡ true

runs : (before bound : ℕ) (values : List ℕ) → AllByRecursion (λ v. 0 < v) values → before + sum values < bound → Runs before bound values
runs before bound [] a h =
    record {
      more = [];
      starts = refl;
      apart = refl;
      rises = refl;
      many = refl;
      small = and_from (nat_lt before bound) true (lt-ltb before bound (omega arith)) refl;
    }
runs before bound (v ∷ values) a h =
    let total = sum_by-cons (λ x. x) v values in
    let rest = runs (before + v) bound values a.1 (omega arith) in
    record {
      more = (before + v) ∷ rest.more;
      starts =
          ap (λ b. cond b (starts_after (before + v) values) (before ∷ starts_after (before + v) values))
          (ne_eqb v 0 (λ e. omega (arith, a.0))) ∙ ap (λ ss. before ∷ ss) rest.starts;
      apart = ap (λ n. n ∷ differences ((before + v) ∷ rest.more)) (omega arith) ∙ ap (λ vs. v ∷ vs) rest.apart;
      rises =
          and_from (nat_lt before (before + v)) (is_rising ((before + v) ∷ rest.more))
          (lt-ltb before (before + v) (omega (arith, a.0))) rest.rises;
      many = ap suc rest.many;
      small =
          and_from (nat_lt before bound) (list_all (λ s. nat_lt s bound) ((before + v) ∷ rest.more))
          (lt-ltb before bound (omega arith)) rest.small;
    }

-- ---- indexes of counts

-- the rows with a value of counts
abbrev pub set_of_counts : List ℕ → RowSet
set_of_counts cs = record { num_rows = length cs; rows = rows_with_value cs }

-- the same with where these start
abbrev pub offsets_of_counts : List ℕ → RowOffsets
offsets_of_counts cs = record { set = set_of_counts cs; starts = starts_of cs }

spread_of_counts : (cs : List ℕ) → IsSpread 0 (rows_with_value cs) (some_counts cs) cs
spread_of_counts cs = subst (λ rows. IsSpread 0 rows (some_counts cs) cs) (sym (rows_with_value-from cs)) (counts_spread 0 cs)

-- the rows of any counts that have a value rise and stay below their count
pub counts-are_rows : (cs : List ℕ) → AreRows (set_of_counts cs)
counts-are_rows cs =
    let s = spread_of_counts cs in
    and_from (is_rising (rows_with_value cs)) (list_all (λ r. nat_lt r (length cs)) (rows_with_value cs))
    (spread_rises s) (spread_below (length cs) (omega arith) s)

-- where each count is at most 1, the rows tell all
pub counts-are_set_counts : (cs : List ℕ) → list_all (λ c. nat_le c 1) cs ≡ true → set_counts (set_of_counts cs) ≡ cs
counts-are_set_counts cs e =
    let s = spread_of_counts cs in
    let ones : some_counts cs ≡ replicate (length (rows_with_value cs)) 1 =
    some_counts-ones cs e ∙ ap (λ n. replicate n 1) (sym (spread_length s)) in
    spread_is (length cs) (rows_with_value cs) (replicate (length (rows_with_value cs)) 1) cs refl
    (subst (λ vs. IsSpread 0 (rows_with_value cs) vs cs) ones s)

count_runs : (cs : List ℕ) (bound : ℕ) → sum cs < bound → Runs 0 bound (some_counts cs)
count_runs cs bound h = runs 0 bound (some_counts cs) (some_counts-positive cs) (omega (arith, spread_sum (spread_of_counts cs)))

count_starts : (cs : List ℕ) (bound : ℕ) (r : Runs 0 bound (some_counts cs)) → starts_of cs ≡ 0 ∷ r.more
unfolding starts_of
count_starts cs bound r = spread_starts 0 (spread_of_counts cs) ∙ r.starts

-- any counts whose sum is below 2 ^ 32 make rows with a value and start offsets of these
pub counts-are_offsets : (cs : List ℕ) → sum cs < 2 ^ 32 → AreOffsets (offsets_of_counts cs)
counts-are_offsets cs h =
    let r = count_runs cs (2 ^ 32) h in
    let e = count_starts cs (2 ^ 32) r in
    let long = spread_length (spread_of_counts cs) in
    record {
      rows = counts-are_rows cs;
      starts = subst (λ ss. (are_offsets ss && is_rising ss && (length ss == length (rows_with_value cs) + 1)) ≡ true) (sym e)
          (and_from (are_offsets (0 ∷ r.more) && is_rising (0 ∷ r.more)) (length (0 ∷ r.more) == length (rows_with_value cs) + 1)
          (and_from (are_offsets (0 ∷ r.more)) (is_rising (0 ∷ r.more)) r.small r.rises)
          (eq-eqb (length (0 ∷ r.more)) (length (rows_with_value cs) + 1) (omega (arith, r.many))));
    }

-- any counts are those of their rows and offsets
pub counts-are_offset_counts : (cs : List ℕ) → offset_counts (offsets_of_counts cs) ≡ cs
counts-are_offset_counts cs =
    let r = count_runs cs (suc (sum cs)) (omega arith) in
    let apart : some_counts cs ≡ differences (starts_of cs) = sym r.apart ∙ ap differences (sym (count_starts cs (suc (sum cs)) r)) in
    spread_is (length cs) (rows_with_value cs) (differences (starts_of cs)) cs refl
    (subst (λ vs. IsSpread 0 (rows_with_value cs) vs cs) apart (spread_of_counts cs))

-- where the values of rows with a value start rises
pub starts-rise : (cs : List ℕ) → is_rising (starts_of cs) ≡ true
starts-rise cs =
    let r = count_runs cs (suc (sum cs)) (omega arith) in
    ap is_rising (count_starts cs (suc (sum cs)) r) ∙ r.rises
