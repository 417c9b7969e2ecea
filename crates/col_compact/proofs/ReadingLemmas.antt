-- Ranges that are tested where they stand are those that are tested together.
use Rattle.std.proofs.Common.{◌≡◌, ℕ, zero, suc, ◌+◌, ◌-◌, ◌^◌, ◌<◌, ◌≤◌, ◌&&◌, Bool, true, false, List, [], ◌∷◌, ◌++◌, length, fold, Option, Some, None, refl, sym, ◌∙◌, ap, subst, append_assoc, append-nil, length-append, zero-add, lit<, arith}
use Rattle.std.specs.Prelude.{nat_lt, nat_le}
use Rattle.std.specs.List.{list_all}
use Rattle.std.proofs.lemmas.Bool.{false≢true, and_parts, le-leb, lt-ltb, leb-true, ltb-true}
use Rattle.std.proofs.lemmas.Option.{option_and_then_some, cond_some}
use Rattle.std.proofs.lemmas.List.{map-append}
use Rattle.col_common.specs.Reading.{◌>>=◌, only_if, items}
use Rattle.col_common.specs.VInt.{vint}
use Rattle.col_model.specs.AddressList.{pair_at, range_size, code_count, ranges_from, are_apart, last_end, ranges_at}
use Rattle.col_model.proofs.RangeCodes.{count-cons}
use Rattle.col_compact.specs.declared.compact_space.RangeMapping.{RangeMapping}
use Rattle.col_compact.specs.Mapped.{AreMapped, IsSpace, ranges_of, range_of}
use Rattle.col_compact.specs.Reading.{range_at, ranges_behind}
use Rattle.col_compact.proofs.BuildLemmas.{mapped_more, counted}

-- ---- tests of pairs that were read together

-- the first is so far above the end before it, and each other at least four
abbrev are_apart_from : ℕ → List (ℕ × ℕ) → Bool
are_apart_from apart [] = true
are_apart_from apart (p ∷ ps) = nat_le apart p.0 && list_all (λ (q : ℕ × ℕ). nat_le 4 q.0) ps

-- where the last range ends, or `before` without ranges
abbrev end_behind : ℕ → List (ℕ × ℕ) → ℕ
end_behind before rs = fold (λ e (r : ℕ × ℕ). r.1) before rs

-- the three tests of pairs behind other ranges
abbrev are_ranges : ℕ → ℕ → ℕ → List (ℕ × ℕ) → Bool
are_ranges before apart codes ps =
    are_apart_from apart ps && nat_lt (end_behind before (ranges_from before ps)) (2 ^ 128)
    && nat_lt (codes + code_count (ranges_from before ps)) (2 ^ 32)

abbrev tested : ℕ → ℕ → ℕ → List (ℕ × ℕ) × List ℕ → Option (List (ℕ × ℕ) × List ℕ)
tested before apart codes ps = only_if (are_ranges before apart codes ps.0) (ranges_from before ps.0, ps.1)

apart_four : (ps : List (ℕ × ℕ)) → are_apart_from 4 ps ≡ list_all (λ (q : ℕ × ℕ). nat_le 4 q.0) ps
apart_four [] = refl
apart_four (p ∷ ps) = refl

end_above : (before : ℕ) (ps : List (ℕ × ℕ)) → before ≤ end_behind before (ranges_from before ps)
unfolding ranges_from
end_above before [] = omega arith
end_above before (p ∷ ps) = let later = end_above (before + p.0 + p.1) ps in omega (arith, later)

-- what a range at the front shows by itself
abbrev is_range : ℕ → ℕ → ℕ → ℕ × ℕ → Bool
is_range before apart codes p = nat_le apart p.0 && nat_lt (before + p.0 + p.1) (2 ^ 128) && nat_lt (codes + p.1 + 1) (2 ^ 32)

abbrev ends_at : ℕ → ℕ × ℕ → ℕ
ends_at before p = before + p.0 + p.1

all_true : (a b c : Bool) → a ≡ true → b ≡ true → c ≡ true → (a && b && c) ≡ true
all_true a b c p q r = rw (p, q, r) refl

head_is_range : (before apart codes : ℕ) (p : ℕ × ℕ) (ps : List (ℕ × ℕ))
    → are_ranges before apart codes (p ∷ ps) ≡ true → is_range before apart codes p ≡ true
unfolding ranges_from
head_is_range before apart codes p ps e =
    let rs = (before + p.0, ends_at before p) ∷ ranges_from (ends_at before p) ps in
    let outer = and_parts (are_apart_from apart (p ∷ ps) && nat_lt (end_behind before rs) (2 ^ 128))
    (nat_lt (codes + code_count rs) (2 ^ 32)) e in
    let inner = and_parts (are_apart_from apart (p ∷ ps)) (nat_lt (end_behind before rs) (2 ^ 128)) outer.0 in
    let near = and_parts (nat_le apart p.0) (list_all (λ (q : ℕ × ℕ). nat_le 4 q.0) ps) inner.0 in
    let high = ltb-true (end_behind before rs) (2 ^ 128) inner.1 in
    let few = ltb-true (codes + code_count rs) (2 ^ 32) outer.1 in
    let up = end_above (ends_at before p) ps in
    let sum = count-cons (before + p.0, ends_at before p) (ranges_from (ends_at before p) ps) in
    all_true (nat_le apart p.0) (nat_lt (before + p.0 + p.1) (2 ^ 128)) (nat_lt (codes + p.1 + 1) (2 ^ 32)) near.0
    (lt-ltb (before + p.0 + p.1) (2 ^ 128) (omega (arith, high, up))) (lt-ltb (codes + p.1 + 1) (2 ^ 32) (omega (arith, few, sum)))

-- behind a range the tests go on
tail_tests : (before apart codes : ℕ) (p : ℕ × ℕ) (ps : List (ℕ × ℕ)) → is_range before apart codes p ≡ true
    → are_ranges before apart codes (p ∷ ps)
    ≡ are_ranges (ends_at before p) 4 (codes + range_size (before + p.0, ends_at before p)) ps
unfolding ranges_from
tail_tests before apart codes p ps e =
    let near : nat_le apart p.0 ≡ true = (and_parts _ _ (and_parts _ _ e).0).0 in
    let r : ℕ × ℕ = (before + p.0, ends_at before p) in
    let rs = ranges_from (ends_at before p) ps in
    let sum = count-cons r rs in
    let same : codes + code_count (r ∷ rs) ≡ codes + range_size r + code_count rs = omega (arith, sum) in
    ap (λ b. b && list_all (λ (q : ℕ × ℕ). nat_le 4 q.0) ps && nat_lt (end_behind (ends_at before p) rs) (2 ^ 128)
    && nat_lt (codes + code_count (r ∷ rs)) (2 ^ 32)) near
    ∙ ap (λ b. b && nat_lt (end_behind (ends_at before p) rs) (2 ^ 128)
    && nat_lt (codes + code_count (r ∷ rs)) (2 ^ 32)) (sym (apart_four ps))
    ∙ ap (λ n. are_apart_from 4 ps && nat_lt (end_behind (ends_at before p) rs) (2 ^ 128) && nat_lt n (2 ^ 32)) same

-- what implies something that fails, fails
pub untrue : (a b : Bool) → (a ≡ true → b ≡ true) → b ≡ false → a ≡ false
untrue true b f e = absurd (false≢true (sym e ∙ f refl))
untrue false b f e = refl

-- the range at the front with those that are read behind it
abbrev with_range : ℕ × ℕ → List (ℕ × ℕ) × List ℕ → Option (List (ℕ × ℕ) × List ℕ)
with_range r rs = Some (r ∷ rs.0, rs.1)

abbrev with_pair : ℕ × ℕ → List (ℕ × ℕ) × List ℕ → Option (List (ℕ × ℕ) × List ℕ)
with_pair p ps = Some (p ∷ ps.0, ps.1)

then_range : (b : Bool) (r : ℕ × ℕ) (x : List (ℕ × ℕ) × List ℕ) → (only_if b x >>= with_range r) ≡ only_if b (r ∷ x.0, x.1)
then_range true r x = refl
then_range false r x = refl

-- where the first pair is a range
good_head : (before apart codes : ℕ) (p : ℕ × ℕ) (o : Option (List (ℕ × ℕ) × List ℕ)) → is_range before apart codes p ≡ true
    → (o >>= tested (ends_at before p) 4 (codes + range_size (before + p.0, ends_at before p)) >>= with_range
    (before + p.0, ends_at before p)) ≡ (o >>= with_pair p >>= tested before apart codes)
unfolding ranges_from
good_head before apart codes p None e = refl
good_head before apart codes p (Some q) e =
    then_range _ (before + p.0, ends_at before p) (ranges_from (ends_at before p) q.0, q.1)
    ∙ ap (λ b. only_if b ((before + p.0, ends_at before p) ∷ ranges_from (ends_at before p) q.0, q.1))
    (sym (tail_tests before apart codes p q.0 e))

-- where it isn't
bad_head : (before apart codes : ℕ) (p : ℕ × ℕ) (o : Option (List (ℕ × ℕ) × List ℕ))
    → is_range before apart codes p ≡ false → None ≡ (o >>= with_pair p >>= tested before apart codes)
bad_head before apart codes p None e = refl
bad_head before apart codes p (Some q) e =
    ap (λ b. only_if b (ranges_from before (p ∷ q.0), q.1)) (sym (untrue (are_ranges before apart codes (p ∷ q.0))
    (is_range before apart codes p) (head_is_range before apart codes p q.0) e))

-- the range of a pair, where a test lets it through
abbrev range_if : ℕ → Bool → (ℕ × ℕ) × List ℕ → Option ((ℕ × ℕ) × List ℕ)
range_if before b p = only_if b ((before + p.0.0, ends_at before p.0), p.1)

abbrev range_of_pair : ℕ → ℕ → ℕ → (ℕ × ℕ) × List ℕ → Option ((ℕ × ℕ) × List ℕ)
range_of_pair before apart codes p = range_if before (is_range before apart codes p.0) p

-- a range that was read, and so many behind it
abbrev led_by : ℕ → ℕ → (ℕ × ℕ) × List ℕ → Option (List (ℕ × ℕ) × List ℕ)
led_by n codes r = ranges_behind r.0.1 4 (codes + range_size r.0) n r.1 >>= with_range r.0

abbrev pairs_from : ℕ → (ℕ × ℕ) × List ℕ → Option (List (ℕ × ℕ) × List ℕ)
pairs_from n p = items pair_at n p.1 >>= with_pair p.0

-- one more range in front, where those behind it are known
next_by_next : (n before apart codes : ℕ) (o : Option ((ℕ × ℕ) × List ℕ))
    → ((e k : ℕ) (tail : List ℕ) → e < 2 ^ 128 → k < 2 ^ 32 → ranges_behind e 4 k n tail ≡ (items pair_at n tail >>= tested e 4 k))
    → (o >>= range_of_pair before apart codes >>= led_by n codes) ≡ (o >>= pairs_from n >>= tested before apart codes)
next_by_next n before apart codes None later = refl
next_by_next n before apart codes (Some p) later = first (is_range before apart codes p.0) refl
  where
    first : (b : Bool) → is_range before apart codes p.0 ≡ b
        → (range_of_pair before apart codes p >>= led_by n codes) ≡ (pairs_from n p >>= tested before apart codes)
    first true e =
        let tests = and_parts (nat_le apart p.0.0 && nat_lt (ends_at before p.0) (2 ^ 128)) (nat_lt (codes + p.0.1 + 1) (2 ^ 32)) e in
        let high = ltb-true (ends_at before p.0) (2 ^ 128)
        (and_parts (nat_le apart p.0.0) (nat_lt (ends_at before p.0) (2 ^ 128)) tests.0).1 in
        let few = ltb-true (codes + p.0.1 + 1) (2 ^ 32) tests.1 in
        ap (λ b. range_if before b p >>= led_by n codes) e
        ∙ ap (λ o. o >>= with_range (before + p.0.0, ends_at before p.0)) (later (ends_at before p.0)
        (codes + range_size (before + p.0.0, ends_at before p.0)) p.1 high (omega (arith, few)))
        ∙ good_head before apart codes p.0 (items pair_at n p.1) e
    first false e = ap (λ b. range_if before b p >>= led_by n codes) e ∙ bad_head before apart codes p.0 (items pair_at n p.1) e

pub one_by_one : (n before apart codes : ℕ) (bytes : List ℕ) → before < 2 ^ 128 → codes < 2 ^ 32
    → ranges_behind before apart codes n bytes ≡ (items pair_at n bytes >>= tested before apart codes)
unfolding ranges_behind range_at items ranges_from
one_by_one zero before apart codes bytes low few =
    ap (λ b. only_if b ([], bytes)) (sym (all_true true (nat_lt before (2 ^ 128)) (nat_lt (codes + 0) (2 ^ 32)) refl
    (lt-ltb before (2 ^ 128) low) (lt-ltb (codes + 0) (2 ^ 32) (omega arith))))
one_by_one (suc n) before apart codes bytes low few =
    next_by_next n before apart codes (pair_at bytes) (λ e k tail high small. one_by_one n e 4 k tail high small)

-- ---- a whole space

apart_zero : (ps : List (ℕ × ℕ)) → are_apart_from 0 ps ≡ are_apart ps
apart_zero [] = refl
apart_zero (p ∷ ps) = rw (le-leb 0 p.0 (omega arith)) refl

some_tested : (n : ℕ) (x : List (ℕ × ℕ) × List ℕ) → 1 ≤ n
    → only_if (nat_le 1 n && are_apart x.0 && nat_lt (last_end (ranges_from 0 x.0)) (2 ^ 128)
    && nat_lt (code_count (ranges_from 0 x.0)) (2 ^ 32)) (ranges_from 0 x.0, x.1) ≡ tested 0 0 0 x
some_tested n x some =
    ap (λ b. only_if (b && are_apart x.0 && nat_lt (last_end (ranges_from 0 x.0)) (2 ^ 128)
    && nat_lt (code_count (ranges_from 0 x.0)) (2 ^ 32)) (ranges_from 0 x.0, x.1)) (le-leb 1 n some)
    ∙ ap (λ b. only_if
    (b && nat_lt (last_end (ranges_from 0 x.0)) (2 ^ 128) && nat_lt (code_count (ranges_from 0 x.0)) (2 ^ 32))
    (ranges_from 0 x.0, x.1)) (sym (apart_zero x.0))
    ∙ ap (λ m. only_if
    (are_apart_from 0 x.0 && nat_lt (last_end (ranges_from 0 x.0)) (2 ^ 128) && nat_lt m (2 ^ 32))
    (ranges_from 0 x.0, x.1)) (sym (zero-add (code_count (ranges_from 0 x.0))))

then_tested : (n : ℕ) (o : Option (List (ℕ × ℕ) × List ℕ)) → 1 ≤ n
    → (o >>= (λ ps. only_if (nat_le 1 n && are_apart ps.0 && nat_lt (last_end (ranges_from 0 ps.0)) (2 ^ 128)
    && nat_lt (code_count (ranges_from 0 ps.0)) (2 ^ 32)) (ranges_from 0 ps.0, ps.1))) ≡ (o >>= tested 0 0 0)
then_tested n None some = refl
then_tested n (Some x) some = some_tested n x some

-- some ranges behind their number
pub ranges_at-some : (bytes : List ℕ) (n : ℕ) (rest : List ℕ) → vint bytes ≡ Some (n, rest) → 1 ≤ n
    → ranges_at bytes ≡ ranges_behind 0 0 0 n rest
unfolding ranges_at
ranges_at-some bytes n rest e some = rw e (then_tested n (items pair_at n rest) some ∙ sym (one_by_one n 0 0 0 rest (lit< tt) (lit< tt)))

-- no number, or none of ranges
pub ranges_at-none : (bytes : List ℕ) → vint bytes ≡ None → ranges_at bytes ≡ None
unfolding ranges_at
ranges_at-none bytes e = rw e refl

-- bytes that spell 0 as their number of ranges have none
pub ranges_at-zero : (bytes rest : List ℕ) (n : ℕ) → vint bytes ≡ Some (n, rest) → n ≡ 0 → ranges_at bytes ≡ None
unfolding ranges_at items
ranges_at-zero bytes rest n e none = rw (e, none) refl

-- ---- ranges that are read one after another

-- ranges that were read, with those that are left
abbrev behind : List (ℕ × ℕ) → Option (List (ℕ × ℕ) × List ℕ) → Option (List (ℕ × ℕ) × List ℕ)
behind rs o = o >>= λ x. Some (rs ++ x.0, x.1)

-- so many ranges were read, and the last ended at `before`
pub record IsReading (all : List ℕ) (count done : ℕ) (ms : List RangeMapping) (before apart codes : ℕ) (rest : List ℕ) : Type 0 where
  pub so_far : ranges_behind 0 0 0 count all ≡ behind (ranges_of ms) (ranges_behind before apart codes (count - done) rest)
  pub mapped : AreMapped 0 1 ms (before + apart) (1 + codes)
  pub many : length ms ≡ done
  pub low : before < 2 ^ 128
  pub few : codes < 2 ^ 32
  pub near : apart ≤ 4

-- before any range is read, all that is to read is still there
pub reading_first : (all : List ℕ) (count : ℕ) (ms : List RangeMapping) → ms ≡ [] → IsReading all count 0 ms 0 0 0 all
unfolding AreMapped
reading_first all count ms none = rw none (record {
  so_far =
      let whole : count ≡ count - 0 = omega arith in ap (λ n. ranges_behind 0 0 0 n all) whole ∙ sym
      (same (ranges_behind 0 0 0 (count - 0) all));
  mapped = (omega arith, omega arith);
  many = refl;
  low = omega arith;
  few = omega arith;
  near = omega arith;
})
  where
    same : (o : Option (List (ℕ × ℕ) × List ℕ)) → behind [] o ≡ o
    same None = refl
    same (Some x) = refl

one_left : (before apart codes count done left : ℕ) (rest : List ℕ) → done < count → left ≡ count - (done + 1)
    → ranges_behind before apart codes (count - done) rest
    ≡ (range_at before apart codes rest >>= led_by left codes)
unfolding ranges_behind
one_left before apart codes count done left rest more e = let one : count - done ≡ suc left = omega (arith, e) in rw one refl

-- the next range can't be read
pub reading_none : (all : List ℕ) (count done : ℕ) (ms : List RangeMapping) (before apart codes : ℕ) (rest : List ℕ)
    → IsReading all count done ms before apart codes rest → done < count → range_at before apart codes rest ≡ None
    → ranges_behind 0 0 0 count all ≡ None
reading_none all count done ms before apart codes rest h more e =
    h.so_far ∙ ap (behind (ranges_of ms)) (
    one_left before apart codes count done (count - (done + 1)) rest more refl
    ∙ ap (λ o. o >>= led_by (count - (done + 1)) codes) e)

behind_more : (rs : List (ℕ × ℕ)) (r : ℕ × ℕ) (o : Option (List (ℕ × ℕ) × List ℕ))
    → behind rs (o >>= with_range r) ≡ behind (rs ++ r ∷ []) o
behind_more rs r None = refl
behind_more rs r (Some x) = ap (λ ys. Some (ys, x.1)) (sym (append_assoc rs (r ∷ []) x.0))

-- what is known of a range that was read
pub record IsRange (before apart codes : ℕ) (r : ℕ × ℕ) : Type 0 where
  pub from : before + apart ≤ r.0
  pub ordered : r.0 ≤ r.1
  pub high : r.1 < 2 ^ 128
  pub few : codes + range_size r < 2 ^ 32

tested_range : (before apart codes : ℕ) (p : ℕ × ℕ) → is_range before apart codes p ≡ true
    → IsRange before apart codes (before + p.0, ends_at before p)
tested_range before apart codes p e =
    let tests = and_parts (nat_le apart p.0 && nat_lt (ends_at before p) (2 ^ 128)) (nat_lt (codes + p.1 + 1) (2 ^ 32)) e in
    let inner = and_parts (nat_le apart p.0) (nat_lt (ends_at before p) (2 ^ 128)) tests.0 in
    let near = leb-true apart p.0 inner.0 in
    let high = ltb-true (ends_at before p) (2 ^ 128) inner.1 in
    let few = ltb-true (codes + p.1 + 1) (2 ^ 32) tests.1 in
    record { from = omega (arith, near); ordered = omega arith; high = high; few = omega (arith, few) }

-- a range that is read begins at the least it may, ends below 2 ^ 128, and has codes of 32 bits
pub range_at-is : (before apart codes : ℕ) (bytes : List ℕ) (r : ℕ × ℕ) (rest : List ℕ)
    → range_at before apart codes bytes ≡ Some (r, rest) → IsRange before apart codes r
unfolding range_at
range_at-is before apart codes bytes r rest e =
    option_and_then_some (range_of_pair before apart codes) (pair_at bytes) (r, rest) e (λ p o f.
    let found = cond_some (is_range before apart codes p.0) ((before + p.0.0, ends_at before p.0), p.1) (r, rest) f in
    subst (λ (x : (ℕ × ℕ) × List ℕ). IsRange before apart codes x.0) found.1 (tested_range before apart codes p.0 found.0))

-- a higher ceiling
rises : (floor code : ℕ) (xs : List RangeMapping) (ceiling ceiling2 code_end : ℕ)
    → AreMapped floor code xs ceiling code_end → ceiling ≤ ceiling2 → AreMapped floor code xs ceiling2 code_end
unfolding AreMapped
rises floor code [] ceiling ceiling2 code_end h k = (omega (arith, h.0, k), h.1)
rises floor code (x ∷ xs) ceiling ceiling2 code_end h k =
    (h.0, h.1, h.2, rises (x.end + 4) (code + range_size (x.start, x.end)) xs ceiling ceiling2 code_end h.3 k)

-- one range more was read
pub reading_more : (all : List ℕ) (count done : ℕ) (ms : List RangeMapping) (before apart codes : ℕ) (rest : List ℕ)
    (m : RangeMapping) (tail : List ℕ) (next : ℕ) (all_ms : List RangeMapping)
    → IsReading all count done ms before apart codes rest → done < count
    → range_at before apart codes rest ≡ Some (range_of m, tail) → m.compact_start ≡ codes + 1
    → next ≡ m.compact_start + (m.end - m.start) → all_ms ≡ ms ++ m ∷ []
    → IsReading all count (done + 1) all_ms m.end 4 next tail
reading_more all count done ms before apart codes rest m tail next all_ms h more e start sum same =
    let r = range_at-is before apart codes rest (range_of m) tail e in
    let from = r.from in
    let ordered = r.ordered in
    let few = r.few in
    let total : codes + range_size (range_of m) ≡ next = omega (arith, sum, start, ordered) in
    let left : ranges_behind before apart codes (count - done) rest ≡
    (ranges_behind m.end 4 next (count - (done + 1)) tail >>= with_range (range_of m)) =
    one_left before apart codes count done (count - (done + 1)) rest more refl
    ∙ ap (λ o. o >>= led_by (count - (done + 1)) codes) e
    ∙ ap (λ n. ranges_behind m.end 4 n (count - (done + 1)) tail >>= with_range (range_of m)) total in
    let before_it : AreMapped 0 1 ms m.start (1 + codes) = rises 0 1 ms (before + apart) m.start (1 + codes) h.mapped from in
    let here : record { start = m.start; end = m.end; compact_start = 1 + codes } ≡ m =
    let c : 1 + codes ≡ m.compact_start = omega (arith, start) in
    λ i. record { start = m.start; end = m.end; compact_start = c i } in
    let behind_it : 1 + codes + (m.end + 1 - m.start) ≡ 1 + next = omega (arith, total) in
    record {
      so_far =
          h.so_far ∙ ap (behind (ranges_of ms)) left
          ∙ behind_more (ranges_of ms) (range_of m) (ranges_behind m.end 4 next (count - (done + 1)) tail)
          ∙ ap (λ rs. behind rs (ranges_behind m.end 4 next (count - (done + 1)) tail))
          (sym (map-append range_of ms (m ∷ [])) ∙ ap ranges_of (sym same));
      mapped = subst (λ xs. AreMapped 0 1 xs (m.end + 4) (1 + next)) (sym same)
          (subst (λ n. AreMapped 0 1 (ms ++ m ∷ []) (m.end + 4) n) behind_it
          (subst (λ x. AreMapped 0 1 (ms ++ x ∷ []) (m.end + 4) (1 + codes + (m.end + 1 - m.start))) here
          (mapped_more 0 1 ms m.start m.end (1 + codes) (m.end + 4) before_it ordered (omega arith))));
      many = ap length same ∙ length-append ms (m ∷ []) ∙ ap (λ n. n + 1) h.many;
      low = r.high;
      few = omega (arith, few, total);
      near = omega arith;
    }

-- all were read
pub reading_all : (all : List ℕ) (count done : ℕ) (ms : List RangeMapping) (before apart codes : ℕ) (rest : List ℕ)
    → IsReading all count done ms before apart codes rest → count ≤ done
    → ranges_behind 0 0 0 count all ≡ Some (ranges_of ms, rest)
unfolding ranges_behind
reading_all all count done ms before apart codes rest h past =
    let none : count - done ≡ zero = omega arith in
    h.so_far ∙ ap (λ n. behind (ranges_of ms) (ranges_behind before apart codes n rest)) none
    ∙ ap (λ rs. Some (rs, rest)) (append-nil (ranges_of ms))

-- the ranges that were read, at least one, are a space
pub read_space : (all : List ℕ) (count done : ℕ) (ms : List RangeMapping) (before apart codes : ℕ) (rest : List ℕ)
    → IsReading all count done ms before apart codes rest → 1 ≤ done → IsSpace ms
read_space all count done ms before apart codes rest h some =
    let low = h.low in
    let near = h.near in
    let few = h.few in
    let many = h.many in
    let mapped = rises 0 1 ms (before + apart) (2 ^ 128 + 3) (1 + codes) h.mapped (omega arith) in
    let e = counted 0 1 ms (2 ^ 128 + 3) (1 + codes) mapped in
    record {
      some = omega (arith, many);
      mapped = subst (λ n. AreMapped 0 1 ms (2 ^ 128 + 3) n) e mapped;
      small = omega (arith, e, few);
    }
