-- Codes and their numbers have the same least and the same greatest item.
use Rattle.std.proofs.Common.{◌≡◌, ℕ, zero, suc, ◌+◌, ◌-◌, ◌^◌, ◌<◌, ◌≤◌, ◌*◌, ◌==◌, ◌&&◌, ◌||◌, Bool, true, false, List, [], ◌∷◌, length, map, fold, min, max, slice_index_or, Option, Some, None, refl, sym, ◌∙◌, ap, subst, inl, inr, arith}
use Rattle.std.specs.Prelude.{nat_le, nat_lt}
use Rattle.std.specs.Int.{is_in_range}
use Rattle.std.specs.List.{list_all, AllByRecursion}
use Rattle.std.proofs.lemmas.Bool.{cases_lt, eq-eqb, ne_eqb, eqb-true, le-leb, lt-leb, leb-true, and_parts}
use Rattle.std.specs.List.{range_with_len}
use Rattle.std.proofs.lemmas.List.Sums.{fold-append}
use Rattle.col_bits.specs.Packed.{item, items}
use Rattle.col_model.specs.Stats.{least_of, greatest_of}
use Rattle.std.specs.Int.{w64}
use Rattle.std.proofs.lemmas.List.FromFn.{length-map-range_with_len, get_or-map-range_with_len}
use Rattle.col_common.specs.Reading.{◌>>=◌, only_if, parts_by_second}
use Rattle.col_bits.specs.Packed.{is_packed}
use Rattle.col_bits.proofs.ItemLemmas.{items-push}
use Rattle.col_model.specs.AddressList.{AddressFooter, address_footer, are_bounds, range_size, code_count, coded_number, first_start, last_end}
use Rattle.col_model.proofs.ItemLaws.{packed-items}
use Rattle.col_compact.specs.Coded.{Coded, are_codes, coded_by, coded_list, coded_in}
use Rattle.col_model.proofs.StatsLaws.{fold-min, fold-max}
use Rattle.col_compact.specs.declared.compact_space.RangeMapping.{RangeMapping}
use Rattle.col_compact.specs.Mapped.{AreMapped, IsSpace, ranges_of}
use Rattle.col_compact.proofs.OrderLemmas.{counted_more, number_from}
use Rattle.col_compact.proofs.ReadingLemmas.{untrue}

-- ---- numbers rise with their codes

number_less : (floor code : ℕ) (ms : List RangeMapping) (ceiling code_end j k : ℕ)
    → AreMapped floor code ms ceiling code_end → 1 ≤ j → j < k → k ≤ code_count (ranges_of ms)
    → coded_number (ranges_of ms) j < coded_number (ranges_of ms) k
unfolding AreMapped coded_number
number_less floor code [] ceiling code_end j k h one less upto = absurd (omega (arith, one, less, upto))
number_less floor code (m ∷ ms) ceiling code_end j k h one less upto = elim (cases_lt (m.end + 1 - m.start) k) [
  | inl past ↦
      let all = counted_more m ms in
      let inside : k - (m.end + 1 - m.start) ≤ code_count (ranges_of ms) = omega (arith, all, upto, past) in
      elim (cases_lt (m.end + 1 - m.start) j) [
        | inl later ↦ rw (lt-leb k (m.end + 1 - m.start) past, lt-leb j (m.end + 1 - m.start) later)
            (number_less (m.end + 4) (code + range_size (m.start, m.end)) ms ceiling code_end
            (j - (m.end + 1 - m.start)) (k - (m.end + 1 - m.start)) h.3 (omega arith) (omega arith) inside)
        | inr here ↦
            let from = number_from (m.end + 4) (code + range_size (m.start, m.end)) ms ceiling code_end
            (k - (m.end + 1 - m.start)) h.3 (omega arith) inside in
            rw (lt-leb k (m.end + 1 - m.start) past, le-leb j (m.end + 1 - m.start) here) (omega (arith, h.1, from, here, one))
      ]
  | inr here ↦
      let first : j ≤ m.end + 1 - m.start = omega arith in
      rw (le-leb k (m.end + 1 - m.start) here, le-leb j (m.end + 1 - m.start) first) (omega arith)
]

-- the first code is that of the first number
number_first : (floor code : ℕ) (ms : List RangeMapping) (ceiling code_end : ℕ)
    → AreMapped floor code ms ceiling code_end → 1 ≤ length ms
    → coded_number (ranges_of ms) 1 ≡ first_start (ranges_of ms)
unfolding AreMapped coded_number
number_first floor code [] ceiling code_end h some = absurd (omega (arith, some))
number_first floor code (m ∷ ms) ceiling code_end h some =
    let size : 1 ≤ m.end + 1 - m.start = omega (arith, h.1) in
    rw (le-leb 1 (m.end + 1 - m.start) size) (omega arith)

-- a code past those of the first range
next_number : (r : ℕ × ℕ) (rs : List (ℕ × ℕ)) (k : ℕ) → range_size r < k → coded_number (r ∷ rs) k ≡ coded_number rs (k - range_size r)
unfolding coded_number
next_number r rs k past = rw (lt-leb k (range_size r) past) refl

only_number : (r : ℕ × ℕ) (rs : List (ℕ × ℕ)) (k : ℕ) → k ≤ range_size r → coded_number (r ∷ rs) k ≡ r.0 + (k - 1)
unfolding coded_number
only_number r rs k here = rw (le-leb k (range_size r) here) refl

-- the last code is that of the last number
number_last : (floor code : ℕ) (m : RangeMapping) (ms : List RangeMapping) (ceiling code_end e : ℕ)
    → AreMapped floor code (m ∷ ms) ceiling code_end
    → coded_number (ranges_of (m ∷ ms)) (code_count (ranges_of (m ∷ ms)))
    ≡ fold (λ e (r : ℕ × ℕ). r.1) e (ranges_of (m ∷ ms))
unfolding AreMapped
number_last floor code m [] ceiling code_end e h =
    let all = counted_more m [] in
    let one : code_count (ranges_of (m ∷ [])) ≡ m.end + 1 - m.start = omega (arith, all) in
    only_number (m.start, m.end) [] (code_count (ranges_of (m ∷ []))) (omega (arith, one)) ∙ omega (arith, h.1, one)
number_last floor code m (n ∷ ms) ceiling code_end e h =
    let all = counted_more m (n ∷ ms) in
    let more = counted_more n ms in
    let past : range_size (m.start, m.end) < code_count (ranges_of (m ∷ n ∷ ms)) = omega (arith, all, more, h.3.1) in
    let rest : code_count (ranges_of (m ∷ n ∷ ms)) - range_size (m.start, m.end) ≡ code_count (ranges_of (n ∷ ms)) = omega (arith, all) in
    next_number (m.start, m.end) (ranges_of (n ∷ ms)) (code_count (ranges_of (m ∷ n ∷ ms))) past
    ∙ ap (coded_number (ranges_of (n ∷ ms))) rest
    ∙ number_last (m.end + 4) (code + range_size (m.start, m.end)) n ms ceiling code_end m.end h.3

whole_last : (floor code : ℕ) (ms : List RangeMapping) (ceiling code_end : ℕ)
    → AreMapped floor code ms ceiling code_end → 1 ≤ length ms
    → coded_number (ranges_of ms) (code_count (ranges_of ms)) ≡ last_end (ranges_of ms)
whole_last floor code [] ceiling code_end h some = absurd (omega (arith, some))
whole_last floor code (m ∷ ms) ceiling code_end h some = number_last floor code m ms ceiling code_end 0 h

some_numbers : (floor code : ℕ) (ms : List RangeMapping) (ceiling code_end : ℕ)
    → AreMapped floor code ms ceiling code_end → 1 ≤ length ms → 1 ≤ code_count (ranges_of ms)
unfolding AreMapped
some_numbers floor code [] ceiling code_end h some = absurd (omega (arith, some))
some_numbers floor code (m ∷ ms) ceiling code_end h some = let all = counted_more m ms in omega (arith, all, h.1)

-- ---- bounds of what a rising map makes of items

-- a code of n
abbrev IsCode : ℕ → ℕ → Type 0
IsCode n x = (1 ≤ x) × (x ≤ n)

-- numbers in the range from 1 to n are codes, told by recursion
pub all_codes : (n : ℕ) (xs : List ℕ) → list_all (is_in_range 1 n) xs ≡ true → AllByRecursion (IsCode n) xs
all_codes n [] e = tt
all_codes n (x ∷ xs) e =
    let parts = and_parts (is_in_range 1 n x) (list_all (is_in_range 1 n) xs) e in
    let ends = and_parts (nat_le 1 x) (nat_le x n) parts.0 in
    ((leb-true 1 x ends.0, leb-true x n ends.1), all_codes n xs parts.1)

codes_all : (n : ℕ) (xs : List ℕ) → AllByRecursion (IsCode n) xs → list_all (is_in_range 1 n) xs ≡ true
codes_all n [] h = refl
codes_all n (x ∷ xs) h = rw (le-leb 1 x h.0.0, le-leb x n h.0.1, codes_all n xs h.1) refl

module _ (n : ℕ) (f : ℕ → ℕ) (rises : (a b : ℕ) → 1 ≤ a → a < b → b ≤ n → f a < f b) where
  lesser : (x y : ℕ) → IsCode n x → IsCode n y
      → (min (f x) (f y) ≡ f (min x y)) × (max (f x) (f y) ≡ f (max x y)) × IsCode n (min x y) × IsCode n (max x y)
  lesser x y p q = elim (cases_lt x y) [
    | inl h ↦
        let up = rises x y p.0 h q.1 in
        let low : min x y ≡ x = omega arith in
        let high : max x y ≡ y = omega arith in
        let first : min (f x) (f y) ≡ f x = omega arith in
        let second : max (f x) (f y) ≡ f y = omega arith in
        (first ∙ ap f (sym low), second ∙ ap f (sym high), rw low p, rw high q)
    | inr h ↦ elim (cases_lt y x) [
      | inl k ↦
          let up = rises y x q.0 k p.1 in
          let low : min x y ≡ y = omega arith in
          let high : max x y ≡ x = omega arith in
          let first : min (f x) (f y) ≡ f y = omega arith in
          let second : max (f x) (f y) ≡ f x = omega arith in
          (first ∙ ap f (sym low), second ∙ ap f (sym high), rw low q, rw high p)
      | inr k ↦
          let same : x ≡ y = omega arith in
          let low : min x y ≡ y = omega arith in
          let high : max x y ≡ y = omega arith in
          let e : f x ≡ f y = ap f same in
          let first : min (f x) (f y) ≡ f y = omega (arith, e) in
          let second : max (f x) (f y) ≡ f y = omega (arith, e) in
          (first ∙ ap f (sym low), second ∙ ap f (sym high), rw low q, rw high q)
    ]
  ]

  least_mapped : (x : ℕ) (xs : List ℕ) → IsCode n x → AllByRecursion (IsCode n) xs
      → (fold min (f x) (map f xs) ≡ f (fold min x xs)) × IsCode n (fold min x xs)
  least_mapped x [] p all = (refl, p)
  least_mapped x (y ∷ ys) p all =
      let here = lesser x y p all.0 in
      let rest = least_mapped (min x y) ys here.2 all.1 in
      (ap (λ a. fold min a (map f ys)) here.0 ∙ rest.0, rest.1)

  greatest_mapped : (x : ℕ) (xs : List ℕ) → IsCode n x → AllByRecursion (IsCode n) xs
      → (fold max (f x) (map f xs) ≡ f (fold max x xs)) × IsCode n (fold max x xs)
  greatest_mapped x [] p all = (refl, p)
  greatest_mapped x (y ∷ ys) p all =
      let here = lesser x y p all.0 in
      let rest = greatest_mapped (max x y) ys here.3 all.1 in
      (ap (λ a. fold max a (map f ys)) here.1 ∙ rest.0, rest.1)

  same_test : (x y : ℕ) → IsCode n x → IsCode n y → (f x == f y) ≡ (x == y)
  same_test x y p q = elim (cases_lt x y) [
    | inl h ↦ let up = rises x y p.0 h q.1 in ne_eqb (f x) (f y) (omega arith) ∙ sym (ne_eqb x y (omega arith))
    | inr h ↦ elim (cases_lt y x) [
      | inl k ↦ let up = rises y x q.0 k p.1 in ne_eqb (f x) (f y) (omega arith) ∙ sym (ne_eqb x y (omega arith))
      | inr k ↦ let same : x ≡ y = omega arith in eq-eqb (f x) (f y) (ap f same) ∙ sym (eq-eqb x y same)
    ]
  ]

-- items from 1 to n, where these are the least and the greatest
between : (n x : ℕ) (xs : List ℕ) → fold min x xs ≡ 1 → fold max 0 (x ∷ xs) ≡ n → AllByRecursion (IsCode n) (x ∷ xs)
between n x xs low high =
    let lows = fold-min x xs in
    let highs = (fold-max 0 (x ∷ xs)).1 in
    both (x ∷ xs) (lows.0, lows.1) highs
  where
    both : (ys : List ℕ) → AllByRecursion (λ y. fold min x xs ≤ y) ys
        → AllByRecursion (λ y. y ≤ fold max 0 (x ∷ xs)) ys → AllByRecursion (IsCode n) ys
    both [] p q = tt
    both (y ∷ ys) p q = ((omega (arith, p.0, low), omega (arith, q.0, high)), both ys p.1 q.1)

max_zero : (x : ℕ) → max 0 x ≡ x
max_zero x = omega arith

-- the three tests of codes
abbrev pub are_all_codes : List (ℕ × ℕ) → List ℕ → Bool
are_all_codes rs codes =
    list_all (is_in_range 1 (code_count rs)) codes && (least_of (map (coded_number rs) codes) == first_start rs)
    && (greatest_of (map (coded_number rs) codes) == last_end rs)

module _ (ms : List RangeMapping) (space : IsSpace ms) where
  abbrev rs : List (ℕ × ℕ)
  rs = ranges_of ms

  -- a greater code stands for a greater number
  pub rising : (a b : ℕ) → 1 ≤ a → a < b → b ≤ code_count rs → coded_number rs a < coded_number rs b
  rising a b one less upto = number_less 0 1 ms (2 ^ 128 + 3) (1 + code_count rs) a b space.mapped one less upto

  first_is : coded_number rs 1 ≡ first_start rs
  first_is = number_first 0 1 ms (2 ^ 128 + 3) (1 + code_count rs) space.mapped space.some

  last_is : coded_number rs (code_count rs) ≡ last_end rs
  last_is = whole_last 0 1 ms (2 ^ 128 + 3) (1 + code_count rs) space.mapped space.some

  some_codes : 1 ≤ code_count rs
  some_codes = some_numbers 0 1 ms (2 ^ 128 + 3) (1 + code_count rs) space.mapped space.some

  -- the least is the first code, and the greatest the last one
  pub ends_told : (codes : List ℕ) → 0 < length codes
      → are_all_codes rs codes ≡ ((least_of codes == 1) && (greatest_of codes == code_count rs))
  ends_told [] some = absurd (omega (arith, some))
  ends_told (x ∷ xs) some = go (list_all (is_in_range 1 (code_count rs)) (x ∷ xs)) refl
    where
      go : (b : Bool) → list_all (is_in_range 1 (code_count rs)) (x ∷ xs) ≡ b
          → are_all_codes rs (x ∷ xs) ≡ ((least_of (x ∷ xs) == 1) && (greatest_of (x ∷ xs) == code_count rs))
      go true e =
          let f = coded_number rs in
          let all = all_codes (code_count rs) (x ∷ xs) e in
          let low = least_mapped (code_count rs) f rising x xs all.0 all.1 in
          let high = greatest_mapped (code_count rs) f rising x xs all.0 all.1 in
          let first : (f (fold min x xs) == first_start rs) ≡ (fold min x xs == 1) =
          ap (λ n. f (fold min x xs) == n) (sym first_is)
          ∙ same_test (code_count rs) f rising (fold min x xs) 1 low.1 (omega arith, some_codes) in
          let last : (f (fold max x xs) == last_end rs) ≡ (fold max x xs == code_count rs) =
          ap (λ n. f (fold max x xs) == n) (sym last_is)
          ∙ same_test (code_count rs) f rising (fold max x xs) (code_count rs) high.1
          (some_codes, omega arith) in
          let greatest : greatest_of (map f (x ∷ xs)) ≡ f (fold max x xs) = ap (λ a. fold max a (map f xs)) (max_zero (f x)) ∙ high.0 in
          let top : fold max x xs ≡ greatest_of (x ∷ xs) = ap (λ a. fold max a xs) (sym (max_zero x)) in
          ap (λ b. b && (least_of (map f (x ∷ xs)) == first_start rs) && (greatest_of (map f (x ∷ xs)) == last_end rs)) e
          ∙ ap (λ n. (n == first_start rs) && (greatest_of (map f (x ∷ xs)) == last_end rs)) low.0
          ∙ ap (λ n. (f (fold min x xs) == first_start rs) && (n == last_end rs)) greatest
          ∙ ap (λ b. b && (f (fold max x xs) == last_end rs)) first
          ∙ ap (λ b. (fold min x xs == 1) && b) (last ∙ ap (λ n. n == code_count rs) top)
      go false e =
          let within : ((least_of (x ∷ xs) == 1) && (greatest_of (x ∷ xs) == code_count rs)) ≡ true → list_all
          (is_in_range 1 (code_count rs)) (x ∷ xs) ≡ true = λ h.
          (let parts = and_parts (least_of (x ∷ xs) == 1) (greatest_of (x ∷ xs) == code_count rs) h in
          codes_all (code_count rs) (x ∷ xs) (between (code_count rs) x xs (eqb-true (least_of (x ∷ xs)) 1 parts.0)
          (eqb-true (greatest_of (x ∷ xs)) (code_count rs) parts.1))) in
          ap (λ b. b && (least_of (map (coded_number rs) (x ∷ xs)) == first_start rs)
          && (greatest_of (map (coded_number rs) (x ∷ xs)) == last_end rs)) e
          ∙ sym (untrue _ _ within e)

-- codes that meet the first and the last number of a space have 1 as least and the last code as
-- greatest
pub ends_known : (ms : List RangeMapping) → IsSpace ms → (codes : List ℕ) → 0 < length codes
    → are_all_codes (ranges_of ms) codes ≡ true
    → (least_of codes ≡ 1) × (greatest_of codes ≡ code_count (ranges_of ms))
ends_known ms space codes some e =
    let parts = and_parts (least_of codes == 1) (greatest_of codes == code_count (ranges_of ms))
    (sym (ends_told ms space codes some) ∙ e) in
    (eqb-true (least_of codes) 1 parts.0, eqb-true (greatest_of codes) (code_count (ranges_of ms)) parts.1)

-- ---- codes that are read one after another

-- the least and the greatest of the first items
pub record AreBounds (bytes : List ℕ) (w n least greatest : ℕ) : Type 0 where
  pub some : 1 ≤ n
  pub least_is : least ≡ least_of (items bytes w 0 n)
  pub greatest_is : greatest ≡ greatest_of (items bytes w 0 n)

-- one more item makes its minimum and maximum with the bounds the bounds of all
pub bounds_more : (bytes : List ℕ) (w n low high x low2 high2 : ℕ) → AreBounds bytes w n low high
    → x ≡ item bytes w n → low2 ≡ min low x → high2 ≡ max high x → AreBounds bytes w (n + 1) low2 high2
bounds_more bytes w zero low high x low2 high2 b e l h = absurd (let some = b.some in omega arith)
bounds_more bytes w (suc n) low high x low2 high2 b e l h = record {
  some = omega arith;
  least_is = l ∙ ap (λ a. min a x) b.least_is ∙ ap (λ a. min (least_of (items bytes w 0 (suc n))) a) e
      ∙ sym (fold-append min (item bytes w 0) (map (item bytes w) (range_with_len 1 n)) (item bytes w (suc n) ∷ []))
      ∙ ap least_of (sym (items-push bytes w (suc n)));
  greatest_is = h ∙ ap (λ a. max a x) b.greatest_is ∙ ap (λ a. max (greatest_of (items bytes w 0 (suc n))) a) e
      ∙ sym (fold-append max 0 (items bytes w 0 (suc n)) (item bytes w (suc n) ∷ [])) ∙ ap greatest_of (sym (items-push bytes w (suc n)));
}

-- the same by an item of a block
pub bounds_block : (bytes block : List ℕ) (w start n at low high low2 high2 : ℕ)
    → AreBounds bytes w (start + at) low high → block ≡ items bytes w start n → at < n
    → low2 ≡ min low (slice_index_or block at 0) → high2 ≡ max high (slice_index_or block at 0)
    → AreBounds bytes w (start + (at + 1)) low2 high2
bounds_block bytes block w start n at low high low2 high2 b e below l h =
    let there : slice_index_or block at 0 ≡ item bytes w (start + at) =
    ap (λ ys. slice_index_or ys at 0) e
    ∙ get_or-map-range_with_len (item bytes w) start n at (start + at) 0 below refl in
    let next : start + at + 1 ≡ start + (at + 1) = omega arith in
    subst (λ k. AreBounds bytes w k low2 high2) next
    (bounds_more bytes w (start + at) low high (slice_index_or block at 0) low2 high2 b there l h)

-- ---- lists by their parts

-- without numbers all is right
pub none_coded : (f : AddressFooter) (bytes : List ℕ) → f.count ≡ 0 → f.least ≡ 0 → f.greatest ≡ 0
    → true ≡ are_codes f (items bytes f.code_width 0 f.count)
none_coded f bytes none low high = sym (
    ap (λ n. are_codes f (items bytes f.code_width 0 n)) none
    ∙ ap (λ b. b && (0 == f.greatest)) (eq-eqb 0 f.least (sym low))
    ∙ eq-eqb 0 f.greatest (sym high)
    )

-- there are as many items as are asked for
pub length_items : (bytes : List ℕ) (w n : ℕ) → length (items bytes w 0 n) ≡ n
length_items bytes w n = length-map-range_with_len (item bytes w) 0 n

-- the count of no numbers fits bounds of 0 alone
pub no_bounds : (least greatest count : ℕ) → are_bounds least greatest count ≡ true → count ≡ 0 → (least ≡ 0) × (greatest ≡ 0)
no_bounds least greatest count e none =
    let parts = and_parts (nat_lt 0 (2 ^ 32) && (nat_le 2 0 || (least == greatest))) (nat_le 1 0 || (greatest == 0))
    (ap (are_bounds least greatest) (sym none) ∙ e) in
    let equal = (and_parts (nat_lt 0 (2 ^ 32)) (nat_le 2 0 || (least == greatest)) parts.0).1 in
    let high = eqb-true greatest 0 parts.1 in
    (eqb-true least greatest equal ∙ high, high)

abbrev coded_with : AddressFooter → List ℕ → Option Coded
coded_with f found = only_if (are_codes f found) (record { ranges = f.ranges; codes = found })

-- codes with bytes that are no footer stand for nothing
pub coded_by-none : (codes footer : List ℕ) → address_footer footer ≡ None → coded_by codes footer ≡ None
unfolding coded_by
coded_by-none codes footer e = rw e refl

-- bytes that aren't packed codes, as many and as wide as their footer says, stand for nothing
pub coded_by-loose : (codes footer : List ℕ) (f : AddressFooter) → address_footer footer ≡ Some f
    → is_packed codes (f.count * f.code_width) ≡ false → coded_by codes footer ≡ None
unfolding coded_by
coded_by-loose codes footer f e loose =
    rw e (ap (λ o. o >>= coded_with f)
    (packed-items codes f.code_width f.count ∙ ap (λ b. only_if b (items codes f.code_width 0 f.count)) loose))

-- packed codes stand for their numbers if each is a code and the bounds are the footer's
pub coded_by-packed : (codes footer : List ℕ) (f : AddressFooter) (b : Bool) → address_footer footer ≡ Some f
    → is_packed codes (f.count * f.code_width) ≡ true → are_codes f (items codes f.code_width 0 f.count) ≡ b
    → coded_by codes footer ≡ only_if b (coded_in f codes)
unfolding coded_by
coded_by-packed codes footer f b e packed test =
    rw e (ap (λ o. o >>= coded_with f)
    (packed-items codes f.code_width f.count ∙ ap (λ t. only_if t (items codes f.code_width 0 f.count)) packed)
    ∙ ap (λ t. only_if t (coded_in f codes)) test)

-- bytes that have no two parts stand for no codes
pub coded_list-none : (bytes : List ℕ) → parts_by_second w64 bytes ≡ None → coded_list bytes ≡ None
unfolding coded_list
coded_list-none bytes e = rw e refl

-- bytes that have two parts stand for what the codes stand for with their footer
pub coded_list-some : (bytes codes footer : List ℕ) → parts_by_second w64 bytes ≡ Some (codes, footer)
    → coded_list bytes ≡ coded_by codes footer
unfolding coded_list
coded_list-some bytes codes footer e = rw e refl
