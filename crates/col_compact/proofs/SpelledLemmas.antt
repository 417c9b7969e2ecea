-- Ranges and footers are read back from what is written of them.
use Rattle.std.proofs.Common.{◌≡◌, ℕ, suc, ◌+◌, ◌-◌, ◌^◌, ◌<◌, ◌≤◌, true, List, [], ◌∷◌, ◌++◌, length, fold, max, Some, refl, sym, ◌∙◌, ap, subst, arith, append_assoc}
use Rattle.std.specs.Prelude.{nat_le}
use Rattle.std.specs.List.{AllByRecursion, flat_map, list_all}
use Rattle.std.proofs.lemmas.Bool.{le-leb, lt-ltb, eq-eqb}
use Rattle.col_common.specs.VInt.{vint, vint_bytes}
use Rattle.col_common.specs.Reading.{front, items}
use Rattle.col_common.proofs.VIntLemmas.{vint-vint_bytes, vint_u128-vint_bytes}
use Rattle.col_bits.specs.Packed.{width}
use Rattle.col_model.specs.Stats.{least_of, greatest_of}
use Rattle.col_model.specs.AddressList.{AddressFooter, range_size, code_count, ranges_from, are_apart, pair_at, first_start, last_end, ranges_at, are_zeros, are_bounds, address_footer_at}
use Rattle.std.proofs.lemmas.List.{length-map}
use Rattle.col_model.proofs.ReadingLaws.{front-append, items-flat_map}
use Rattle.col_compact.specs.declared.compact_space.RangeMapping.{RangeMapping}
use Rattle.col_compact.specs.Mapped.{AreMapped, IsSpace, range_of, ranges_of}
use Rattle.col_compact.specs.Covers.{Represents}
use Rattle.col_compact.specs.Written.{pairs_of, pair_bytes, ranges_bytes, flags_bytes, footer_bytes}
use Rattle.col_compact.specs.Params.{footer_of}
use Rattle.col_compact.proofs.SpaceLemmas.{ends}

-- a pair of numbers below 2 ^ 128
abbrev pub FitsPair : ℕ × ℕ → Type 0
FitsPair p = (p.0 < 2 ^ 128) × (p.1 < 2 ^ 128)

pair-again : (p : ℕ × ℕ) (rest : List ℕ) → FitsPair p → pair_at (pair_bytes p ++ rest) ≡ Some (p, rest)
pair-again p rest fits =
    rw (
      append_assoc (vint_bytes p.0) (vint_bytes p.1) rest,
      vint_u128-vint_bytes p.0 (vint_bytes p.1 ++ rest) fits.0,
      vint_u128-vint_bytes p.1 rest fits.1,
    ) refl

-- the ranges that the pairs of ranges spell
ranges_from-pairs_of : (floor code before : ℕ) (ms : List RangeMapping) (ceiling code_end : ℕ)
    → AreMapped floor code ms ceiling code_end → before ≤ floor
    → ranges_from before (pairs_of before (ranges_of ms)) ≡ ranges_of ms
unfolding AreMapped ranges_from pairs_of
ranges_from-pairs_of floor code before [] ceiling code_end h low = refl
ranges_from-pairs_of floor code before (m ∷ ms) ceiling code_end h low =
    let start : before + (m.start - before) ≡ m.start = omega (arith, h.0, low) in
    let end : m.start + (m.end - m.start) ≡ m.end = omega (arith, h.1) in
    rw (start, end) (ap (λ rs. (m.start, m.end) ∷ rs) (ranges_from-pairs_of (m.end + 4)
    (code + range_size (m.start, m.end)) m.end ms ceiling code_end h.3 (omega arith)))

pairs_apart : (floor code before : ℕ) (ms : List RangeMapping) (ceiling code_end : ℕ)
    → AreMapped floor code ms ceiling code_end → before + 4 ≤ floor
    → list_all (λ (p : ℕ × ℕ). nat_le 4 p.0) (pairs_of before (ranges_of ms)) ≡ true
unfolding AreMapped pairs_of
pairs_apart floor code before [] ceiling code_end h low = refl
pairs_apart floor code before (m ∷ ms) ceiling code_end h low =
    let far : 4 ≤ m.start - before = omega (arith, h.0, low) in
    rw (le-leb 4 (m.start - before) far)
    (pairs_apart (m.end + 4) (code + range_size (m.start, m.end)) m.end ms ceiling code_end h.3 (omega arith))

apart : (floor code before : ℕ) (ms : List RangeMapping) (ceiling code_end : ℕ)
    → AreMapped floor code ms ceiling code_end → are_apart (pairs_of before (ranges_of ms)) ≡ true
unfolding AreMapped pairs_of
apart floor code before [] ceiling code_end h = refl
apart floor code before (m ∷ ms) ceiling code_end h =
    pairs_apart (m.end + 4) (code + range_size (m.start, m.end)) m.end ms ceiling code_end h.3 (omega arith)

pairs_fit : (floor code before : ℕ) (ms : List RangeMapping) (code_end : ℕ)
    → AreMapped floor code ms (2 ^ 128 + 3) code_end → AllByRecursion FitsPair (pairs_of before (ranges_of ms))
unfolding AreMapped pairs_of
pairs_fit floor code before [] code_end h = tt
pairs_fit floor code before (m ∷ ms) code_end h =
    let behind = ends (m.end + 4) (code + range_size (m.start, m.end)) ms (2 ^ 128 + 3) code_end h.3 in (
      (omega (arith, h.1, behind.0), omega (arith, behind.0)),
      pairs_fit (m.end + 4) (code + range_size (m.start, m.end)) m.end ms code_end h.3,
    )

length-pairs_of : (before : ℕ) (rs : List (ℕ × ℕ)) → length (pairs_of before rs) ≡ length rs
unfolding pairs_of
length-pairs_of before [] = refl
length-pairs_of before (r ∷ rs) = ap suc (length-pairs_of r.1 rs)

-- there are no more ranges than codes
range_count : (floor code : ℕ) (ms : List RangeMapping) (ceiling code_end : ℕ)
    → AreMapped floor code ms ceiling code_end → code + length (ranges_of ms) ≤ code_end
unfolding AreMapped
range_count floor code [] ceiling code_end h = omega (arith, h.1)
range_count floor code (m ∷ ms) ceiling code_end h =
    let rest = range_count (m.end + 4) (code + range_size (m.start, m.end)) ms ceiling code_end h.3 in
    omega (arith, h.1, rest)

end_below : (floor code end : ℕ) (ms : List RangeMapping) (ceiling code_end : ℕ)
    → AreMapped floor code ms ceiling code_end → end + 4 ≤ ceiling
    → fold (λ e (r : ℕ × ℕ). r.1) end (ranges_of ms) + 4 ≤ ceiling
unfolding AreMapped
end_below floor code end [] ceiling code_end h low = low
end_below floor code end (m ∷ ms) ceiling code_end h low =
    let behind = ends (m.end + 4) (code + range_size (m.start, m.end)) ms ceiling code_end h.3 in
    end_below (m.end + 4) (code + range_size (m.start, m.end)) m.end ms ceiling code_end h.3 behind.0

start_below : (floor code : ℕ) (ms : List RangeMapping) (code_end : ℕ)
    → AreMapped floor code ms (2 ^ 128 + 3) code_end → first_start (ranges_of ms) < 2 ^ 128
unfolding AreMapped
start_below floor code [] code_end h = omega arith
start_below floor code (m ∷ ms) code_end h =
    let behind = ends (m.end + 4) (code + range_size (m.start, m.end)) ms (2 ^ 128 + 3) code_end h.3 in
    omega (arith, h.1, behind.0)

module _ (ms : List RangeMapping) (space : IsSpace ms) where
  count_fits : length (ranges_of ms) < 2 ^ 32
  count_fits = let upto = range_count 0 1 ms (2 ^ 128 + 3) (1 + code_count (ranges_of ms)) space.mapped in omega (arith, upto, space.small)

  some_ranges : 1 ≤ length (ranges_of ms)
  some_ranges = let same : length (ranges_of ms) ≡ length ms = length-map ms range_of in omega (arith, same, space.some)

  pub last_below : last_end (ranges_of ms) < 2 ^ 128
  last_below = let upto = end_below 0 1 0 ms (2 ^ 128 + 3) (1 + code_count (ranges_of ms)) space.mapped (omega arith) in omega (arith, upto)

  pub first_below : first_start (ranges_of ms) < 2 ^ 128
  first_below = start_below 0 1 ms (1 + code_count (ranges_of ms)) space.mapped

  -- the ranges of a space are read back, whatever follows
  pub ranges-again : (rest : List ℕ) → ranges_at (ranges_bytes (ranges_of ms) ++ rest) ≡ Some (ranges_of ms, rest)
  unfolding ranges_at
  ranges-again rest =
      let rs : List (ℕ × ℕ) = ranges_of ms in
      let ps : List (ℕ × ℕ) = pairs_of 0 (ranges_of ms) in
      let read : items pair_at (length rs) (flat_map pair_bytes ps ++ rest) ≡ Some (ps, rest) =
      rw (← length-pairs_of 0 (ranges_of ms)) (items-flat_map pair_at pair_bytes FitsPair pair-again ps rest
      (pairs_fit 0 1 0 ms (1 + code_count (ranges_of ms)) space.mapped)) in
      let counted : vint (vint_bytes (length rs) ++ (flat_map pair_bytes ps ++ rest)) ≡ Some
      (length rs, flat_map pair_bytes ps ++ rest) =
      vint-vint_bytes (length rs) (flat_map pair_bytes ps ++ rest) (let c = count_fits in omega (arith, c)) in
      let back : ranges_from 0 ps ≡ rs = ranges_from-pairs_of 0 1 0 ms (2 ^ 128 + 3) (1 + code_count (ranges_of ms))
      space.mapped (omega arith) in
      let far : are_apart ps ≡ true = apart 0 1 0 ms (2 ^ 128 + 3) (1 + code_count (ranges_of ms)) space.mapped in
      rw (append_assoc (vint_bytes (length rs)) (flat_map pair_bytes ps) rest, counted) (rw read (rw (
        back,
        far,
        le-leb 1 (length rs) some_ranges,
        lt-ltb (last_end rs) (2 ^ 128) last_below,
        lt-ltb (code_count rs) (2 ^ 32) space.small,
      ) refl))

-- the same of a list that is those ranges
pub again-of : (ms : List RangeMapping) (rs : List (ℕ × ℕ)) → IsSpace ms → ranges_of ms ≡ rs → (rest : List ℕ)
    → ranges_at (ranges_bytes rs ++ rest) ≡ Some (rs, rest)
again-of ms rs space e rest =
    subst (λ (xs : List (ℕ × ℕ)). ranges_at (ranges_bytes xs ++ rest) ≡ Some (xs, rest)) e
    (ranges-again ms space rest)

-- the parts of the bytes of ranges
pub ranges_bytes-parts : (ms ns : List RangeMapping) (rs : List (ℕ × ℕ)) (n : ℕ) → ns ≡ ms → n ≡ length ns
    → ranges_of ms ≡ rs → vint_bytes n ++ flat_map pair_bytes (pairs_of 0 (ranges_of ns)) ≡ ranges_bytes rs
ranges_bytes-parts ms ns rs n e count same =
    ap (λ k. vint_bytes k ++ flat_map pair_bytes (pairs_of 0 (ranges_of ns))) (count ∙ sym (length-map ns range_of))
    ∙ ap (λ (xs : List (ℕ × ℕ)). ranges_bytes xs) (ap ranges_of e ∙ same)

-- ---- footers

flags-length : 8 ≡ length flags_bytes
unfolding flags_bytes
flags-length = refl

flags-front : (rest : List ℕ) → front 8 (flags_bytes ++ rest) ≡ Some (flags_bytes, rest)
flags-front rest = front-append 8 flags_bytes rest flags-length

flags-zeros : are_zeros flags_bytes ≡ true
unfolding flags_bytes
flags-zeros = refl

-- bounds of lists are possible
bounds-hold : (xs : List ℕ) → length xs < 2 ^ 32 → are_bounds (least_of xs) (greatest_of xs) (length xs) ≡ true
bounds-hold [] few = refl
bounds-hold (x ∷ []) few = let same : max 0 x ≡ x = omega arith in rw (same, eq-eqb x x refl) refl
bounds-hold (x ∷ y ∷ ys) few =
    rw (
      lt-ltb (length (x ∷ y ∷ ys)) (2 ^ 32) few,
      le-leb 2 (length (x ∷ y ∷ ys)) (omega arith),
      le-leb 1 (length (x ∷ y ∷ ys)) (omega arith),
    ) refl

-- those of a list are those of its ranges
pub represented-bounds : (rs : List (ℕ × ℕ)) (n : ℕ) (xs : List ℕ)
    → Represents xs (record { ranges = rs; count = n }) → are_bounds (first_start rs) (last_end rs) n ≡ true
represented-bounds rs n xs is = rw (is.starts, is.ends, is.counts) (bounds-hold xs is.few)

-- the footer of the ranges of a space is read back, whatever follows
pub footer-again : (ms : List RangeMapping) → IsSpace ms → (n : ℕ) → n < 2 ^ 32
    → are_bounds (first_start (ranges_of ms)) (last_end (ranges_of ms)) n ≡ true → (rest : List ℕ)
    → address_footer_at (footer_bytes (footer_of (ranges_of ms) n (width (code_count (ranges_of ms)))) ++ rest)
    ≡ Some (footer_of (ranges_of ms) n (width (code_count (ranges_of ms))), rest)
unfolding address_footer_at
footer-again ms space n few bounds rest =
    let rs : List (ℕ × ℕ) = ranges_of ms in
    let low : ℕ = first_start (ranges_of ms) in
    let high : ℕ = last_end (ranges_of ms) in
    let w : ℕ = width (code_count (ranges_of ms)) in
    let tail : List ℕ = w ∷ ranges_bytes rs in
    rw (
      append_assoc flags_bytes (vint_bytes low ++ (vint_bytes high ++ (vint_bytes n ++ tail))) rest,
      flags-front ((vint_bytes low ++ (vint_bytes high ++ (vint_bytes n ++ tail))) ++ rest),
    )
    (rw (
      append_assoc (vint_bytes low) (vint_bytes high ++ (vint_bytes n ++ tail)) rest,
      vint_u128-vint_bytes low
          ((vint_bytes high ++ (vint_bytes n ++ tail)) ++ rest) (first_below ms space),
    )
    (rw (
      append_assoc (vint_bytes high) (vint_bytes n ++ tail) rest,
      vint_u128-vint_bytes high
          ((vint_bytes n ++ tail) ++ rest) (last_below ms space),
    )
    (rw (append_assoc (vint_bytes n) tail rest, vint_u128-vint_bytes n (tail ++ rest) (omega (arith, few)))
    (rw (ranges-again ms space rest)
    (rw (flags-zeros, bounds, eq-eqb w w refl, eq-eqb low low refl, eq-eqb high high refl) refl)))))

-- the same of a footer that is theirs
pub footer-again-of : (ms : List RangeMapping) (rs : List (ℕ × ℕ)) (n w : ℕ) (f : AddressFooter) → IsSpace ms
    → ranges_of ms ≡ rs → w ≡ width (code_count rs) → footer_of rs n w ≡ f → n < 2 ^ 32
    → are_bounds (first_start rs) (last_end rs) n ≡ true → (rest : List ℕ)
    → address_footer_at (footer_bytes f ++ rest) ≡ Some (f, rest)
footer-again-of ms rs n w f space e v g few bounds rest =
    let held : AddressFooter = footer_of (ranges_of ms) n (width (code_count (ranges_of ms))) in
    let same : held ≡ f = ap (λ xs. footer_of xs n (width (code_count xs))) e ∙ ap (footer_of rs n) (sym v) ∙ g in
    subst (λ h. address_footer_at (footer_bytes h ++ rest) ≡ Some (h, rest)) same
    (footer-again ms space n few (subst (λ xs. are_bounds (first_start xs) (last_end xs) n ≡ true) (sym e) bounds) rest)
