-- What is written of numbers stands for them.
use Rattle.std.proofs.Common.{◌≡◌, ℕ, ◌+◌, ◌-◌, ◌^◌, ◌<◌, ◌≤◌, true, List, [], ◌∷◌, length, map, Some, Result, refl, sym, ◌∙◌, ap, arith, append-nil, lt_of_le_of_lt}
use Rattle.std.specs.Int.{is_in_range}
use Rattle.std.specs.List.{list_all}
use Rattle.std.specs.Option.{unwrap_or}
use Rattle.std.specs.Result.{result_ok}
use Rattle.std.proofs.lemmas.Bool.{le-leb, lt-ltb, eq-eqb, and_parts}
use Rattle.std.proofs.lemmas.List.{length-map}
use Rattle.col_common.specs.Ascending.{AreBelow}
use Rattle.col_common.proofs.VIntLemmas.{vint-vint_bytes}
use Rattle.col_bits.specs.Packed.{packed, width}
use Rattle.col_bits.proofs.PackedLemmas.{packed-packed_bytes}
use Rattle.col_model.specs.Stats.{least_of, greatest_of}
use Rattle.col_model.specs.AddressList.{code_count, coded_number, address_footer, coded_values, values128}
use Rattle.col_model.proofs.ReadingLaws.{parts_by_second-w64}
use Rattle.col_model.proofs.WidthLaws.{width-above}
use Rattle.col_compact.specs.declared.compact_space.RangeMapping.{RangeMapping}
use Rattle.col_compact.specs.Mapped.{IsSpace, ranges_of}
use Rattle.col_compact.specs.Hits.{code_of}
use Rattle.col_compact.specs.Covers.{Trained, Represents, cover, is_in_ranges}
use Rattle.col_compact.specs.Written.{footer_bytes, trained_footer, codes_bytes, coded_bytes, list_bytes}
use Rattle.col_compact.proofs.HitLemmas.{placed_at}
use Rattle.col_compact.proofs.SpaceLemmas.{space_has_code}
use Rattle.col_compact.proofs.SpelledLemmas.{represented-bounds, footer-again}

-- a number that a range has: its code, and back
record IsCoded (rs : List (ℕ × ℕ)) (x : ℕ) : Type 0 where
  first : 1 ≤ code_of rs x
  last : code_of rs x ≤ code_count rs
  undone : coded_number rs (code_of rs x) ≡ x

is_coded : (ms : List RangeMapping) (x : ℕ) → IsSpace ms → is_in_ranges (ranges_of ms) x ≡ true → IsCoded (ranges_of ms) x
is_coded ms x space inside =
    let has = space_has_code ms x space inside in
    let from = has.from in
    let upto = has.upto in
    let code : code_of (ranges_of ms) x ≡ has.found =
    ap (λ (r : Result ℕ ℕ). unwrap_or (result_ok r) 0) (sym (placed_at ms x space) ∙ has.is) in
    let same : code_of (ranges_of ms) x ≡ has.found + 1 - 1 = omega (arith, code) in
    record {
      first = omega (arith, code, from);
      last = omega (arith, code, upto);
      undone = ap (coded_number (ranges_of ms)) same ∙ has.undone;
    }

module _ (ms : List RangeMapping) (space : IsSpace ms) where
  numbers-again : (xs : List ℕ) → cover (ranges_of ms) xs ≡ true → map (coded_number (ranges_of ms)) (map (code_of (ranges_of ms)) xs) ≡ xs
  numbers-again [] inside = refl
  numbers-again (x ∷ xs) inside =
      let parts = and_parts (is_in_ranges (ranges_of ms) x) (cover (ranges_of ms) xs) inside in
      rw ((is_coded ms x space parts.0).undone, numbers-again xs parts.1) refl

  codes-inside : (xs : List ℕ) → cover (ranges_of ms) xs ≡ true
      → list_all (is_in_range 1 (code_count (ranges_of ms))) (map (code_of (ranges_of ms)) xs) ≡ true
  codes-inside [] inside = refl
  codes-inside (x ∷ xs) inside =
      let parts = and_parts (is_in_ranges (ranges_of ms) x) (cover (ranges_of ms) xs) inside in
      let coded = is_coded ms x space parts.0 in
      rw (
        le-leb 1 (code_of (ranges_of ms) x) coded.first,
        le-leb (code_of (ranges_of ms) x) (code_count (ranges_of ms)) coded.last,
        codes-inside xs parts.1,
      ) refl

  codes-narrow : (xs : List ℕ) → cover (ranges_of ms) xs ≡ true
      → AreBelow (2 ^ width (code_count (ranges_of ms))) (map (code_of (ranges_of ms)) xs)
  codes-narrow [] inside = tt
  codes-narrow (x ∷ xs) inside =
      let parts = and_parts (is_in_ranges (ranges_of ms) x) (cover (ranges_of ms) xs) inside in
      let coded = is_coded ms x space parts.0 in (
        lt_of_le_of_lt coded.last
            (width-above (code_count (ranges_of ms)) (let s = space.small in omega (arith, s))),
        codes-narrow xs parts.1,
      )

  module _ (n : ℕ) (xs : List ℕ) (is : Represents xs (record { ranges = ranges_of ms; count = n })) where
    codes-again :
        packed (codes_bytes (record { ranges = ranges_of ms; count = n }) xs) (width (code_count (ranges_of ms))) n
        ≡ Some (map (code_of (ranges_of ms)) xs)
    codes-again =
        let long : n ≡ length (map (code_of (ranges_of ms)) xs) = is.counts ∙ sym (length-map xs (code_of (ranges_of ms))) in
        rw long (packed-packed_bytes (width (code_count (ranges_of ms))) (map (code_of (ranges_of ms)) xs) (codes-narrow xs is.covers))

    footer-whole : address_footer (footer_bytes (trained_footer (record { ranges = ranges_of ms; count = n })))
        ≡ Some (trained_footer (record { ranges = ranges_of ms; count = n }))
    footer-whole =
        let f : List ℕ = footer_bytes (trained_footer (record { ranges = ranges_of ms; count = n })) in
        rw (← append-nil f) (rw (footer-again ms space n
        (let c = is.counts in let few = is.few in omega (arith, c, few))
        (represented-bounds (ranges_of ms) n xs is) []) refl)

    -- the packed codes with their footer stand for the numbers
    pub coded-again : length (footer_bytes (trained_footer (record { ranges = ranges_of ms; count = n }))) < 2 ^ 64
        → coded_values (coded_bytes (record { ranges = ranges_of ms; count = n }) xs) ≡ Some xs
    unfolding coded_values
    coded-again fits =
        let rs : List (ℕ × ℕ) = ranges_of ms in
        let parts = parts_by_second-w64 (codes_bytes (record { ranges = ranges_of ms; count = n }) xs)
        (footer_bytes (trained_footer (record { ranges = ranges_of ms; count = n }))) fits in
        rw parts (rw footer-whole (rw codes-again (rw (
          codes-inside xs is.covers,
          numbers-again xs is.covers,
          is.starts,
          is.ends,
          eq-eqb (least_of xs) (least_of xs) refl,
          eq-eqb (greatest_of xs) (greatest_of xs) refl,
        ) refl)))

-- so they do behind the count and the codec's byte
pub list-again : (t : Trained) (xs : List ℕ) → Represents xs t → coded_values (coded_bytes t xs) ≡ Some xs
    → values128 (list_bytes t xs) ≡ Some xs
unfolding values128
list-again t xs is again =
    let body : List ℕ = coded_bytes t xs in
    let few : t.count < 2 ^ 32 = let c = is.counts in let f = is.few in omega (arith, c, f) in
    let head = vint-vint_bytes t.count (1 ∷ body) (omega (arith, few)) in
    rw head (rw (lt-ltb t.count (2 ^ 32) few) (rw again (rw (eq-eqb (length xs) t.count (sym is.counts)) refl)))
