-- A footer whose parts are tested where they stand.
use Rattle.std.proofs.Common.{◌≡◌, ℕ, ◌&&◌, ◌==◌, Bool, true, false, List, Option, Some, None, refl, sym, ◌∙◌, ap}
use Rattle.std.proofs.lemmas.Bool.{and_parts, eqb-true}
use Rattle.col_common.specs.Reading.{◌>>=◌, only_if, front, byte_at}
use Rattle.col_common.specs.VInt.{vint_u128}
use Rattle.col_bits.specs.Packed.{width}
use Rattle.col_model.specs.AddressList.{AddressFooter, are_zeros, are_bounds, code_count, first_start, last_end, ranges_at, address_footer_at}
use Rattle.col_compact.specs.Params.{Head, head_at, footer_of, CountFits}

-- what the ranges must be for a head
abbrev pub is_head_of : Head → List (ℕ × ℕ) → Bool
is_head_of h rs = (h.code_width == width (code_count rs)) && (first_start rs == h.least) && (last_end rs == h.greatest)

-- the footer of a head and ranges
abbrev footer_by : Head → List (ℕ × ℕ) → AddressFooter
footer_by h rs = record { least = h.least; greatest = h.greatest; count = h.count; code_width = h.code_width; ranges = rs }

abbrev head_by : ℕ → ℕ → ℕ → ℕ → Head
head_by l g c w = record { least = l; greatest = g; count = c; code_width = w }

-- ---- with all tests at the end

abbrev late_ranges : Bool → ℕ → ℕ → ℕ → ℕ → List (ℕ × ℕ) × List ℕ → Option (AddressFooter × List ℕ)
late_ranges b l g c w rs =
    only_if (b && (w == width (code_count rs.0)) && (first_start rs.0 == l) && (last_end rs.0 == g))
    (footer_by (head_by l g c w) rs.0, rs.1)

abbrev late_width : Bool → ℕ → ℕ → ℕ → ℕ × List ℕ → Option (AddressFooter × List ℕ)
late_width z l g c w = ranges_at w.1 >>= late_ranges (z && are_bounds l g c) l g c w.0

abbrev late_count : Bool → ℕ → ℕ → ℕ × List ℕ → Option (AddressFooter × List ℕ)
late_count z l g c = byte_at c.1 >>= late_width z l g c.0

abbrev late_greatest : Bool → ℕ → ℕ × List ℕ → Option (AddressFooter × List ℕ)
late_greatest z l g = vint_u128 g.1 >>= late_count z l g.0

abbrev late_least : Bool → ℕ × List ℕ → Option (AddressFooter × List ℕ)
late_least z l = vint_u128 l.1 >>= late_greatest z l.0

abbrev late : List ℕ × List ℕ → Option (AddressFooter × List ℕ)
late p = vint_u128 p.1 >>= late_least (are_zeros p.0)

-- ---- with each test where it stands

-- a footer made of its head and ranges, where these fit the head
abbrev pub with_ranges : Head → List (ℕ × ℕ) × List ℕ → Option (AddressFooter × List ℕ)
with_ranges h rs = only_if (is_head_of h rs.0) (footer_by h rs.0, rs.1)

abbrev with_head : Head × List ℕ → Option (AddressFooter × List ℕ)
with_head h = ranges_at h.1 >>= with_ranges h.0

abbrev head_width : ℕ → ℕ → ℕ → ℕ × List ℕ → Option (Head × List ℕ)
head_width l g c w = only_if (are_bounds l g c) (head_by l g c w.0, w.1)

abbrev head_count : ℕ → ℕ → ℕ × List ℕ → Option (Head × List ℕ)
head_count l g c = byte_at c.1 >>= head_width l g c.0

abbrev head_greatest : ℕ → ℕ × List ℕ → Option (Head × List ℕ)
head_greatest l g = vint_u128 g.1 >>= head_count l g.0

abbrev head_least : ℕ × List ℕ → Option (Head × List ℕ)
head_least l = vint_u128 l.1 >>= head_greatest l.0

abbrev head : List ℕ → Option (Head × List ℕ)
head rest = vint_u128 rest >>= head_least

-- ---- flags that aren't 0

none_ranges : (b : Bool) (l g c w : ℕ) (o : Option (List (ℕ × ℕ) × List ℕ)) → b ≡ false → (o >>= late_ranges b l g c w) ≡ None
none_ranges b l g c w None e = refl
none_ranges b l g c w (Some rs) e = ap (λ t. late_ranges t l g c w rs) e

none_width : (l g c : ℕ) (o : Option (ℕ × List ℕ)) → (o >>= late_width false l g c) ≡ None
none_width l g c None = refl
none_width l g c (Some w) = none_ranges (false && are_bounds l g c) l g c w.0 (ranges_at w.1) refl

none_count : (l g : ℕ) (o : Option (ℕ × List ℕ)) → (o >>= late_count false l g) ≡ None
none_count l g None = refl
none_count l g (Some c) = none_width l g c.0 (byte_at c.1)

none_greatest : (l : ℕ) (o : Option (ℕ × List ℕ)) → (o >>= late_greatest false l) ≡ None
none_greatest l None = refl
none_greatest l (Some g) = none_count l g.0 (vint_u128 g.1)

none_least : (o : Option (ℕ × List ℕ)) → (o >>= late_least false) ≡ None
none_least None = refl
none_least (Some l) = none_greatest l.0 (vint_u128 l.1)

-- ---- flags that are 0

same_ranges : (b : Bool) (l g c : ℕ) (w : ℕ × List ℕ)
    → (ranges_at w.1 >>= late_ranges b l g c w.0) ≡ (only_if b (head_by l g c w.0, w.1) >>= with_head)
same_ranges true l g c w = refl
same_ranges false l g c w = none_ranges false l g c w.0 (ranges_at w.1) refl

same_width : (l g c : ℕ) (o : Option (ℕ × List ℕ)) → (o >>= late_width true l g c) ≡ (o >>= head_width l g c >>= with_head)
same_width l g c None = refl
same_width l g c (Some w) = same_ranges (are_bounds l g c) l g c w

same_count : (l g : ℕ) (o : Option (ℕ × List ℕ)) → (o >>= late_count true l g) ≡ (o >>= head_count l g >>= with_head)
same_count l g None = refl
same_count l g (Some c) = same_width l g c.0 (byte_at c.1)

same_greatest : (l : ℕ) (o : Option (ℕ × List ℕ)) → (o >>= late_greatest true l) ≡ (o >>= head_greatest l >>= with_head)
same_greatest l None = refl
same_greatest l (Some g) = same_count l g.0 (vint_u128 g.1)

same_least : (o : Option (ℕ × List ℕ)) → (o >>= late_least true) ≡ (o >>= head_least >>= with_head)
same_least None = refl
same_least (Some l) = same_greatest l.0 (vint_u128 l.1)

same_flags : (z : Bool) (rest : List ℕ) → (vint_u128 rest >>= late_least z) ≡ (only_if z rest >>= head >>= with_head)
same_flags true rest = same_least (vint_u128 rest)
same_flags false rest = none_least (vint_u128 rest)

abbrev flags_are_zeros : List ℕ × List ℕ → Option (List ℕ)
flags_are_zeros p = only_if (are_zeros p.0) p.1

by_head : (o : Option (List ℕ × List ℕ)) → (o >>= late) ≡ (o >>= flags_are_zeros >>= head >>= with_head)
by_head None = refl
by_head (Some p) = same_flags (are_zeros p.0) p.1

footer_is : (bytes : List ℕ) → address_footer_at bytes ≡ (head_at bytes >>= with_head)
unfolding address_footer_at head_at
footer_is bytes = by_head (front 8 bytes)

-- ---- for a reader

-- bytes without a head are no footer
pub footer-none : (bytes : List ℕ) → head_at bytes ≡ None → address_footer_at bytes ≡ None
footer-none bytes e = footer_is bytes ∙ ap (λ o. o >>= with_head) e

-- bytes with a head are the footer of this and of the ranges behind it
pub footer-head : (bytes rest : List ℕ) (h : Head) → head_at bytes ≡ Some (h, rest)
    → address_footer_at bytes ≡ (ranges_at rest >>= with_ranges h)
footer-head bytes rest h e = footer_is bytes ∙ ap (λ o. o >>= with_head) e

-- ranges that don't fit the head are no footer
pub footer-other : (bytes rest tail : List ℕ) (h : Head) (rs : List (ℕ × ℕ)) → head_at bytes ≡ Some (h, rest)
    → ranges_at rest ≡ Some (rs, tail) → is_head_of h rs ≡ false → address_footer_at bytes ≡ None
footer-other bytes rest tail h rs e f is =
    footer-head bytes rest h e ∙ ap (λ o. o >>= with_ranges h) f ∙ ap (λ b. only_if b (footer_by h rs, tail)) is

-- the head says what the ranges say
record IsHeadOf (h : Head) (rs : List (ℕ × ℕ)) : Type 0 where
  width_is : h.code_width ≡ width (code_count rs)
  starts : first_start rs ≡ h.least
  ends : last_end rs ≡ h.greatest

is_head : (h : Head) (rs : List (ℕ × ℕ)) → is_head_of h rs ≡ true → IsHeadOf h rs
is_head h rs e =
    let outer = and_parts ((h.code_width == width (code_count rs)) && (first_start rs == h.least)) (last_end rs == h.greatest) e in
    let inner = and_parts (h.code_width == width (code_count rs)) (first_start rs == h.least) outer.0 in
    record {
      width_is = eqb-true h.code_width (width (code_count rs)) inner.0;
      starts = eqb-true (first_start rs) h.least inner.1;
      ends = eqb-true (last_end rs) h.greatest outer.1;
    }

-- ranges that fit a head fit its count, where the head's bounds do
pub count-fits : (h : Head) (rs : List (ℕ × ℕ)) → are_bounds h.least h.greatest h.count ≡ true
    → is_head_of h rs ≡ true → CountFits rs h.count
count-fits h rs b e =
    let is = is_head h rs e in ap (λ l. are_bounds l (last_end rs) h.count) is.starts ∙ ap
    (λ g. are_bounds h.least g h.count) is.ends ∙ b

-- ranges that fit the head are the footer's, with its count and the width of their codes
pub footer-some : (bytes rest tail : List ℕ) (h : Head) (rs : List (ℕ × ℕ)) → head_at bytes ≡ Some (h, rest)
    → ranges_at rest ≡ Some (rs, tail) → is_head_of h rs ≡ true
    → address_footer_at bytes ≡ Some (footer_of rs h.count (width (code_count rs)), tail)
footer-some bytes rest tail h rs e f is =
    let s = is_head h rs is in
    footer-head bytes rest h e ∙ ap (λ o. o >>= with_ranges h) f ∙ ap (λ b. only_if b (footer_by h rs, tail)) is
    ∙ (λ i. Some (
      record {
        least = sym s.starts i;
        greatest = sym s.ends i;
        count = h.count;
        code_width = s.width_is i;
        ranges = rs;
      },
      tail,
    ))
