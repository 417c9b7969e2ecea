-- The maps between the numerical types, and between the halves, keep the order.
use Rattle.std.proofs.Common.{◌≡◌, ℕ, ℤ, pos, negsuc, nat_abs, Bool, true, false, Some, refl, ap, arith}
use Rattle.std.specs.Ordering.{int_cmp}
use Rattle.std.proofs.lemmas.Bool.Decides.{nat_tests}
use Rattle.std.proofs.lemmas.Int.{ints}
use Rattle.col_model.specs.Monotonic.{Passes, IsMonotonic}
use Rattle.col_model.specs.Codes.{number_cmp}
use Rattle.col_model.specs.Coercions.{fits_i64, fits_u64, is_in_half, moved, moved_back}

i64_compares : (x y : ℤ) → Passes fits_u64 x → Passes fits_u64 y →
    number_cmp (nat_abs x) (nat_abs y) ≡ Some (int_cmp x y)
i64_compares (pos m) (pos n) h k = ap Some (grind (arith, nat_tests))
i64_compares (pos m) (negsuc n) h k = absurd (grind (arith, ints, nat_tests))
i64_compares (negsuc m) y h k = absurd (grind (arith, ints, nat_tests))

i64_undoes : (x : ℤ) → Passes fits_u64 x → pos (nat_abs x) ≡ x
i64_undoes (pos n) h = refl
i64_undoes (negsuc n) h = absurd (grind (arith, ints, nat_tests))

pub i64_to_u64_laws : IsMonotonic (λ x y. Some (int_cmp x y)) number_cmp fits_u64 nat_abs pos
i64_to_u64_laws = record { compares = i64_compares; undoes = i64_undoes }

pub u64_to_i64_laws : IsMonotonic number_cmp (λ x y. Some (int_cmp x y)) fits_i64 pos nat_abs
u64_to_i64_laws = record {
  compares = λ x y h k. ap Some (grind (arith, nat_tests));
  undoes = λ x h. refl;
}

moved_compares : (rises : Bool) (x y : ℕ) →
    Passes (is_in_half rises) x → Passes (is_in_half rises) y →
    number_cmp (moved rises x) (moved rises y) ≡ number_cmp x y
moved_compares true x y h k = ap Some (grind (arith, nat_tests))
moved_compares false x y h k = ap Some (grind (arith, nat_tests))

moved_undoes : (rises : Bool) (x : ℕ) → Passes (is_in_half rises) x →
    moved_back rises (moved rises x) ≡ x
moved_undoes true x h = omega arith
moved_undoes false x h = grind (arith, nat_tests)

pub moved_laws : (rises : Bool) →
    IsMonotonic number_cmp number_cmp (is_in_half rises) (moved rises) (moved_back rises)
moved_laws rises = record { compares = moved_compares rises; undoes = moved_undoes rises }
