-- The types whose values stand as numbers.
use Rattle.std.proofs.Common.{◌≡◌, ℕ, ℤ, pos, negsuc, ◌<◌, ◌^◌, ◌&&◌, Bool, true, false, Option, Some, refl, sym, ap, ◌∙◌, arith, true≢false}
use Rattle.std.specs.Ordering.{int_cmp, bool_cmp}
use Rattle.std.proofs.lemmas.Bool.Decides.{nat_tests}
use Rattle.std.proofs.lemmas.Int.{ints}
use Rattle.std.specs.declared.cmp.Ordering.{Ordering}
use Rattle.col_model.specs.Column.{signed_of}
use Rattle.col_model.specs.Images.{is_image_of_bool, is_image_of_u32}
use Rattle.col_model.specs.Monotonic.{Passes, IsMonotonic}
use Rattle.col_model.specs.Codes.{IsCoded, number_cmp, is_below, bool_code, bool_value, i64_code, is_i64}

below : (limit n : ℕ) → is_below limit n ≡ true → n < limit
below limit n h = grind (arith, nat_tests)

passes_below : (limit n : ℕ) → n < limit → is_below limit n ≡ true
passes_below limit n h = grind (arith, nat_tests)

-- each number below the limit is a value that stands for itself
pub number_laws : (limit : ℕ) →
    IsCoded limit number_cmp (is_below limit) (λ n. n) (λ n. n) (λ _. true)
number_laws limit = record {
  compares = λ x y _ _. refl;
  undoes = λ x _. refl;
  fits = below limit;
  image = λ x _. refl;
  known = λ n h _. passes_below limit n h;
  again = λ n _ _. refl;
}

pub u32_laws : IsCoded (2 ^ 64) number_cmp (is_below (2 ^ 32)) (λ n. n) (λ n. n) is_image_of_u32
u32_laws = record {
  compares = λ x y _ _. refl;
  undoes = λ x _. refl;
  fits = λ x h. grind (arith, nat_tests);
  image = λ x h. h;
  known = λ n h k. k;
  again = λ n _ _. refl;
}

bool_compares : (x y : Bool) → number_cmp (bool_code x) (bool_code y) ≡ Some (bool_cmp x y)
bool_compares false false = refl
bool_compares false true = refl
bool_compares true false = refl
bool_compares true true = refl

bool_undoes : (x : Bool) → bool_value (bool_code x) ≡ x
bool_undoes true = refl
bool_undoes false = refl

bool_fits : (x : Bool) → bool_code x < 2 ^ 64
bool_fits true = omega arith
bool_fits false = omega arith

bool_image : (x : Bool) → is_image_of_bool (bool_code x) ≡ true
bool_image true = refl
bool_image false = refl

bool_again : (n : ℕ) → is_image_of_bool n ≡ true → bool_code (bool_value n) ≡ n
bool_again n h = grind (arith, nat_tests)

-- the codes 0 and 1 stand for the two truth values, in their order
pub bool_laws : IsCoded (2 ^ 64) (λ x y. Some (bool_cmp x y)) (λ _. true)
    bool_code bool_value is_image_of_bool
bool_laws = record {
  compares = λ x y _ _. bool_compares x y;
  undoes = λ x _. bool_undoes x;
  fits = λ x _. bool_fits x;
  image = λ x _. bool_image x;
  known = λ n _ _. refl;
  again = λ n _ h. bool_again n h;
}

i64_compares : (x y : ℤ) → is_i64 x ≡ true → is_i64 y ≡ true →
    number_cmp (i64_code x) (i64_code y) ≡ Some (int_cmp x y)
i64_compares (pos m) (pos n) h k = ap Some (grind (arith, nat_tests))
i64_compares (pos m) (negsuc n) h k = ap Some (grind (arith, nat_tests))
i64_compares (negsuc m) (pos n) h k = ap Some (grind (arith, nat_tests))
i64_compares (negsuc m) (negsuc n) h k = ap Some (grind (arith, nat_tests))

i64_undoes : (x : ℤ) → is_i64 x ≡ true → signed_of (i64_code x) ≡ x
i64_undoes (pos n) h = omega (arith, ints)
i64_undoes (negsuc n) h = grind (arith, ints, nat_tests)

i64_fits : (x : ℤ) → is_i64 x ≡ true → i64_code x < 2 ^ 64
i64_fits (pos n) h = grind (arith, nat_tests)
i64_fits (negsuc n) h = grind (arith, nat_tests)

i64_known : (n : ℕ) → n < 2 ^ 64 → is_i64 (signed_of n) ≡ true
i64_known n h = grind (arith, ints, nat_tests)

i64_again : (n : ℕ) → n < 2 ^ 64 → i64_code (signed_of n) ≡ n
i64_again n h = grind (arith, ints, nat_tests)

-- the numbers below 2 ^ 64 stand for the signed ones, in their order
pub i64_laws : IsCoded (2 ^ 64) (λ x y. Some (int_cmp x y)) is_i64 i64_code signed_of (λ _. true)
i64_laws = record {
  compares = i64_compares;
  undoes = i64_undoes;
  fits = i64_fits;
  image = λ x _. refl;
  known = λ n h _. i64_known n h;
  again = λ n h _. i64_again n h;
}

left_true : (s t : Bool) → (s && t) ≡ true → s ≡ true
left_true true t h = refl
left_true false t h = h

right_true : (s t : Bool) → (s && t) ≡ true → t ≡ true
right_true true t h = h
right_true false t h = absurd (true≢false (sym h))

module _ {X : Type 0} {limit : ℕ} {cmp : X → X → Option Ordering} {in_type : X → Bool}
    {code : X → ℕ} {value : ℕ → X} {is_image : ℕ → Bool}
    (laws : IsCoded limit cmp in_type code value is_image) where
  -- from values to their numbers
  pub to_internal_laws : IsMonotonic cmp number_cmp in_type code value
  to_internal_laws = record { compares = laws.compares; undoes = laws.undoes }

  module _ (is_in : ℕ → Bool)
      (inside : (n : ℕ) → Passes is_in n → (n < limit) × Passes is_image n) where
    in_known : (n : ℕ) → Passes is_in n → Passes in_type (value n)
    in_known n h = let p = inside n h in laws.known n p.0 p.1

    in_again : (n : ℕ) → Passes is_in n → code (value n) ≡ n
    in_again n h = let p = inside n h in laws.again n p.0 p.1

    in_laws : IsMonotonic number_cmp cmp is_in value code
    in_laws = record {
      compares = λ m n h k.
          sym (laws.compares (value m) (value n) (in_known m h) (in_known n k))
          ∙ (λ i. number_cmp (in_again m h i) (in_again n k i));
      undoes = in_again;
    }

  -- from the images to their values
  pub inverter_laws : IsMonotonic number_cmp cmp (λ n. is_below limit n && is_image n) value code
  inverter_laws = in_laws (λ n. is_below limit n && is_image n)
      (λ n h. (
        below limit n (left_true (is_below limit n) (is_image n) h),
        right_true (is_below limit n) (is_image n) h,
      ))

  -- the same where each number is an image
  pub onto_laws : ((n : ℕ) → Passes is_image n) →
      IsMonotonic number_cmp cmp (is_below limit) value code
  onto_laws each = in_laws (is_below limit) (λ n h. (below limit n h, each n))
