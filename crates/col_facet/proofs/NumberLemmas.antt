-- Numbers and their cells, by how far they stand above a least one.
use Rattle.std.proofs.Common.{◌≡◌, ℕ, ℤ, pos, negsuc, ◌+◌, ◌-◌, ◌<◌, ◌≤◌, ◌^◌, ◌+ℤ◌, Bool, true, false, ap, arith}
use Rattle.std.specs.Prelude.{Some}
use Rattle.std.specs.Ordering.{int_cmp, bool_cmp, partial_le}
use Rattle.std.specs.declared.cmp.Ordering.TheVariants.{Less}
use Rattle.std.proofs.lemmas.Bool.Decides.{nat_tests}
use Rattle.std.proofs.lemmas.Int.{ints}
use Rattle.col_model.specs.Codes.{number_cmp, is_below, bool_code, i64_code, is_i64}
use Rattle.col_facet.specs.Cells.{cell_cmp}
use Rattle.col_facet.specs.Tables.{AreRising, HasPlaces}
use Rattle.col_facet.specs.declared.facet_cell.FacetCell.TheVariants.{Addr, Num}

rising : (a i j : ℕ) → i < j → cell_cmp (Num (pos (a + i))) (Num (pos (a + j))) ≡ Less
rising a i j h = grind (arith, ints, nat_tests)

-- the cells of addresses from one on ascend
pub addresses-rise : (a m : ℕ) → AreRising (λ n. Addr (a + n)) m
addresses-rise a m i j h l = grind (arith, ints, nat_tests)

signed-rising : (z : ℤ) (i j : ℕ) → i < j → cell_cmp (Num (z +ℤ pos i)) (Num (z +ℤ pos j)) ≡ Less
signed-rising z i j h = grind (arith, ints, nat_tests)

-- ---- numbers without a sign

at-most : (a b : ℕ) → partial_le number_cmp a b ≡ true → a ≤ b
at-most a b h = grind (arith, nat_tests)

far : (a b : ℕ) → a ≤ b → b ≡ a + (b - a)
far a b h = omega (arith, h)

-- a number stands so far above a least one as it is greater
pub u64_places : HasPlaces number_cmp (is_below (2 ^ 64)) (λ n. n) (λ n. Num (pos n)) (λ least n. Num (pos (least + n)))
u64_places = record {
  rising = λ least m i j h l. rising least i j h;
  from = λ least x h e. at-most least x e;
  stands = λ least x h e. ap (λ n. Num (pos n)) (far least x (at-most least x e));
  below = λ x greatest e. at-most x greatest e;
}

-- ---- flags

bool_from : (a b : Bool) → partial_le (λ x y. Some (bool_cmp x y)) a b ≡ true → bool_code a ≤ bool_code b
bool_from true true e = omega arith
bool_from false true e = omega arith
bool_from false false e = omega arith
bool_from true false e = grind (arith, nat_tests)

-- so does the number of a flag
pub bool_places : HasPlaces (λ x y. Some (bool_cmp x y)) (λ _. true) bool_code (λ b. Num (pos (bool_code b)))
    (λ least n. Num (pos (bool_code least + n)))
bool_places = record {
  rising = λ least m i j h l. rising (bool_code least) i j h;
  from = λ least x h e. bool_from least x e;
  stands = λ least x h e. ap (λ n. Num (pos n)) (far (bool_code least) (bool_code x) (bool_from least x e));
  below = λ x greatest e. bool_from x greatest e;
}

-- ---- signed numbers

i64_from : (a b : ℤ) → partial_le (λ x y. Some (int_cmp x y)) a b ≡ true → i64_code a ≤ i64_code b
i64_from (pos a) (pos b) e = grind (arith, ints, nat_tests)
i64_from (pos a) (negsuc b) e = grind (arith, ints, nat_tests)
i64_from (negsuc a) (pos b) e = grind (arith, ints, nat_tests)
i64_from (negsuc a) (negsuc b) e = grind (arith, ints, nat_tests)

i64_far : (a b : ℤ) → is_i64 a ≡ true → partial_le (λ x y. Some (int_cmp x y)) a b ≡ true
    → b ≡ a +ℤ pos (i64_code b - i64_code a)
i64_far (pos a) (pos b) h e = grind (arith, ints, nat_tests)
i64_far (pos a) (negsuc b) h e = grind (arith, ints, nat_tests)
i64_far (negsuc a) (pos b) h e = grind (arith, ints, nat_tests)
i64_far (negsuc a) (negsuc b) h e = grind (arith, ints, nat_tests)

-- so does a signed number, by what stands for it
pub i64_places : HasPlaces (λ x y. Some (int_cmp x y)) is_i64 i64_code (λ z. Num z) (λ least n. Num (least +ℤ pos n))
i64_places = record {
  rising = λ least m i j h l. signed-rising least i j h;
  from = λ least x h e. i64_from least x e;
  stands = λ least x h e. ap Num (i64_far least x h e);
  below = λ x greatest e. i64_from x greatest e;
}
