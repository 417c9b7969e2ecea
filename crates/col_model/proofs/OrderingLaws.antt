-- What the tests of an ordering say, how numbers compare, and which byte lists are equal.
use Rattle.std.proofs.Common.{◌≡◌, ℕ, ◌<◌, ◌==◌, nat_lt, Bool, true, false, cond, T, List, bytes_eq, refl, sym, ap, ◌∙◌, arith}
use Rattle.std.specs.declared.cmp.Ordering.{Ordering}
use Rattle.std.specs.declared.cmp.Ordering.TheVariants.{Less, Equal, Greater}
use Rattle.std.specs.Ordering.{nat_cmp, is_lt, is_eq}
use Rattle.std.specs.Cmp.Lexicographic.{slice_cmp}
use Rattle.std.proofs.lemmas.Cmp.{tied_itself, nat_list_cmp_total}
use Rattle.std.proofs.lemmas.Slice.Eq.{bytes_eq-Decides}
use Rattle.col_common.specs.Ascending.{is_before}
use Rattle.std.proofs.lemmas.Bool.{false≢true, lt-ltb, le-ltb, ne_eqb, ltb-true}

-- an ordering that passes the test for less is Less
pub less_where : (o : Ordering) → is_lt o ≡ true → o ≡ Less
less_where Less e = refl
less_where Equal e = absurd (false≢true e)
less_where Greater e = absurd (false≢true e)

-- an ordering for which the test for less is a fact is Less
pub less_of : (o : Ordering) → T (is_lt o) → o ≡ Less
less_of Less p = refl
less_of Equal p = absurd p
less_of Greater p = absurd p

-- an ordering that passes the test for equal is Equal
pub equal_of : (o : Ordering) → is_eq o ≡ true → o ≡ Equal
equal_of Less e = absurd (false≢true e)
equal_of Equal e = refl
equal_of Greater e = absurd (false≢true e)

-- a smaller number compares as less
pub nat_cmp-less : (a b : ℕ) → a < b → nat_cmp a b ≡ Less
nat_cmp-less a b h = rw (lt-ltb a b h) refl

-- a greater number compares as greater
pub nat_cmp-greater : (a b : ℕ) → b < a → nat_cmp a b ≡ Greater
nat_cmp-greater a b h = rw (le-ltb a b (omega arith), ne_eqb a b (λ e. omega arith)) refl

less-test : (t u : Bool) → is_lt (cond t Less (cond u Equal Greater)) ≡ true → t ≡ true
less-test true u e = refl
less-test false true e = absurd (false≢true e)
less-test false false e = absurd (false≢true e)

-- a number that passes the test for less than another is below it
pub nat_less : (a b : ℕ) → is_lt (nat_cmp a b) ≡ true → a < b
nat_less a b e = ltb-true a b (less-test (nat_lt a b) (a == b) e)

-- byte lists that pass the test of equality are equal
pub bytes_eq-true : (a b : List ℕ) → bytes_eq a b ≡ true → a ≡ b
bytes_eq-true a b e = (bytes_eq-Decides a b).0 e

-- a byte list passes the test of equality with itself
pub bytes_eq-same : (a : List ℕ) → bytes_eq a a ≡ true
bytes_eq-same a = (bytes_eq-Decides a a).1 refl

-- a byte list before another is before each that the other is before
pub before-trans : (a b c : List ℕ) → is_before a b ≡ true → is_before b c ≡ true → is_before a c ≡ true
before-trans a b c e f =
    ap is_lt (nat_list_cmp_total.trans a b c (less_where (slice_cmp nat_cmp a b) e) (less_where (slice_cmp nat_cmp b c) f))

-- no byte list is before itself
pub not-before : (a : List ℕ) → is_before a a ≡ true → ⊥
not-before a e = false≢true (sym (ap is_lt (tied_itself nat_list_cmp_total a)) ∙ e)
