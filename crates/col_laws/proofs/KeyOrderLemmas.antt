-- The order of keys: it goes through, and of keys from cells of one category it is total.
use Rattle.std.proofs.Common.{◌≡◌, ℕ, ℤ, Bool, true, false, not, ◌&&◌, List, Some, None, int_le, refl, sym, ◌∙◌, ap, arith}
use Rattle.std.specs.Prelude.{Option}
use Rattle.std.specs.Ordering.{nat_cmp, is_gt, ordering_reverse}
use Rattle.std.specs.declared.cmp.Ordering.{Ordering}
use Rattle.std.specs.declared.cmp.Ordering.TheVariants.{Less, Equal, Greater}
use Rattle.std.specs.Cmp.Lexicographic.{slice_cmp}
use Rattle.std.proofs.lemmas.Bool.{true≢false, false≢true, and_parts}
use Rattle.std.proofs.lemmas.Cmp.{upto, nat_list_cmp_total}
use Rattle.std.proofs.lemmas.Int.{ints}
use Rattle.col_model.specs.Category.{Category, category_of}
use Rattle.col_model.specs.ColumnType.{ColumnType, has_terms}
use Rattle.col_model.specs.ColumnType as types
use Rattle.col_model.specs.Limits.{is_of_type}
use Rattle.col_model.specs.Lookup.{is_at_most}
use Rattle.col_model.specs.SortOrder.{is_key_at_most, are_keys_in_order}
use Rattle.col_model.specs.Table.{Cell, number, text}
use Rattle.col_model.proofs.SoundTables.{is_number}
use Rattle.col_model.proofs.WrittenSound.{terms-alike}

-- ---- cells

-- an ordering that isn't tested as greater
not-gt : (o : Ordering) → not (is_gt o) ≡ true → is_gt o ≡ false
not-gt Less e = refl
not-gt Equal e = refl
not-gt Greater e = absurd (false≢true e)

-- the order of numbers goes through, and is total
numbers-through : (x y z : ℤ) → int_le x y ≡ true → int_le y z ≡ true → int_le x z ≡ true
numbers-through x y z e f = grind (arith, ints)

numbers-turned : (x y : ℤ) → int_le x y ≡ false → int_le y x ≡ true
numbers-turned x y e = grind (arith, ints)

-- the order of cells goes through
cells-through : (a b c : Cell) → is_at_most a b ≡ true → is_at_most b c ≡ true → is_at_most a c ≡ true
cells-through (number x) (number y) (number z) e f = numbers-through x y z e f
cells-through (number x) (number y) (text z) e f = absurd (false≢true f)
cells-through (number x) (text y) c e f = absurd (false≢true e)
cells-through (text x) (number y) c e f = absurd (false≢true e)
cells-through (text x) (text y) (number z) e f = absurd (false≢true f)
cells-through (text x) (text y) (text z) e f =
    ap not (upto nat_list_cmp_total x y z (not-gt (slice_cmp nat_cmp x y) e) (not-gt (slice_cmp nat_cmp y z) f))

-- texts are in one of both orders
texts-turned : (x y : List ℕ) → not (is_gt (slice_cmp nat_cmp x y)) ≡ false → not (is_gt (slice_cmp nat_cmp y x)) ≡ true
texts-turned x y e =
    ap (λ o. not (is_gt o)) (nat_list_cmp_total.antisymm y x) ∙ by (slice_cmp nat_cmp x y) e
  where
    by : (o : Ordering) → not (is_gt o) ≡ false → not (is_gt (ordering_reverse o)) ≡ true
    by Less e = absurd (true≢false e)
    by Equal e = absurd (true≢false e)
    by Greater e = refl

-- cells of one kind are in one of both orders
cells-turned : (a b : Cell) → is_number a ≡ is_number b → is_at_most a b ≡ false → is_at_most b a ≡ true
cells-turned (number x) (number y) k e = numbers-turned x y e
cells-turned (number x) (text y) k e = absurd (true≢false k)
cells-turned (text x) (number y) k e = absurd (false≢true k)
cells-turned (text x) (text y) k e = texts-turned x y e

-- a cell of a type is a number where the type has no terms, and a text where it has
kind-of : (t : ColumnType) (c : Cell) → is_of_type t c ≡ true → is_number c ≡ not (has_terms t)
kind-of types.i64 (number z) e = refl
kind-of types.u64 (number z) e = refl
kind-of types.bytes (number z) e = absurd (false≢true e)
kind-of types.str (number z) e = absurd (false≢true e)
kind-of types.bool (number z) e = refl
kind-of types.ip (number z) e = refl
kind-of types.datetime (number z) e = refl
kind-of types.i64 (text s) e = absurd (false≢true e)
kind-of types.u64 (text s) e = absurd (false≢true e)
kind-of types.bytes (text s) e = refl
kind-of types.str (text s) e = refl
kind-of types.bool (text s) e = absurd (false≢true e)
kind-of types.ip (text s) e = absurd (false≢true e)
kind-of types.datetime (text s) e = absurd (false≢true e)

-- ---- keys

-- a cell of a category: of a type that is of it
pub record IsOfCategory (c : Category) (cell : Cell) : Type 0 where
  pub t : ColumnType
  pub within : category_of t ≡ c
  pub own : is_of_type t cell ≡ true

-- no key, or one of the category
abbrev pub IsKeyOf : Category → Option Cell → Type 0
IsKeyOf c None = Unit {0}
IsKeyOf c (Some cell) = IsOfCategory c cell

-- cells of one category are of one kind
same-kind : (c : Category) (a b : Cell) → IsOfCategory c a → IsOfCategory c b → is_number a ≡ is_number b
same-kind c a b h k =
    kind-of h.t a h.own ∙ ap not (terms-alike h.t k.t (h.within ∙ sym k.within)) ∙ sym (kind-of k.t b k.own)

-- the order of keys goes through
keys-through : (a b c : Option Cell) → is_key_at_most a b ≡ true → is_key_at_most b c ≡ true → is_key_at_most a c ≡ true
keys-through None b c e f = refl
keys-through (Some a) None c e f = absurd (false≢true e)
keys-through (Some a) (Some b) None e f = absurd (false≢true f)
keys-through (Some a) (Some b) (Some c) e f = cells-through a b c e f

-- keys of one category are in one of both orders
keys-turned : (c : Category) (a b : Option Cell) → IsKeyOf c a → IsKeyOf c b → is_key_at_most a b ≡ false
    → is_key_at_most b a ≡ true
keys-turned c None b h k e = absurd (true≢false e)
keys-turned c (Some a) None h k e = refl
keys-turned c (Some a) (Some b) h k e = cells-turned a b (same-kind c a b h k) e

-- The order of keys, also the reversed one, goes through.
pub order-through : (reversed : Bool) (a b c : Option Cell) → are_keys_in_order reversed a b ≡ true
    → are_keys_in_order reversed b c ≡ true → are_keys_in_order reversed a c ≡ true
order-through false a b c e f = keys-through a b c e f
order-through true a b c e f = keys-through c b a f e

-- Of keys of one category each may stand before the other, or the other before it.
pub order-turned : (reversed : Bool) (c : Category) (a b : Option Cell) → IsKeyOf c a → IsKeyOf c b
    → are_keys_in_order reversed a b ≡ false → are_keys_in_order reversed b a ≡ true
order-turned false c a b h k e = keys-turned c a b h k e
order-turned true c a b h k e = keys-turned c b a k h e

-- Keys that tie with one may stand in either order.
pub tied-keys : (reversed : Bool) (key a b : Option Cell) → (is_key_at_most a key && is_key_at_most key a) ≡ true
    → (is_key_at_most b key && is_key_at_most key b) ≡ true → are_keys_in_order reversed a b ≡ true
tied-keys reversed key a b e f = by reversed (and_parts _ _ e) (and_parts _ _ f)
  where
    by : (reversed : Bool) → (is_key_at_most a key ≡ true) × (is_key_at_most key a ≡ true)
        → (is_key_at_most b key ≡ true) × (is_key_at_most key b ≡ true) → are_keys_in_order reversed a b ≡ true
    by false p q = keys-through a key b p.0 q.1
    by true p q = keys-through b key a q.0 p.1
