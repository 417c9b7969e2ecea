-- Keys of one file have slots that rise.
use Rattle.std.proofs.Common.{◌≡◌, ◌∙◌, ◌<◌, ◌==◌, ℕ, Bool, true, false, cond, List, [], ◌∷◌, map, filter, refl, sym, ap, arith}
use Rattle.std.specs.List.{list_all}
use Rattle.std.specs.declared.cmp.Ordering.{Ordering}
use Rattle.std.specs.declared.cmp.Ordering.TheVariants.{Less, Equal, Greater}
use Rattle.std.specs.Ordering.{is_lt, nat_cmp, ordering_then}
use Rattle.std.specs.Cmp.Lexicographic.{slice_cmp}
use Rattle.std.proofs.lemmas.Bool.{and_from, and_parts, eq-eqb, false≢true, ltb-false}
use Rattle.col_common.specs.Ascending.{all_adjacent, is_ascending, is_before}
use Rattle.col_model.specs.Category.{Slot, category_of, category_place, slot_cmp, slot_of}
use Rattle.col_model.specs.ColumnType.{ColumnType, is_numerical, type_code}
use Rattle.col_model.specs.ColumnType as types
use Rattle.col_model.specs.Keys.{Key, are_keys, is_name, key_bytes}
use Rattle.col_model.proofs.KeyLaws.{has_no_zero, place-code, slice_cmp-keys}
use Rattle.col_model.proofs.ListLaws.{ascending-tail}
use Rattle.col_model.proofs.OrderingLaws.{nat_cmp-less, nat_less}
use Rattle.col_model.proofs.SoundTables.{no-zero}

-- the slot of a key
abbrev pub key_slot : Key → Slot
key_slot k = slot_of k.name k.column_type

-- the first slot stands before the second
abbrev pub slots_rise : Slot → Slot → Bool
slots_rise a b = is_lt (slot_cmp a b)

-- each key has a name
abbrev pub are_named : List Key → Bool
are_named ks = list_all (λ k. is_name k.name) ks

-- no type has the code 2
no-two : (t : ColumnType) → (type_code t == 2) ≡ false
no-two types.i64 = refl
no-two types.u64 = refl
no-two types.bytes = refl
no-two types.str = refl
no-two types.bool = refl
no-two types.ip = refl
no-two types.datetime = refl

-- types in the order of their codes have categories in order, unless both are numerical
places : (s t : ColumnType) → type_code s < type_code t → (is_numerical s ≡ true → is_numerical t ≡ true → ⊥)
    → category_place (category_of s) < category_place (category_of t)
places s t less apart = by (is_numerical s) (is_numerical t) refl refl
  where
    two : type_code t ≡ 2 → ⊥
    two e = false≢true (sym (no-two t) ∙ eq-eqb (type_code t) 2 e)

    by : (b c : Bool) → is_numerical s ≡ b → is_numerical t ≡ c → category_place (category_of s) < category_place (category_of t)
    by true true p q = absurd (apart p q)
    by false c p q = let low = ltb-false (type_code s) 2 p in omega (arith, place-code s, place-code t, low, less)
    by true false p q = let low = ltb-false (type_code t) 2 q in omega (arith, place-code s, place-code t, low, less, two)

-- two keys in order, of which at most one is numerical where the names are one
slots-pair : (k l : Key) → has_no_zero k.name ≡ true → has_no_zero l.name ≡ true → is_before (key_bytes k) (key_bytes l) ≡ true
    → (is_numerical k.column_type ≡ true → is_numerical l.column_type ≡ true → is_before k.name l.name ≡ true)
    → slots_rise (key_slot k) (key_slot l) ≡ true
slots-pair k l p q e names =
    by (slice_cmp nat_cmp k.name l.name) refl
    (ap is_lt (sym (slice_cmp-keys k.name l.name (type_code k.column_type) (type_code l.column_type) p q)) ∙ e)
  where
    by : (o : Ordering) → slice_cmp nat_cmp k.name l.name ≡ o
        → is_lt (ordering_then o (nat_cmp (type_code k.column_type) (type_code l.column_type))) ≡ true
        → is_lt (ordering_then o (nat_cmp (category_place (category_of k.column_type)) (category_place (category_of l.column_type))))
        ≡ true
    by Less is e = refl
    by Equal is e =
        ap is_lt (nat_cmp-less _ _ (places k.column_type l.column_type
        (nat_less (type_code k.column_type) (type_code l.column_type) e)
        (λ f g. false≢true (sym (ap is_lt is) ∙ names f g))))
    by Greater is e = absurd (false≢true e)

abbrev numerical_names : List Key → List (List ℕ)
numerical_names ks = map (λ k. k.name) (filter (λ k. is_numerical k.column_type) ks)

-- the numerical names without the first key
names-tail : (k : Key) (ks : List Key) → is_ascending (numerical_names (k ∷ ks)) ≡ true → is_ascending (numerical_names ks) ≡ true
names-tail k ks e = by (is_numerical k.column_type) e
  where
    others : List Key
    others = filter (λ k. is_numerical k.column_type) ks

    by : (b : Bool) → is_ascending (map (λ k. k.name) (cond b (k ∷ others) others)) ≡ true → is_ascending (numerical_names ks) ≡ true
    by true e = ascending-tail k.name (numerical_names ks) e
    by false e = e

-- the names of two numerical keys at the front
names-pair : (k l : Key) (ks : List Key) → is_ascending (numerical_names (k ∷ l ∷ ks)) ≡ true → is_numerical k.column_type ≡ true
    → is_numerical l.column_type ≡ true → is_before k.name l.name ≡ true
names-pair k l ks e p q = by (is_numerical k.column_type) (is_numerical l.column_type) p q e
  where
    others : List Key
    others = filter (λ k. is_numerical k.column_type) ks

    by : (b c : Bool) → b ≡ true → c ≡ true
        → is_ascending (map (λ k. k.name) (cond b (k ∷ cond c (l ∷ others) others) (cond c (l ∷ others) others))) ≡ true
        → is_before k.name l.name ≡ true
    by true true p q e = (and_parts (is_before k.name l.name) _ e).0
    by false c p q e = absurd (false≢true p)
    by true false p q e = absurd (false≢true q)

-- keys that ascend, and whose numerical names do, have slots that rise
slots-rise : (ks : List Key) → are_named ks ≡ true → is_ascending (map key_bytes ks) ≡ true → is_ascending (numerical_names ks) ≡ true
    → all_adjacent slots_rise (map key_slot ks) ≡ true
slots-rise [] named keys names = refl
slots-rise (k ∷ []) named keys names = refl
slots-rise (k ∷ l ∷ ks) named keys names =
    let first = and_parts (is_name k.name) (are_named (l ∷ ks)) named in
    let second = and_parts (is_name l.name) (are_named ks) first.1 in
    let parts = and_parts (is_before (key_bytes k) (key_bytes l)) (is_ascending (map key_bytes (l ∷ ks))) keys in
    and_from _ _
    (slots-pair k l (no-zero k.name first.0) (no-zero l.name second.0) parts.0 (names-pair k l ks names))
    (slots-rise (l ∷ ks) first.1 parts.1 (names-tail k (l ∷ ks) names))

-- keys of one file have slots that rise
pub rise-keys : (ks : List Key) → are_named ks ≡ true → are_keys ks ≡ true → all_adjacent slots_rise (map key_slot ks) ≡ true
rise-keys ks named e =
    let parts = and_parts (is_ascending (map key_bytes ks)) (is_ascending (numerical_names ks)) e in
    slots-rise ks named parts.0 parts.1
