-- Keys that ascend are of different slots.
use Rattle.std.proofs.Common.{◌≡◌, ℕ, Bool, true, false, cond, List, [], ◌∷◌, map, filter, refl, sym, ap, ◌∙◌}
use Rattle.std.specs.Prelude.{is_none}
use Rattle.std.specs.List.{AllByRecursion}
use Rattle.std.proofs.lemmas.Bool.{and_parts, false≢true}
use Rattle.col_common.specs.Ascending.{is_before, is_ascending}
use Rattle.col_model.specs.Category.{category_of, only_type, Slot, slot_of, same_slot}
use Rattle.col_model.specs.ColumnType.{ColumnType, is_numerical}
use Rattle.col_model.specs.ColumnType as types
use Rattle.col_model.specs.Keys.{Key, key_bytes}
use Rattle.col_model.proofs.ListLaws.{ascending-tail}
use Rattle.col_model.proofs.OrderedColumns.{same-slots}
use Rattle.col_model.proofs.OrderingLaws.{before-trans, not-before}
use Rattle.col_model.proofs.SharedTypes.{only-type, own-type}
use Rattle.col_model.proofs.StatsLaws.{all_items, all_by, all_mapped, all_both}

-- ---- byte lists that ascend

behind : (a : List ℕ) (others : List (List ℕ)) → is_ascending (a ∷ others) ≡ true → AllByRecursion (λ b. is_before a b ≡ true) others
behind a [] e = tt
behind a (b ∷ bs) e =
    let parts = and_parts (is_before a b) (is_ascending (b ∷ bs)) e in
    (parts.0, all_by (λ c f. before-trans a b c parts.0 f) bs (behind b bs parts.1))

-- ---- keys of different slots

-- the slot of a key: its name, and its type's category
abbrev pub key_slot : Key → Slot
key_slot k = slot_of k.name k.column_type

numerical-by : (t : ColumnType) → is_numerical t ≡ is_none (only_type (category_of t))
numerical-by types.i64 = refl
numerical-by types.u64 = refl
numerical-by types.bytes = refl
numerical-by types.str = refl
numerical-by types.bool = refl
numerical-by types.ip = refl
numerical-by types.datetime = refl

-- k stands before l, and before it by name where all_both are numerical
record IsBehind (k l : Key) : Type 0 where
  before : is_before (key_bytes k) (key_bytes l) ≡ true
  numerical : is_numerical k.column_type ≡ true → is_numerical l.column_type ≡ true → is_before k.name l.name ≡ true

-- such keys are of different slots
apart-two : (k l : Key) → IsBehind k l → same_slot (key_slot k) (key_slot l) ≡ false
apart-two k l h = by (same_slot (key_slot k) (key_slot l)) refl
  where
    kind : key_slot k ≡ key_slot l → (b : Bool) → is_numerical k.column_type ≡ b → ⊥
    kind e true n =
        let other : is_numerical l.column_type ≡ true =
        numerical-by l.column_type ∙ ap (λ s. is_none (only_type s.category)) (sym e)
        ∙ sym (numerical-by k.column_type) ∙ n in
        not-before k.name (ap (is_before k.name) (ap (λ s. s.name) e) ∙ h.numerical n other)
    kind e false n =
        let own = own-type k.column_type n in
        let other : l.column_type ≡ k.column_type = only-type l.column_type k.column_type (ap (λ s. only_type s.category) (sym e) ∙ own) in
        let same : key_bytes k ≡ key_bytes l = λ i. key_bytes (record { name = (ap (λ s. s.name) e) i; column_type = (sym other) i }) in
        not-before (key_bytes k) (ap (is_before (key_bytes k)) same ∙ h.before)

    by : (b : Bool) → same_slot (key_slot k) (key_slot l) ≡ b → b ≡ false
    by true e = absurd (kind (same-slots (key_slot k) (key_slot l) e) (is_numerical k.column_type) refl)
    by false e = refl

-- the slots of keys are different
abbrev pub AreApart : List Key → Type 0
AreApart [] = Unit {0}
AreApart (k ∷ ks) = AllByRecursion (λ l. same_slot (key_slot k) (key_slot l) ≡ false) ks × AreApart ks

-- the names of the keys with a type of numbers
abbrev pub names : List Key → List (List ℕ)
names ks = map (λ k. k.name) (filter (λ k. is_numerical k.column_type) ks)

names-behind : (name : List ℕ) (ks : List Key) → AllByRecursion (λ other. is_before name other ≡ true) (names ks)
    → AllByRecursion (λ (k : Key). is_numerical k.column_type ≡ true → is_before name k.name ≡ true) ks
names-behind name [] all = tt
names-behind name (k ∷ ks) all = by (is_numerical k.column_type) refl all (names-behind name ks)
  where
    by : (b : Bool) → is_numerical k.column_type ≡ b
        → AllByRecursion (λ other. is_before name other ≡ true) (map (λ k. k.name)
        (cond b (k ∷ filter (λ k. is_numerical k.column_type) ks) (filter (λ k. is_numerical k.column_type) ks)))
        → (AllByRecursion (λ other. is_before name other ≡ true) (names ks)
        → AllByRecursion (λ (k : Key). is_numerical k.column_type ≡ true → is_before name k.name ≡ true) ks)
        → (is_numerical k.column_type ≡ true → is_before name k.name ≡ true)
        × AllByRecursion (λ (k : Key). is_numerical k.column_type ≡ true → is_before name k.name ≡ true) ks
    by true e all later = (λ _. all.0, later all.1)
    by false e all later = (λ n. absurd (false≢true (sym e ∙ n)), later all)

module _ (k : Key) (ks : List Key) (before : is_ascending (map key_bytes (k ∷ ks)) ≡ true)
    (named : is_ascending (names (k ∷ ks)) ≡ true) where
  named-as : (b : Bool) → is_numerical k.column_type ≡ b
      → is_ascending (map (λ k. k.name)
      (cond b (k ∷ filter (λ k. is_numerical k.column_type) ks) (filter (λ k. is_numerical k.column_type) ks)))
      ≡ true
  named-as b e =
      ap (λ b. is_ascending (map (λ k. k.name)
      (cond b (k ∷ filter (λ k. is_numerical k.column_type) ks) (filter (λ k. is_numerical k.column_type) ks))))
      (sym e) ∙ named

  by-name : (b : Bool) → is_numerical k.column_type ≡ b
      → AllByRecursion (λ (l : Key). is_numerical k.column_type ≡ true → is_numerical l.column_type ≡ true
      → is_before k.name l.name ≡ true) ks
  by-name true e = all_by (λ l f _. f) ks (names-behind k.name ks (behind k.name (names ks) (named-as true e)))
  by-name false e = all_items (λ l n. absurd (false≢true (sym e ∙ n))) ks

  all-behind : AllByRecursion (IsBehind k) ks
  all-behind = all_by (λ l p. record { before = p.0; numerical = p.1 }) ks
      (all_both _ _ ks (all_mapped (λ b. is_before (key_bytes k) b ≡ true) key_bytes ks
      (behind (key_bytes k) (map key_bytes ks) before)) (by-name (is_numerical k.column_type) refl))

  names-tail : (b : Bool) → is_numerical k.column_type ≡ b → is_ascending (names ks) ≡ true
  names-tail true e = ascending-tail k.name (names ks) (named-as true e)
  names-tail false e = named-as false e

-- keys that ascend, with names of numbers that ascend, have different slots
pub are-apart : (ks : List Key) → is_ascending (map key_bytes ks) ≡ true → is_ascending (names ks) ≡ true → AreApart ks
are-apart [] before named = tt
are-apart (k ∷ ks) before named = (
  all_by (apart-two k) ks (all-behind k ks before named),
  are-apart ks
      (ascending-tail (key_bytes k) (map key_bytes ks) before)
      (names-tail k ks before named (is_numerical k.column_type) refl),
)
