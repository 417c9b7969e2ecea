-- Required columns, item by item.
use Rattle.std.proofs.Common.{◌≡◌, ℕ, ◌==◌, Bool, true, false, not, ◌&&◌, ◌||◌, cond, List, [], ◌∷◌, ◌++◌, find, length, take, drop, get_or, String, Global, string_bytes, Option, Some, None, option_map, Result, Ok, Err, refl, sym, ◌∙◌, ap, subst, add-one, ◌+◌, ◌<◌}
use Rattle.std.specs.Prelude.{if◌then◌else◌}
use Rattle.std.specs.BTreeMap.{BTreeMap, get}
use Rattle.std.specs.List.{list_all, list_any, AllByRecursion}
use Rattle.std.specs.Str.{is_utf8}
use Rattle.std.proofs.lemmas.Bool.{eqb-true, and_from, true≢false}
use Rattle.std.proofs.lemmas.List.Folds.{list_any-append}
use Rattle.col_types.specs.declared.column_type.ColumnType as variants
use Rattle.col_common.specs.declared.error.ColumnarError.{ColumnarError}
use Rattle.col_model.specs.Category.{Slot, slot_of, slot_cmp, same_slot}
use Rattle.col_types.specs.Kinds.{kind_of}
use Rattle.col_model.specs.ColumnType.{ColumnType, same_type, type_code, type_of_code}
use Rattle.col_model.specs.ColumnType as types
use Rattle.col_model.specs.Keys.{is_name}
use Rattle.col_model.specs.Merge.{Required, required_slot, required_type, contradicts, required_refusal}
use Rattle.col_model.specs.Refusal.{bad_name, required_conflict}
use Rattle.col_model.specs.Written.{has_zero}
use Rattle.col_model.proofs.OrderedColumns.{same-slots}
use Rattle.col_model.proofs.WrittenSound.{no-zeros}
use Rattle.col_merge_plan.specs.RequiredTypes.{known_type, conflicts, or_type, Agrees, Requires}
use Rattle.col_merge_plan.specs.Slots.{required_of}
use Rattle.col_merge_plan.proofs.ListLemmas.{taken, dropped}

-- ---- types

same-types : (s t : ColumnType) → same_type s t ≡ true → s ≡ t
same-types s t e = some (sym (back s) ∙ ap type_of_code (eqb-true (type_code s) (type_code t) e) ∙ back t)
  where
    back : (t : ColumnType) → type_of_code (type_code t) ≡ Some t
    back types.i64 = refl
    back types.u64 = refl
    back types.bytes = refl
    back types.str = refl
    back types.bool = refl
    back types.ip = refl
    back types.datetime = refl

    some : {x y : ColumnType} → ◌≡◌ {A = Option ColumnType} (Some x) (Some y) → x ≡ y
    some {x = x} e = ap (λ o. cond_type o) e
      where
        cond_type : Option ColumnType → ColumnType
        cond_type None = x
        cond_type (Some z) = z

-- ---- what is required, with one more item

required-more : (earlier : List Required) (x : Required) (q : Slot)
    → required_type (earlier ++ x ∷ []) q
    ≡ or_type (required_type earlier q) (same_slot (required_slot x) q) x.column_type
required-more [] x q = by (same_slot (required_slot x) q)
  where
    by : (b : Bool) → option_map (λ r. r.column_type) (cond b (Some x) None) ≡ (if b then Some x.column_type else None)
    by true = refl
    by false = refl
required-more (r ∷ rs) x q = by (same_slot (required_slot r) q) (required-more rs x q)
  where
    by : (b : Bool) → required_type (rs ++ x ∷ []) q
        ≡ or_type (required_type rs q) (same_slot (required_slot x) q) x.column_type
        →
        option_map (λ r. r.column_type) (cond b (Some r) (find (λ r. same_slot (required_slot r) q) (rs ++ x ∷ [])))
        ≡ or_type (option_map (λ r. r.column_type) (cond b (Some r) (find (λ r. same_slot (required_slot r) q) rs)))
        (same_slot (required_slot x) q) x.column_type
    by true e = refl
    by false e = e

-- an item contradicts earlier ones just where another type is required of its slot
pub record AreConsistent (earlier : List Required) : Type 0 where
  pub each : (r : Required) → list_any (contradicts r) earlier ≡ conflicts (required_type earlier (required_slot r)) r.column_type

or-nothing : (a : Bool) → (a || false) ≡ a
or-nothing true = refl
or-nothing false = refl

or-same : (a : Bool) → (a || (a || false)) ≡ a
or-same true = refl
or-same false = refl

not-conflicting : (u t : ColumnType) → conflicts (Some u) t ≡ false → u ≡ t
not-conflicting u t e = same-types u t (by (same_type u t) e)
  where
    by : (b : Bool) → not b ≡ false → b ≡ true
    by true e = refl
    by false e = absurd (true≢false e)

pub consistent-more : (earlier : List Required) (x : Required) → AreConsistent earlier
    → conflicts (required_type earlier (required_slot x)) x.column_type ≡ false → AreConsistent (earlier ++ x ∷ [])
consistent-more earlier x was agrees = record {
  each =
      λ r. list_any-append (contradicts r) earlier (x ∷ []) ∙ ap (λ b. b || (contradicts r x || false)) (was.each r)
      ∙ by r (same_slot (required_slot x) (required_slot r)) refl
      ∙ ap (λ w. conflicts w r.column_type) (sym (required-more earlier x (required_slot r)));
}
  where
    here : (r : Required) (w : Option ColumnType) → conflicts w x.column_type ≡ false
        → (conflicts w r.column_type || (not (same_type x.column_type r.column_type) || false))
        ≡ conflicts (or_type w true x.column_type) r.column_type
    here r None e = or-nothing (not (same_type x.column_type r.column_type))
    here r (Some u) e =
        let same = not-conflicting u x.column_type e in
        ap (λ t. not (same_type u r.column_type) || (not (same_type t r.column_type) || false)) (sym same)
        ∙ or-same (not (same_type u r.column_type))

    other : (r : Required) (w : Option ColumnType)
        → (conflicts w r.column_type || false) ≡ conflicts (or_type w false x.column_type) r.column_type
    other r None = refl
    other r (Some u) = or-nothing (not (same_type u r.column_type))

    by : (r : Required) (b : Bool) → same_slot (required_slot x) (required_slot r) ≡ b
        → (conflicts (required_type earlier (required_slot r)) r.column_type
        || ((same_slot (required_slot x) (required_slot r) && not (same_type x.column_type r.column_type))
        || false)) ≡ conflicts (or_type (required_type earlier (required_slot r))
        (same_slot (required_slot x) (required_slot r)) x.column_type) r.column_type
    by r true e =
        rw e (here r (required_type earlier (required_slot r)) (ap
        (λ s. conflicts (required_type earlier s) x.column_type)
        (sym (same-slots (required_slot x) (required_slot r) e)) ∙ agrees))
    by r false e = rw e (other r (required_type earlier (required_slot r)))

-- ---- the refusals

-- the name of an item has a zero byte
pub name-refused : (earlier : List Required) (r : Required) (rs : List Required) → has_zero r.name ≡ true
    → required_refusal earlier (r ∷ rs) ≡ Err bad_name
name-refused earlier r rs e = rw e refl

-- an item contradicts an earlier one
pub conflict-refused : (earlier : List Required) (r : Required) (rs : List Required) → has_zero r.name ≡ false
    → AreConsistent earlier → conflicts (required_type earlier (required_slot r)) r.column_type ≡ true
    → required_refusal earlier (r ∷ rs) ≡ Err required_conflict
conflict-refused earlier r rs e was c = rw (e, was.each r ∙ c) refl

-- an item is accepted
pub item-accepted : (earlier : List Required) (r : Required) (rs : List Required) → has_zero r.name ≡ false
    → AreConsistent earlier → conflicts (required_type earlier (required_slot r)) r.column_type ≡ false
    → required_refusal earlier (r ∷ rs) ≡ required_refusal (earlier ++ r ∷ []) rs
item-accepted earlier r rs e was c = rw (e, was.each r ∙ c) refl

-- ---- names

-- a text without a zero byte is a name
pub name-of : (name : List ℕ) → is_utf8 name ≡ true → has_zero name ≡ false → is_name name ≡ true
name-of name u e = and_from (is_utf8 name) (list_all (λ b. not (b == 0)) name) u (no-zeros name e)

-- ---- all of it

-- what is known of the items so far, of all
pub record TypesSoFar (known : BTreeMap Slot variants.ColumnType) (earlier left all : List Required) : Type 0 where
  pub consistent : AreConsistent earlier
  pub names : AllByRecursion (λ r. is_name r.name ≡ true) earlier
  pub types_are : (q : Slot) → known_type known q ≡ required_type earlier q
  pub left_is : required_refusal [] all ≡ required_refusal earlier left

names-more : (earlier : List Required) (x : Required) → AllByRecursion (λ r. is_name r.name ≡ true) earlier
    → is_name x.name ≡ true → AllByRecursion (λ r. is_name r.name ≡ true) (earlier ++ x ∷ [])
names-more [] x all h = (h, tt)
names-more (r ∷ rs) x all h = (all.0, names-more rs x all.1 h)

module _ (known : BTreeMap Slot variants.ColumnType) (earlier : List Required) (x : Required)
    (left all : List Required) (was : TypesSoFar known earlier (x ∷ left) all) where
  pub types-bad_name : has_zero x.name ≡ true → required_refusal [] all ≡ Err bad_name
  types-bad_name e = was.left_is ∙ name-refused earlier x left e

  pub types-conflict : has_zero x.name ≡ false → conflicts (known_type known (required_slot x)) x.column_type ≡ true
      → required_refusal [] all ≡ Err required_conflict
  types-conflict e c =
      was.left_is ∙ conflict-refused earlier x left e was.consistent
      (ap (λ w. conflicts w x.column_type) (sym (was.types_are (required_slot x))) ∙ c)

  pub types-more : (next : BTreeMap Slot variants.ColumnType) → is_utf8 x.name ≡ true → has_zero x.name ≡ false
      → conflicts (known_type known (required_slot x)) x.column_type ≡ false
      → ((q : Slot)
      → known_type next q ≡ or_type (known_type known q) (same_slot (required_slot x) q) x.column_type)
      → TypesSoFar next (earlier ++ x ∷ []) left all
  types-more next u e c n =
      let agrees = ap (λ w. conflicts w x.column_type) (sym (was.types_are (required_slot x))) ∙ c in
      record {
        consistent = consistent-more earlier x was.consistent agrees;
        names = names-more earlier x was.names (name-of x.name u e);
        types_are =
            λ q. n q ∙ ap (λ w. or_type w (same_slot (required_slot x) q) x.column_type) (was.types_are q)
            ∙ sym (required-more earlier x q);
        left_is = was.left_is ∙ item-accepted earlier x left e was.consistent agrees;
      }

-- ---- one item of the list

module _ (xs : List (String Global × variants.ColumnType)) (i : ℕ) (p : String Global × variants.ColumnType)
    (within : i < length xs) (is : p ≡ get_or xs i p) (known : BTreeMap Slot variants.ColumnType)
    (was : TypesSoFar known (required_of (take i xs)) (required_of (drop i xs)) (required_of xs)) where
  left-is : required_of (drop i xs) ≡ record { name = string_bytes p.0; column_type = kind_of p.1 } ∷ required_of (drop (i + 1) xs)
  left-is = ap required_of (dropped xs i (i + 1) p (add-one i) within is)

  earlier-is : required_of (take i xs) ++ record { name = string_bytes p.0; column_type = kind_of p.1 } ∷ [] ≡ required_of (take (i + 1) xs)
  earlier-is = sym (required-push (take i xs)) ∙ ap required_of (sym (taken xs i (i + 1) p (add-one i) within is))
    where
      required-push : (ys : List (String Global × variants.ColumnType))
          → required_of (ys ++ p ∷ [])
          ≡ required_of ys ++ record { name = string_bytes p.0; column_type = kind_of p.1 } ∷ []
      required-push [] = refl
      required-push (y ∷ ys) = ap (λ rs. record { name = string_bytes y.0; column_type = kind_of y.1 } ∷ rs) (required-push ys)

  was-here : TypesSoFar known (required_of (take i xs))
      (record { name = string_bytes p.0; column_type = kind_of p.1 } ∷ required_of (drop (i + 1) xs))
      (required_of xs)
  was-here = subst (λ left. TypesSoFar known (required_of (take i xs)) left (required_of xs)) left-is was

  -- a required column that is accepted is known with those before it
  pub item-more : (next : BTreeMap Slot variants.ColumnType) (slot : Slot) (done : Unit {0})
      → slot ≡ slot_of (string_bytes p.0) (kind_of p.1) → is_utf8 (string_bytes p.0) ≡ true
      → has_zero (string_bytes p.0) ≡ false → Requires known next (Ok done) slot (kind_of p.1)
      → TypesSoFar next (required_of (take (i + 1) xs)) (required_of (drop (i + 1) xs)) (required_of xs)
  item-more next slot done same u e h =
      let k = subst (λ s. Requires known next (Ok done) s (kind_of p.1)) same h in
      subst (λ earlier. TypesSoFar next earlier (required_of (drop (i + 1) xs)) (required_of xs)) earlier-is
      (types-more known (required_of (take i xs)) (record { name = string_bytes p.0; column_type = kind_of p.1 })
      (required_of (drop (i + 1) xs)) (required_of xs) was-here next u e k.0 k.1)

-- ---- one slot of the map

kept-type : (w : Option ColumnType) (t : ColumnType) → or_type w false t ≡ w
kept-type None t = refl
kept-type (Some u) t = refl

-- a type is required, where none was
pub required-new : (known next : BTreeMap Slot variants.ColumnType) (slot : Slot) (v : variants.ColumnType)
    → known_type known slot ≡ None
    → ((q : Slot) → get slot_cmp next q ≡ cond (same_slot slot q) (Some v) (get slot_cmp known q)) → (q : Slot)
    → known_type next q ≡ or_type (known_type known q) (same_slot slot q) (kind_of v)
required-new known next slot v none put q = ap (option_map kind_of) (put q) ∙ by (same_slot slot q) refl
  where
    by : (b : Bool) → same_slot slot q ≡ b
        → option_map kind_of (cond b (Some v) (get slot_cmp known q)) ≡ or_type (known_type known q) b (kind_of v)
    by true e = ap (λ w. or_type w true (kind_of v)) (sym (ap (known_type known) (sym (same-slots slot q e)) ∙ none))
    by false e = sym (kept-type (known_type known q) (kind_of v))

-- a type is required already
pub required-again : (known : BTreeMap Slot variants.ColumnType) (slot : Slot) (found v : variants.ColumnType)
    (r : Result (Unit {0}) ColumnarError) → get slot_cmp known slot ≡ Some found
    → Agrees r (kind_of found) (kind_of v) → Requires known known r slot (kind_of v)
required-again known slot found v (Ok done) is agrees =
    (ap (λ o. conflicts (option_map kind_of o) (kind_of v)) is ∙ agrees, λ q. by q (same_slot slot q) refl)
  where
    by : (q : Slot) (b : Bool) → same_slot slot q ≡ b → known_type known q ≡ or_type (known_type known q) b (kind_of v)
    by q true e = rw (ap (option_map kind_of) (ap (get slot_cmp known) (sym (same-slots slot q e)) ∙ is)) refl
    by q false e = sym (kept-type (known_type known q) (kind_of v))
required-again known slot found v (Err e) is agrees =
    subst (λ e. Requires known known (Err e) slot (kind_of v)) (sym agrees.0)
    (ap (λ o. conflicts (option_map kind_of o) (kind_of v)) is ∙ agrees.1)
