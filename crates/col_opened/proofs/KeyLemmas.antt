-- No two entries of a file have the same key.
use Rattle.std.proofs.Common.{◌≡◌, ℕ, ◌&&◌, Bool, true, false, List, [], ◌∷◌, ◌++◌, map, bytes_eq, refl, sym, ap, ◌∙◌}
use Rattle.std.specs.List.{AllByRecursion}
use Rattle.std.proofs.lemmas.Bool.{and_parts, eqb-true}
use Rattle.col_common.specs.Ascending.{is_before, is_ascending}
use Rattle.col_model.specs.ColumnType.{ColumnType, same_type, type_code}
use Rattle.col_model.specs.Keys.{Key, Entry, key_bytes, are_keys}
use Rattle.col_model.proofs.ListLaws.{ascending-tail}
use Rattle.col_model.proofs.OrderingLaws.{bytes_eq-true, not-before, before-trans}

-- a key of a name and a type
abbrev pub is_key : List ℕ → ColumnType → Key → Bool
is_key name t k = bytes_eq k.name name && same_type k.column_type t

module _ (name : List ℕ) (t : ColumnType) where
  -- keys of one name and one type have the same bytes
  same-bytes : (k : Key) → is_key name t k ≡ true → key_bytes k ≡ name ++ 0 ∷ type_code t ∷ []
  same-bytes k e =
      let both = and_parts (bytes_eq k.name name) (same_type k.column_type t) e in
      let names = bytes_eq-true k.name name both.0 in
      let codes : type_code k.column_type ≡ type_code t = eqb-true (type_code k.column_type) (type_code t) both.1 in
      λ i. names i ++ 0 ∷ codes i ∷ []

  -- keys that stand one before the other aren't of one name and one type
  not-both : (k l : Key) → is_key name t k ≡ true → is_before (key_bytes k) (key_bytes l) ≡ true → is_key name t l ≡ false
  not-both k l e before = by (is_key name t l) refl
    where
      by : (b : Bool) → is_key name t l ≡ b → b ≡ false
      by true f = absurd (not-before (key_bytes l)
          (ap (λ bytes. is_before bytes (key_bytes l)) (same-bytes l f ∙ sym (same-bytes k e)) ∙ before))
      by false f = refl

  -- none of the entries has the name and the type
  abbrev pub HasNone : List Entry → Type 0
  HasNone es = AllByRecursion (λ e. is_key name t e.key ≡ false) es

  -- one of them has them at most
  abbrev pub HasOne : List Entry → Type 0
  HasOne [] = Unit {0}
  HasOne (e ∷ es) = (is_key name t e.key ≡ true → HasNone es) × HasOne es

  none-behind : (k : Key) (es : List Entry) → is_ascending (key_bytes k ∷ map key_bytes (map (λ e. e.key) es)) ≡ true
      → is_key name t k ≡ true → HasNone es
  none-behind k [] e is = tt
  none-behind k (x ∷ es) e is =
      let both = and_parts (is_before (key_bytes k) (key_bytes x.key)) _ e in
      (not-both k x.key is both.0, none-behind k es (skipped es both.1) is)
    where
      skipped : (es : List Entry) → is_ascending (key_bytes x.key ∷ map key_bytes (map (λ e. e.key) es)) ≡ true
          → is_ascending (key_bytes k ∷ map key_bytes (map (λ e. e.key) es)) ≡ true
      skipped [] f = refl
      skipped (y ∷ es) f =
          let both = and_parts (is_before (key_bytes k) (key_bytes x.key)) _ e in
          let next = and_parts (is_before (key_bytes x.key) (key_bytes y.key)) _ f in
          rw (before-trans (key_bytes k) (key_bytes x.key) (key_bytes y.key) both.0 next.0) next.1

  one-ascending : (es : List Entry) → is_ascending (map key_bytes (map (λ e. e.key) es)) ≡ true → HasOne es
  one-ascending [] e = tt
  one-ascending (x ∷ es) e =
      (none-behind x.key es e, one-ascending es (ascending-tail (key_bytes x.key) (map key_bytes (map (λ e. e.key) es)) e))

  -- entries whose keys are keys of a file
  pub one-of-keys : (es : List Entry) → are_keys (map (λ e. e.key) es) ≡ true → HasOne es
  one-of-keys es e = one-ascending es (and_parts (is_ascending (map key_bytes (map (λ e. e.key) es))) _ e).0
