-- The column of a name and a type among those that are open, by the place of its entry.
use Rattle.std.proofs.Common.{◌≡◌, ℕ, zero, suc, ◌+◌, Bool, true, false, cond, List, [], ◌∷◌, ◌++◌, map, find, length, slice_get, bytes_eq, Option, Some, None, refl, sym, ap, ◌∙◌, append_assoc, arith}
use Rattle.std.proofs.lemmas.List.{length-append}
use Rattle.std.proofs.lemmas.Option.{same_Some}
use Rattle.std.proofs.lemmas.Bool.{and_parts, false≢true}
use Rattle.col_model.specs.ColumnType.{ColumnType, same_type}
use Rattle.col_model.specs.Keys.{Key, Entry}
use Rattle.col_model.specs.Sound.{key_of_column}
use Rattle.col_model.specs.Table.{Column}
use Rattle.col_model.proofs.SharedTypes.{some≢none}
use Rattle.col_model.proofs.ListLaws.{slice_get-behind}
use Rattle.col_opened.specs.Chosen.{chosen, places_from}
use Rattle.col_opened.proofs.KeyLemmas.{is_key, HasNone, HasOne}

-- columns have these keys, one after another
abbrev pub HaveKeys : List Column → List Key → Type 0
HaveKeys [] [] = Unit {0}
HaveKeys (c ∷ cs) (k ∷ ks) = (key_of_column c ≡ k) × HaveKeys cs ks
HaveKeys [] (k ∷ ks) = ⊥
HaveKeys (c ∷ cs) [] = ⊥

pub have-own : (cs : List Column) → HaveKeys cs (map key_of_column cs)
have-own [] = tt
have-own (c ∷ cs) = (refl, have-own cs)

-- the column at a place, where there is one
abbrev pub column_at : List Column → Option (Option ℕ) → Option Column
column_at cs None = None
column_at cs (Some None) = None
column_at cs (Some (Some at)) = slice_get cs at

module _ (name : List ℕ) (t : ColumnType) where
  -- the tests of a column, and of an entry
  abbrev pub is_column : Column → Bool
  is_column c = is_key name t (key_of_column c)

  abbrev pub is_entry_of : Entry → Bool
  is_entry_of e = is_key name t e.key

  first : (c : Column) (cs : List Column) → is_column c ≡ true → find is_column (c ∷ cs) ≡ Some c
  first c cs e = rw e refl

  later : (c : Column) (cs : List Column) → is_column c ≡ false → find is_column (c ∷ cs) ≡ find is_column cs
  later c cs e = rw e refl

  keyed : (b : Bool) (c : Column) (k : Key) → key_of_column c ≡ k → is_key name t k ≡ b → is_column c ≡ b
  keyed b c k e h = ap (is_key name t) e ∙ h

  -- where no entry has the name and the type, no open column has
  pub none-open : (ws : List Bool) (es : List Entry) (cs : List Column) → HaveKeys cs (map (λ e. e.key) (chosen ws es))
      → HasNone name t es → find is_column cs ≡ None
  none-open [] es [] have none = refl
  none-open [] es (c ∷ cs) have none = absurd have
  none-open (w ∷ ws) [] [] have none = refl
  none-open (w ∷ ws) [] (c ∷ cs) have none = absurd have
  none-open (true ∷ ws) (e ∷ es) [] have none = absurd have
  none-open (true ∷ ws) (e ∷ es) (c ∷ cs) have none =
      later c cs (keyed false c e.key have.0 none.0) ∙ none-open ws es cs have.1 none.1
  none-open (false ∷ ws) (e ∷ es) cs have none = none-open ws es cs have none.1

  -- an entry that isn't found
  pub none-found : (es : List Entry) → find is_entry_of es ≡ None → HasNone name t es
  none-found [] h = tt
  none-found (e ∷ es) h = by (is_entry_of e) refl (none-found es) h
    where
      by : (b : Bool) → is_entry_of e ≡ b → (find is_entry_of es ≡ None → HasNone name t es)
          → cond b (Some e) (find is_entry_of es) ≡ None → HasNone name t (e ∷ es)
      by true is behind h = absurd (some≢none e h)
      by false is behind h = (is, behind h)

  -- one that is found passes
  pub found-passes : (es : List Entry) (x : Entry) → find is_entry_of es ≡ Some x → is_entry_of x ≡ true
  found-passes [] x h = absurd (some≢none x (sym h))
  found-passes (e ∷ es) x h = by (is_entry_of e) refl (found-passes es x) h
    where
      by : (b : Bool) → is_entry_of e ≡ b → (find is_entry_of es ≡ Some x → is_entry_of x ≡ true)
          → cond b (Some e) (find is_entry_of es) ≡ Some x → is_entry_of x ≡ true
      by true is behind h = ap is_entry_of (sym (same_Some e x h)) ∙ is
      by false is behind h = behind h

  -- one that stands behind others
  not-first : (e : Entry) (es : List Entry) (i : ℕ) (x : Entry) → (is_entry_of e ≡ true → HasNone name t es)
      → slice_get es i ≡ Some x → is_entry_of x ≡ true → is_entry_of e ≡ false
  not-first e es i x one at is = by (is_entry_of e) refl
    where
      fails : (es : List Entry) (i : ℕ) → HasNone name t es → slice_get es i ≡ Some x → is_entry_of x ≡ false
      fails [] i none at = cc
      fails (e ∷ es) zero none at = ap is_entry_of (sym (same_Some e x at)) ∙ none.0
      fails (e ∷ es) (suc i) none at = fails es i none.1 at

      by : (b : Bool) → is_entry_of e ≡ b → b ≡ false
      by true h = absurd (false≢true (sym (fails es i (one h) at) ∙ is))
      by false h = refl

  -- The column at the place of the entry's column is the one that is looked for. So many columns
  -- stand before those of the entries.
  pub found-at : (pre : List Column) (n : ℕ) (ws : List Bool) (es : List Entry) (cs : List Column) (i : ℕ) (x : Entry)
      → n ≡ length pre → length ws ≡ length es → HaveKeys cs (map (λ e. e.key) (chosen ws es)) → HasOne name t es
      → slice_get es i ≡ Some x → is_entry_of x ≡ true
      → column_at (pre ++ cs) (slice_get (places_from n ws) i) ≡ find is_column cs
  found-at pre n [] [] cs i x m l have one at is = cc
  found-at pre n [] (e ∷ es) cs i x m l have one at is = absurd (omega (arith, l))
  found-at pre n (w ∷ ws) [] cs i x m l have one at is = absurd (omega (arith, l))
  found-at pre n (true ∷ ws) (e ∷ es) [] i x m l have one at is = absurd have
  found-at pre n (true ∷ ws) (e ∷ es) (c ∷ cs) zero x m l have one at is =
      let passes = ap is_entry_of (same_Some e x at) ∙ is in
      ap (slice_get (pre ++ c ∷ cs)) m ∙ slice_get-behind pre c cs ∙ sym (first c cs (keyed true c e.key have.0 passes))
  found-at pre n (true ∷ ws) (e ∷ es) (c ∷ cs) (suc i) x m l have one at is =
      let fails = not-first e es i x one.0 at is in
      ap (λ all. column_at all (slice_get (places_from (n + 1) ws) i)) (sym (append_assoc pre (c ∷ []) cs))
      ∙ found-at (pre ++ c ∷ []) (n + 1) ws es cs i x (omega (arith, m, length-append pre (c ∷ []))) (omega (arith, l)) have.1 one.1 at is
      ∙ sym (later c cs (keyed false c e.key have.0 fails))
  found-at pre n (false ∷ ws) (e ∷ es) cs zero x m l have one at is =
      sym (none-open ws es cs have (one.0 (ap is_entry_of (same_Some e x at) ∙ is)))
  found-at pre n (false ∷ ws) (e ∷ es) cs (suc i) x m l have one at is =
      found-at pre n ws es cs i x m (omega (arith, l)) have one.1 at is

  -- a column that is found is of the type
  pub column-typed : (cs : List Column) (x : Column) → find is_column cs ≡ Some x → same_type x.column_type t ≡ true
  column-typed [] x h = absurd (some≢none x (sym h))
  column-typed (c ∷ cs) x h = by (is_column c) refl (column-typed cs x) h
    where
      by : (b : Bool) → is_column c ≡ b → (find is_column cs ≡ Some x → same_type x.column_type t ≡ true)
          → cond b (Some c) (find is_column cs) ≡ Some x → same_type x.column_type t ≡ true
      by true is behind h =
          ap (λ (c : Column). same_type c.column_type t) (sym (same_Some c x h))
          ∙ (and_parts (bytes_eq c.name name) (same_type c.column_type t) is).1
      by false is behind h = behind h
