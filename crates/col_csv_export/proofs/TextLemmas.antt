-- The texts of values, and the field of a row.
use Rattle.std.proofs.Common.{◌≡◌, ◌∙◌, ℕ, ◌≤◌, zero, suc, List, [], ◌∷◌, ◌++◌, map, length, slice_get, Some, None, Result, OnOk, refl, sym, ap, subst, arith, append-nil, append_assoc}
use Rattle.std.proofs.lemmas.Option.{same_Some}
use Rattle.std.specs.Int.{w128, to_be_bytes}
use Rattle.hex.specs.Hex.{encode_lower}
use Rattle.col_model.specs.ColumnType.{ColumnType}
use Rattle.col_model.specs.ColumnType as types
use Rattle.col_model.specs.Table.{Cell}
use Rattle.col_types.specs.Cells.{unsigned_cell}
use Rattle.col_column.specs.Columns.{first_at, row_at}
use Rattle.col_column.proofs.CellLemmas.{row-map}
use Rattle.col_csv.specs.Csv.{value_text, field_of, equals}

-- an address, by its octets
pub octets-spelled : {E : Type 0} (r : Result (Unit {0}) E) (a b octets : List ℕ) (m n : ℕ) → m ≡ n
    → octets ≡ to_be_bytes w128 m → OnOk r (b ≡ a ++ encode_lower octets)
    → OnOk r (b ≡ a ++ value_text types.ip (unsigned_cell n))
octets-spelled r a b octets m n same is spelled =
    subst (λ s. OnOk r (b ≡ a ++ encode_lower s)) (is ∙ ap (to_be_bytes w128) same) spelled

module _ {T : Type 0} (t : ColumnType) (cell : T → Cell) where
  -- a row without a value has an empty field
  pub none-appended : (row : List T) (a : List ℕ) → slice_get row 0 ≡ None → a ≡ a ++ field_of t (map cell row)
  none-appended [] a e = sym (append-nil a)
  none-appended (v ∷ vs) a e = absurd (cc)

  -- the field of a row with a value is that of its first
  pub some-appended : (row : List T) (v : T) (a b c : List ℕ) → slice_get row 0 ≡ Some v → b ≡ a ++ equals ∷ []
      → c ≡ b ++ value_text t (cell v) → c ≡ a ++ field_of t (map cell row)
  some-appended [] v a b c e one two = absurd (cc)
  some-appended (w ∷ ws) v a b c e one two =
      let same : w ≡ v = same_Some w v e in
      two ∙ ap (λ s. s ++ value_text t (cell v)) one ∙ append_assoc a (equals ∷ []) (value_text t (cell v))
      ∙ ap (λ x. a ++ equals ∷ value_text t (cell x)) (sym same)

-- ---- rows of a column

-- a row that there isn't has no values
row-past : {T : Type 0} (rows : List (List T)) (d : ℕ) → length rows ≤ d → row_at rows d ≡ []
row-past [] d past = refl
row-past (row ∷ rows) zero past = absurd (omega (arith, past))
row-past (row ∷ rows) (suc d) past = row-past rows d (omega (arith, past))

module _ {T : Type 0} (t : ColumnType) (cell : T → Cell) (rows : List (List T)) (d : ℕ) where
  -- a row that the column doesn't have
  pub past-appended : (a : List ℕ) → length rows ≤ d → a ≡ a ++ field_of t (row_at (map (map cell) rows) d)
  past-appended a past =
      subst (λ s. a ≡ a ++ field_of t s) (sym (row-map cell rows d ∙ ap (map cell) (row-past rows d past)))
      (none-appended t cell [] a refl)

  -- a row without a value
  pub no-first : (a : List ℕ) → first_at rows d ≡ None → a ≡ a ++ field_of t (row_at (map (map cell) rows) d)
  no-first a none =
      subst (λ s. a ≡ a ++ field_of t s) (sym (row-map cell rows d)) (none-appended t cell (row_at rows d) a none)

  -- a row with a first value
  pub first-appended : (v : T) (a b c : List ℕ) → first_at rows d ≡ Some v → b ≡ a ++ equals ∷ []
      → c ≡ b ++ value_text t (cell v) → c ≡ a ++ field_of t (row_at (map (map cell) rows) d)
  first-appended v a b c some one two =
      subst (λ s. c ≡ a ++ field_of t s) (sym (row-map cell rows d))
      (some-appended t cell (row_at rows d) v a b c some one two)
