-- Whether numbers may be of a type, by their bounds.
use Rattle.std.proofs.Common.{◌≡◌, ◌∙◌, ℕ, ℤ, ◌-◌, ◌<◌, ◌^◌, ◌&&◌, not, nat_le, get_or, pos, w64, to_z, of_z, int_le, int_lt, Bool, true, false, List, [], ◌∷◌, length, map, filter_map, All, Contains, Some, refl, sym, ap, arith}
use Rattle.std.specs.List.{list_all}
use Rattle.std.specs.Ordering.{int_cmp, partial_le}
use Rattle.std.proofs.lemmas.Bool.{true≢false}
use Rattle.std.proofs.lemmas.Bool.Decides.{nat_tests}
use Rattle.std.proofs.lemmas.Int.{ints}
use Rattle.std.proofs.lemmas.List.Elements.{All-contains}
use Rattle.std.proofs.lemmas.List.Folds.{list_all_at}
use Rattle.std.proofs.lemmas.List.Sums.{list_all-from_AllPass}
use Rattle.col_model.proofs.SharedTypes.{quiet, low-u64, high-i64}
use Rattle.col_model.proofs.SharedTypes as shared
use Rattle.col_model.proofs.SoundTables.{rows-all}
use Rattle.col_model.specs.ColumnType.{ColumnType, same_type}
use Rattle.col_model.specs.ColumnType as types
use Rattle.col_model.specs.Index.{Shape}
use Rattle.col_model.specs.NumericalType.{accepts_i64, accepts_u64, typed_number}
use Rattle.col_model.specs.Table.{Cell, number, text}
use Rattle.col_model.specs.U64List.{joined_lists}
use Rattle.col_values.specs.Codes.{number_cmp, is_i64}
use Rattle.col_values.specs.Monotonic.{Passes}
use Rattle.col_types.specs.Cells.{unsigned_cell}
use Rattle.col_numbers.specs.Views.{IsLeastOf, IsGreatestOf}
use Rattle.col_numbers.specs.declared.num_values.NumValues.{NumValues}
use Rattle.col_column.specs.Columns.{Seen, IsCounted, rows_by}
use Rattle.col_dynamic.specs.Dynamic.{content_of}
use Rattle.col_dynamic.specs.declared.dynamic_column.DynamicColumn.{DynamicColumn}
use Rattle.col_dynamic.specs.declared.dynamic_column.DynamicColumn.TheVariants as columns
use Rattle.col_merge_slot.specs.SlotTypes.{is_low, is_high}
use Rattle.col_dynamic.proofs.CoercionLemmas.{all-rows}

-- ---- columns of other types

-- only an i64 may be below 0
pub never-low : (t : ColumnType) (cells : List Cell) → same_type t types.i64 ≡ false → shared.is_low t cells ≡ false
never-low types.i64 cells h = absurd (true≢false h)
never-low types.u64 cells h = low-u64 cells
never-low types.bytes cells h = (quiet types.bytes types.bytes cells refl).low
never-low types.str cells h = (quiet types.str types.str cells refl).low
never-low types.bool cells h = (quiet types.bool types.bool cells refl).low
never-low types.ip cells h = (quiet types.ip types.ip cells refl).low
never-low types.datetime cells h = (quiet types.datetime types.datetime cells refl).low

-- only a u64 may be past the greatest i64
pub never-high : (t : ColumnType) (cells : List Cell) → same_type t types.u64 ≡ false → shared.is_high t cells ≡ false
never-high types.i64 cells h = high-i64 cells
never-high types.u64 cells h = absurd (true≢false h)
never-high types.bytes cells h = (quiet types.bytes types.bytes cells refl).high
never-high types.str cells h = (quiet types.str types.str cells refl).high
never-high types.bool cells h = (quiet types.bool types.bool cells refl).high
never-high types.ip cells h = (quiet types.ip types.ip cells refl).high
never-high types.datetime cells h = (quiet types.datetime types.datetime cells refl).high

-- columns of which no variant is named
pub other-low : (c : DynamicColumn) → ((d : Seen (NumValues ℤ)) → c ≡ columns.I64 d → ⊥) → is_low c ≡ false
other-low (columns.Bool c) differ = never-low types.bool (joined_lists (content_of (columns.Bool c)).rows) refl
other-low (columns.I64 c) differ = absurd (differ c refl)
other-low (columns.U64 c) differ = never-low types.u64 (joined_lists (content_of (columns.U64 c)).rows) refl
other-low (columns.IpAddr c) differ = never-low types.ip (joined_lists (content_of (columns.IpAddr c)).rows) refl
other-low (columns.DateTime c) differ = never-low types.datetime (joined_lists (content_of (columns.DateTime c)).rows) refl
other-low (columns.Bytes c) differ = never-low types.bytes (joined_lists (content_of (columns.Bytes c)).rows) refl
other-low (columns.Str c) differ = never-low types.str (joined_lists (content_of (columns.Str c)).rows) refl

-- no column but one of u64 holds a number past i64
pub other-high : (c : DynamicColumn) → ((d : Seen (NumValues ℕ)) → c ≡ columns.U64 d → ⊥) → is_high c ≡ false
other-high (columns.Bool c) differ = never-high types.bool (joined_lists (content_of (columns.Bool c)).rows) refl
other-high (columns.I64 c) differ = never-high types.i64 (joined_lists (content_of (columns.I64 c)).rows) refl
other-high (columns.U64 c) differ = absurd (differ c refl)
other-high (columns.IpAddr c) differ = never-high types.ip (joined_lists (content_of (columns.IpAddr c)).rows) refl
other-high (columns.DateTime c) differ = never-high types.datetime (joined_lists (content_of (columns.DateTime c)).rows) refl
other-high (columns.Bytes c) differ = never-high types.bytes (joined_lists (content_of (columns.Bytes c)).rows) refl
other-high (columns.Str c) differ = never-high types.str (joined_lists (content_of (columns.Str c)).rows) refl

-- ---- tests of all numbers

-- a test of the number of a cell with a type
abbrev typed-test : (ColumnType × ℤ → Bool) → ColumnType → Cell → Bool
typed-test p t (number z) = p (t, z)
typed-test p t (text s) = true

typed-all : (p : ColumnType × ℤ → Bool) (t : ColumnType) (cells : List Cell)
    → list_all p (filter_map (typed_number t) cells) ≡ list_all (typed-test p t) cells
typed-all p t [] = refl
typed-all p t (number z ∷ cells) = ap (λ b. p (t, z) && b) (typed-all p t cells)
typed-all p t (text s ∷ cells) = typed-all p t cells

-- numbers of a column's rows are its values
rows-test : {T : Type 0} (p : ColumnType × ℤ → Bool) (t : ColumnType) (cell : T → Cell) (s : Shape) (xs : List T)
    → IsCounted s (length xs)
    → list_all p (filter_map (typed_number t) (joined_lists (map (map cell) (rows_by s xs))))
    ≡ list_all (λ x. typed-test p t (cell x)) xs
rows-test p t cell s xs counted =
    let rows = map (map cell) (rows_by s xs) in
    typed-all p t (joined_lists rows) ∙ rows-all (typed-test p t) rows ∙ all-rows (typed-test p t) cell s xs counted

-- a test of all, by a value for which it is decided
all-by : {T : Type 0} (p : T → Bool) (xs : List T) (v : T) → (xs ≡ [] → p v ≡ true)
    → (0 < length xs → Contains xs v) → (p v ≡ true → All (λ x. p x ≡ true) xs) → p v ≡ list_all p xs
all-by p [] v none some each = none refl
all-by p (x ∷ xs) v none some each = by (p v) refl
  where
    by : (b : Bool) → p v ≡ b → p v ≡ list_all p (x ∷ xs)
    by true e = e ∙ sym (list_all-from_AllPass p (x ∷ xs) (each e))
    by false e =
        let found = some (omega arith) in
        e ∙ sym (list_all_at p (x ∷ xs) found.0 v found.1 (ap p found.2 ∙ e))

-- ---- the least i64

at-least : (a b : ℤ) → partial_le (λ x y. Some (int_cmp x y)) a b ≡ true → int_le (pos 0) a ≡ true → int_le (pos 0) b ≡ true
at-least a b h e = grind (arith, ints, nat_tests)

below-zero : (z : ℤ) → int_lt z (pos 0) ≡ not (int_le (pos 0) z)
below-zero z = grind (arith, ints, nat_tests)

-- a number of 64 bits stays what it is
still : (v : ℤ) → is_i64 v ≡ true → to_z w64 (of_z w64 v) ≡ v
still v h = grind (arith, ints, nat_tests)

-- the least of numbers of 64 bits is one
least-fits : (xs : List ℤ) (v : ℤ) → All (Passes is_i64) xs → (xs ≡ [] → v ≡ pos 0) → (0 < length xs → Contains xs v) → is_i64 v ≡ true
least-fits [] v all none some = ap is_i64 (none refl)
least-fits (x ∷ xs) v all none some = All-contains (Passes is_i64) (x ∷ xs) v all (some (omega arith))

-- the least number is below 0 exactly where some number is
pub least-low : (is_default : ℤ → Type 0) (s : Shape) (xs : List ℤ) (v : ℤ) → IsCounted s (length xs)
    → All (Passes is_i64) xs → IsLeastOf (λ x y. Some (int_cmp x y)) is_default xs v → (is_default v → v ≡ pos 0)
    → int_lt (to_z w64 (of_z w64 v)) (pos 0)
    ≡ shared.is_low types.i64 (joined_lists (map (map number) (rows_by s xs)))
least-low is_default s xs v counted fit least is_zero =
    let none = λ (e : xs ≡ []). is_zero (least.without_values e) in
    ap (λ z. int_lt z (pos 0)) (still v (least-fits xs v fit none least.value))
    ∙ below-zero v
    ∙ ap not (all-by (int_le (pos 0)) xs v (λ e. ap (int_le (pos 0)) (none e)) least.value
    (λ e k d h. at-least v (get_or xs k d) (least.below k d h) e))
    ∙ ap not (sym (rows-test accepts_u64 types.i64 number s xs counted))

-- ---- the greatest u64

at-most : (a b : ℕ) → partial_le number_cmp a b ≡ true → int_lt (pos b) (pos (2 ^ 63 - 1)) ≡ true → int_lt (pos a) (pos (2 ^ 63 - 1)) ≡ true
at-most a b h e = grind (arith, ints, nat_tests)

past : (n : ℕ) → nat_le (2 ^ 63 - 1) n ≡ not (int_lt (pos n) (pos (2 ^ 63 - 1)))
past n = grind (arith, ints, nat_tests)

-- the greatest number is past those that may become an i64 exactly where some number is
pub greatest-high : (is_default : ℕ → Type 0) (s : Shape) (xs : List ℕ) (v : ℕ) → IsCounted s (length xs)
    → IsGreatestOf number_cmp is_default xs v → (is_default v → v ≡ 0) → (limit : ℕ) → limit ≡ 2 ^ 63 - 1
    → nat_le limit v ≡ shared.is_high types.u64 (joined_lists (map (map unsigned_cell) (rows_by s xs)))
greatest-high is_default s xs v counted greatest is_zero limit is =
    ap (λ n. nat_le n v) is
    ∙ past v
    ∙ ap not (all-by (λ n. int_lt (pos n) (pos (2 ^ 63 - 1))) xs v
    (λ e. ap (λ n. int_lt (pos n) (pos (2 ^ 63 - 1))) (is_zero (greatest.without_values e))) greatest.value
    (λ e k d h. at-most (get_or xs k d) v (greatest.above k d h) e))
    ∙ ap not (sym (rows-test accepts_i64 types.u64 unsigned_cell s xs counted))
