-- Keys of numbers, flags, points in time and addresses.
use Rattle.std.proofs.Common.{◌≡◌, ℕ, ℤ, pos, Bool, List, Option, refl, length, ◌∙◌, sym}
use Rattle.std.specs.List.{AllZip}
use Rattle.std.specs.Ordering.{nat_cmp, int_cmp, bool_cmp}
use Rattle.std.proofs.lemmas.List.{length-map, length-replicate}
use Rattle.std.specs.Prelude.{None, slice_get, option_map, map}
use Rattle.col_model.specs.Category as categories
use Rattle.col_model.specs.Cells.{unsigned_cell, bool_cell}
use Rattle.col_model.specs.Table.{Cell, number}
use Rattle.col_model.proofs.CellLaws.{unsigned_cells, signed_cells, bool_cells}
use Rattle.col_numbers.specs.NumValues.{num_values_of}
use Rattle.col_column.specs.Columns.{rows_of_values}
use Rattle.col_column.specs.IpValues.{ip_values_of}
use Rattle.col_dynamic.specs.Dynamic.{content_of}
use Rattle.col_dynamic.specs.declared.dynamic_column.DynamicColumn.{DynamicColumn}
use Rattle.col_dynamic.specs.declared.dynamic_column.DynamicColumn.TheVariants as columns
use Rattle.col_sort.specs.Firsts.{first_keys}
use Rattle.col_sort_rows.specs.Keys.{rows_by_keys}
use Rattle.col_sort.specs.Columns.{all_keys, SortsColumns, no_keys, number_keys, bool_keys, time_keys, address_keys}
use Rattle.col_merge_slot.specs.Segments.{IsOfCategory, HaveRows}
use Rattle.col_sort.proofs.CellLemmas.{AgreesAs, Compare}
use Rattle.col_sort.proofs.AgreeLemmas.{firsts-agree}
use Rattle.col_sort.proofs.ColumnLemmas.{AreKeysOf, compare-cells, columns-sorted}

-- ---- how many there are

-- as many first values as rows
pub many-firsts : {T K : Type 0} (key : T → K) (cell : T → Cell) (rows : List (List T))
    → length (first_keys key rows) ≡ length (map (map cell) rows)
unfolding first_keys
many-firsts key cell rows = length-map rows (λ row. option_map key (slice_get row 0)) ∙ sym (length-map rows (map cell))

-- as many where none has a key
pub many-none : (K : Type 0) (c : DynamicColumn) → length (no_keys {K = K} c) ≡ length (content_of c).rows
many-none K c = length-replicate (length (content_of c).rows) None

-- ---- numbers

numbers-agree : (c : DynamicColumn) → IsOfCategory categories.numerical c
    → AllZip (AgreesAs (λ c k. c ≡ number k)) (map (λ row. slice_get row 0) (content_of c).rows) (number_keys c)
numbers-agree (columns.Bool c) h = absurd cc
numbers-agree (columns.I64 c) h = firsts-agree (λ c k. c ≡ number k) number (λ z. z) (λ _. refl) (rows_of_values num_values_of c)
numbers-agree (columns.U64 c) h = firsts-agree (λ c k. c ≡ number k) unsigned_cell pos (λ _. refl) (rows_of_values num_values_of c)
numbers-agree (columns.IpAddr c) h = absurd cc
numbers-agree (columns.DateTime c) h = absurd cc
numbers-agree (columns.Bytes c) h = absurd cc
numbers-agree (columns.Str c) h = absurd cc

numbers-many : (c : DynamicColumn) → length (number_keys c) ≡ length (content_of c).rows
numbers-many (columns.Bool c) = many-none ℤ (columns.Bool c)
numbers-many (columns.I64 c) = many-firsts (λ z. z) number (rows_of_values num_values_of c)
numbers-many (columns.U64 c) = many-firsts pos unsigned_cell (rows_of_values num_values_of c)
numbers-many (columns.IpAddr c) = many-none ℤ (columns.IpAddr c)
numbers-many (columns.DateTime c) = many-none ℤ (columns.DateTime c)
numbers-many (columns.Bytes c) = many-none ℤ (columns.Bytes c)
numbers-many (columns.Str c) = many-none ℤ (columns.Str c)

pub numbers-are_keys : AreKeysOf (IsOfCategory categories.numerical) (λ c k. c ≡ number k) number_keys
numbers-are_keys = record { agree = numbers-agree; many = numbers-many }

-- ---- flags

flags-agree : (c : DynamicColumn) → IsOfCategory categories.bool c
    → AllZip (AgreesAs (λ c k. c ≡ bool_cell k)) (map (λ row. slice_get row 0) (content_of c).rows) (bool_keys c)
flags-agree (columns.Bool c) h = firsts-agree (λ c k. c ≡ bool_cell k) bool_cell (λ b. b) (λ _. refl) (rows_of_values num_values_of c)
flags-agree (columns.I64 c) h = absurd cc
flags-agree (columns.U64 c) h = absurd cc
flags-agree (columns.IpAddr c) h = absurd cc
flags-agree (columns.DateTime c) h = absurd cc
flags-agree (columns.Bytes c) h = absurd cc
flags-agree (columns.Str c) h = absurd cc

flags-many : (c : DynamicColumn) → length (bool_keys c) ≡ length (content_of c).rows
flags-many (columns.Bool c) = many-firsts (λ b. b) bool_cell (rows_of_values num_values_of c)
flags-many (columns.I64 c) = many-none Bool (columns.I64 c)
flags-many (columns.U64 c) = many-none Bool (columns.U64 c)
flags-many (columns.IpAddr c) = many-none Bool (columns.IpAddr c)
flags-many (columns.DateTime c) = many-none Bool (columns.DateTime c)
flags-many (columns.Bytes c) = many-none Bool (columns.Bytes c)
flags-many (columns.Str c) = many-none Bool (columns.Str c)

pub flags-are_keys : AreKeysOf (IsOfCategory categories.bool) (λ c k. c ≡ bool_cell k) bool_keys
flags-are_keys = record { agree = flags-agree; many = flags-many }

-- ---- points in time

times-agree : (c : DynamicColumn) → IsOfCategory categories.datetime c
    → AllZip (AgreesAs (λ c k. c ≡ number k)) (map (λ row. slice_get row 0) (content_of c).rows) (time_keys c)
times-agree (columns.Bool c) h = absurd cc
times-agree (columns.I64 c) h = absurd cc
times-agree (columns.U64 c) h = absurd cc
times-agree (columns.IpAddr c) h = absurd cc
times-agree (columns.DateTime c) h = firsts-agree (λ c k. c ≡ number k) number (λ t. t) (λ _. refl) (rows_of_values num_values_of c)
times-agree (columns.Bytes c) h = absurd cc
times-agree (columns.Str c) h = absurd cc

times-many : (c : DynamicColumn) → length (time_keys c) ≡ length (content_of c).rows
times-many (columns.Bool c) = many-none ℤ (columns.Bool c)
times-many (columns.I64 c) = many-none ℤ (columns.I64 c)
times-many (columns.U64 c) = many-none ℤ (columns.U64 c)
times-many (columns.IpAddr c) = many-none ℤ (columns.IpAddr c)
times-many (columns.DateTime c) = many-firsts (λ t. t) number (rows_of_values num_values_of c)
times-many (columns.Bytes c) = many-none ℤ (columns.Bytes c)
times-many (columns.Str c) = many-none ℤ (columns.Str c)

pub times-are_keys : AreKeysOf (IsOfCategory categories.datetime) (λ c k. c ≡ number k) time_keys
times-are_keys = record { agree = times-agree; many = times-many }

-- ---- addresses

addresses-agree : (c : DynamicColumn) → IsOfCategory categories.ip c
    → AllZip (AgreesAs (λ c k. c ≡ unsigned_cell k)) (map (λ row. slice_get row 0) (content_of c).rows) (address_keys c)
addresses-agree (columns.Bool c) h = absurd cc
addresses-agree (columns.I64 c) h = absurd cc
addresses-agree (columns.U64 c) h = absurd cc
addresses-agree (columns.IpAddr c) h =
    firsts-agree (λ c k. c ≡ unsigned_cell k) unsigned_cell (λ n. n) (λ _. refl) (rows_of_values ip_values_of c)
addresses-agree (columns.DateTime c) h = absurd cc
addresses-agree (columns.Bytes c) h = absurd cc
addresses-agree (columns.Str c) h = absurd cc

addresses-many : (c : DynamicColumn) → length (address_keys c) ≡ length (content_of c).rows
addresses-many (columns.Bool c) = many-none ℕ (columns.Bool c)
addresses-many (columns.I64 c) = many-none ℕ (columns.I64 c)
addresses-many (columns.U64 c) = many-none ℕ (columns.U64 c)
addresses-many (columns.IpAddr c) = many-firsts (λ n. n) unsigned_cell (rows_of_values ip_values_of c)
addresses-many (columns.DateTime c) = many-none ℕ (columns.DateTime c)
addresses-many (columns.Bytes c) = many-none ℕ (columns.Bytes c)
addresses-many (columns.Str c) = many-none ℕ (columns.Str c)

pub addresses-are_keys : AreKeysOf (IsOfCategory categories.ip) (λ c k. c ≡ unsigned_cell k) address_keys
addresses-are_keys = record { agree = addresses-agree; many = addresses-many }

-- ---- they compare as their cells

pub numbers-compare : Compare int_cmp (λ c k. c ≡ number k)
numbers-compare = compare-cells int_cmp number signed_cells

pub flags-compare : Compare bool_cmp (λ c k. c ≡ bool_cell k)
flags-compare = compare-cells bool_cmp bool_cell bool_cells

pub addresses-compare : Compare nat_cmp (λ c k. c ≡ unsigned_cell k)
addresses-compare = compare-cells nat_cmp unsigned_cell unsigned_cells

-- ---- rows by them are those by cells

pub numbers-sorted : (reversed : Bool) (os : List (Option DynamicColumn)) (ns : List ℕ) (rows : List (ℕ × ℕ)) → HaveRows ns os
    → rows ≡ rows_by_keys int_cmp reversed (all_keys number_keys os ns) → SortsColumns categories.numerical ns os reversed rows
numbers-sorted reversed os ns rows =
    columns-sorted (IsOfCategory categories.numerical) (λ c k. c ≡ number k) number_keys numbers-are_keys categories.numerical int_cmp
    numbers-compare reversed os ns rows (λ all. all)

pub flags-sorted : (reversed : Bool) (os : List (Option DynamicColumn)) (ns : List ℕ) (rows : List (ℕ × ℕ)) → HaveRows ns os
    → rows ≡ rows_by_keys bool_cmp reversed (all_keys bool_keys os ns) → SortsColumns categories.bool ns os reversed rows
flags-sorted reversed os ns rows =
    columns-sorted (IsOfCategory categories.bool) (λ c k. c ≡ bool_cell k) bool_keys flags-are_keys categories.bool bool_cmp
    flags-compare reversed os ns rows (λ all. all)

pub times-sorted : (reversed : Bool) (os : List (Option DynamicColumn)) (ns : List ℕ) (rows : List (ℕ × ℕ)) → HaveRows ns os
    → rows ≡ rows_by_keys int_cmp reversed (all_keys time_keys os ns) → SortsColumns categories.datetime ns os reversed rows
times-sorted reversed os ns rows =
    columns-sorted (IsOfCategory categories.datetime) (λ c k. c ≡ number k) time_keys times-are_keys categories.datetime int_cmp
    numbers-compare reversed os ns rows (λ all. all)

pub addresses-sorted : (reversed : Bool) (os : List (Option DynamicColumn)) (ns : List ℕ) (rows : List (ℕ × ℕ)) → HaveRows ns os
    → rows ≡ rows_by_keys nat_cmp reversed (all_keys address_keys os ns) → SortsColumns categories.ip ns os reversed rows
addresses-sorted reversed os ns rows =
    columns-sorted (IsOfCategory categories.ip) (λ c k. c ≡ unsigned_cell k) address_keys addresses-are_keys categories.ip nat_cmp
    addresses-compare reversed os ns rows (λ all. all)
