-- Keys of numbers, where all columns are of one type.
use Rattle.std.proofs.Common.{◌≡◌, ℕ, ℤ, Bool, List, Option, refl, length, map}
use Rattle.std.specs.List.{AllZip}
use Rattle.std.specs.Ordering.{nat_cmp, int_cmp}
use Rattle.std.specs.Prelude.{slice_get}
use Rattle.col_model.specs.Category as categories
use Rattle.col_model.specs.Cells.{unsigned_cell}
use Rattle.col_model.specs.ColumnType as types
use Rattle.col_model.specs.Table.{number}
use Rattle.col_numbers.specs.NumValues.{num_values_of}
use Rattle.col_column.specs.Columns.{rows_of_values}
use Rattle.col_dynamic.specs.Dynamic.{content_of, type_of}
use Rattle.col_dynamic.specs.declared.dynamic_column.DynamicColumn.{DynamicColumn}
use Rattle.col_dynamic.specs.declared.dynamic_column.DynamicColumn.TheVariants as columns
use Rattle.col_sort_rows.specs.Keys.{rows_by_keys}
use Rattle.col_sort.specs.Columns.{all_keys, SortsColumns, AreOfType, unsigned_keys, signed_keys}
use Rattle.col_merge_slot.specs.Segments.{HaveRows}
use Rattle.col_sort.proofs.CellLemmas.{AgreesAs}
use Rattle.col_sort.proofs.AgreeLemmas.{firsts-agree}
use Rattle.col_sort.proofs.ColumnLemmas.{columns-sorted}
use Rattle.col_sort.proofs.TypedLemmas.{many-firsts, many-none, numbers-compare, addresses-compare}

-- ---- columns of u64

unsigned-agree : (c : DynamicColumn) → type_of c ≡ types.u64
    → AllZip (AgreesAs (λ c k. c ≡ unsigned_cell k)) (map (λ row. slice_get row 0) (content_of c).rows) (unsigned_keys c)
unsigned-agree (columns.Bool c) h = absurd cc
unsigned-agree (columns.I64 c) h = absurd cc
unsigned-agree (columns.U64 c) h =
    firsts-agree (λ c k. c ≡ unsigned_cell k) unsigned_cell (λ v. v) (λ _. refl) (rows_of_values num_values_of c)
unsigned-agree (columns.IpAddr c) h = absurd cc
unsigned-agree (columns.DateTime c) h = absurd cc
unsigned-agree (columns.Bytes c) h = absurd cc
unsigned-agree (columns.Str c) h = absurd cc

unsigned-many : (c : DynamicColumn) → length (unsigned_keys c) ≡ length (content_of c).rows
unsigned-many (columns.Bool c) = many-none ℕ (columns.Bool c)
unsigned-many (columns.I64 c) = many-none ℕ (columns.I64 c)
unsigned-many (columns.U64 c) = many-firsts (λ v. v) unsigned_cell (rows_of_values num_values_of c)
unsigned-many (columns.IpAddr c) = many-none ℕ (columns.IpAddr c)
unsigned-many (columns.DateTime c) = many-none ℕ (columns.DateTime c)
unsigned-many (columns.Bytes c) = many-none ℕ (columns.Bytes c)
unsigned-many (columns.Str c) = many-none ℕ (columns.Str c)

-- rows by them are those by cells
pub unsigned-sorted : (reversed : Bool) (os : List (Option DynamicColumn)) (ns : List ℕ) (rows : List (ℕ × ℕ))
    → AreOfType types.u64 os → HaveRows ns os → rows ≡ rows_by_keys nat_cmp reversed (all_keys unsigned_keys os ns)
    → SortsColumns categories.numerical ns os reversed rows
unsigned-sorted reversed os ns rows all =
    columns-sorted (λ c. type_of c ≡ types.u64) (λ c k. c ≡ unsigned_cell k) unsigned_keys
    (record { agree = unsigned-agree; many = unsigned-many })
    categories.numerical nat_cmp addresses-compare reversed os ns rows (λ _. all)

-- ---- columns of i64

signed-agree : (c : DynamicColumn) → type_of c ≡ types.i64
    → AllZip (AgreesAs (λ c k. c ≡ number k)) (map (λ row. slice_get row 0) (content_of c).rows) (signed_keys c)
signed-agree (columns.Bool c) h = absurd cc
signed-agree (columns.I64 c) h =
    firsts-agree (λ c k. c ≡ number k) number (λ v. v) (λ _. refl) (rows_of_values num_values_of c)
signed-agree (columns.U64 c) h = absurd cc
signed-agree (columns.IpAddr c) h = absurd cc
signed-agree (columns.DateTime c) h = absurd cc
signed-agree (columns.Bytes c) h = absurd cc
signed-agree (columns.Str c) h = absurd cc

signed-many : (c : DynamicColumn) → length (signed_keys c) ≡ length (content_of c).rows
signed-many (columns.Bool c) = many-none ℤ (columns.Bool c)
signed-many (columns.I64 c) = many-firsts (λ v. v) number (rows_of_values num_values_of c)
signed-many (columns.U64 c) = many-none ℤ (columns.U64 c)
signed-many (columns.IpAddr c) = many-none ℤ (columns.IpAddr c)
signed-many (columns.DateTime c) = many-none ℤ (columns.DateTime c)
signed-many (columns.Bytes c) = many-none ℤ (columns.Bytes c)
signed-many (columns.Str c) = many-none ℤ (columns.Str c)

-- rows by them are those by cells
pub signed-sorted : (reversed : Bool) (os : List (Option DynamicColumn)) (ns : List ℕ) (rows : List (ℕ × ℕ))
    → AreOfType types.i64 os → HaveRows ns os → rows ≡ rows_by_keys int_cmp reversed (all_keys signed_keys os ns)
    → SortsColumns categories.numerical ns os reversed rows
signed-sorted reversed os ns rows all =
    columns-sorted (λ c. type_of c ≡ types.i64) (λ c k. c ≡ number k) signed_keys (record { agree = signed-agree; many = signed-many })
    categories.numerical int_cmp numbers-compare reversed os ns rows (λ _. all)
