-- Columns that are read as numbers of a type, or as addresses.
use Rattle.std.proofs.Common.{◌≡◌, ◌∙◌, ℕ, ℤ, ◌<◌, ◌^◌, ◌&&◌, Bool, true, false, List, [], ◌∷◌, length, map, get_or, All, Some, is_some, IfSome, refl, sym, ap, ap₂, arith}
use Rattle.std.specs.List.{list_all}
use Rattle.std.specs.Ordering.{partial_le}
use Rattle.std.proofs.lemmas.Bool.{true≢false}
use Rattle.std.proofs.lemmas.Bool.Decides.{nat_tests}
use Rattle.std.proofs.lemmas.Int.{ints}
use Rattle.std.proofs.lemmas.Option.{none-some, same_Some}
use Rattle.std.proofs.lemmas.List.Sums.{list_all-from_AllPass}
use Rattle.col_model.proofs.SoundTables.{rows-all}
use Rattle.col_model.specs.ColumnType.{ColumnType, is_numerical, same_type}
use Rattle.col_model.specs.ColumnType as types
use Rattle.col_model.specs.Index.{Shape}
use Rattle.col_model.specs.Limits.{is_of_type}
use Rattle.col_model.specs.Table.{Cell, number, text, Content}
use Rattle.col_model.specs.U64List.{joined_lists}
use Rattle.col_values.specs.Codes.{number_cmp, is_i64}
use Rattle.col_values.specs.Monotonic.{Passes}
use Rattle.col_types.specs.Cells.{unsigned_cell, bool_cell}
use Rattle.col_numbers.specs.NumValues.{num_values_of}
use Rattle.col_numbers.specs.declared.num_values.NumValues.{NumValues}
use Rattle.col_column.specs.declared.ip_values.IpValues.{IpValues}
use Rattle.col_column.specs.Columns.{Seen, IsCounted, row_count, rows_by, content_seen}
use Rattle.col_dynamic.specs.Dynamic.{type_of, content_of, dynamic_shape, value_count, is_of, fits_type, as_bool, as_i64, as_u64, as_datetime, as_ip_addr}
use Rattle.col_dynamic.specs.declared.dynamic_column.DynamicColumn.{DynamicColumn}
use Rattle.col_dynamic.specs.declared.dynamic_column.DynamicColumn.TheVariants as columns
use Rattle.col_dynamic.proofs.RowLemmas.{cell-rows, seen-rows}
use Rattle.col_merge_slot.specs.Segments.{same_category, is_read_as, IsPart}
use Rattle.col_merge_slot.proofs.OwnLemmas.{own-cells}

-- ---- how many rows there are

-- An index and values with a column's content are a part with the column's rows.
pub same-rows : {T : Type 0} (cell : T → Cell) (c : DynamicColumn) (s : Shape) (xs : List T)
    → content_of c ≡ content_seen [] cell s xs
    → row_count s (length xs) ≡ row_count (dynamic_shape c) (value_count c)
same-rows cell c s xs same =
    sym (cell-rows cell s xs) ∙ sym (ap (λ (content : Content). length content.rows) same) ∙ seen-rows c

-- An index and values, which a column with the same content was taken apart as, are a part.
pub same-part :
    {V T : Type 0} (list : V → List T) (cell : T → Cell) (c : DynamicColumn) (d : Seen V) (s : Shape) (v : V)
    → content_of c ≡ content_seen [] cell d.shape (list d.values) → s ≡ d.shape → v ≡ d.values
    → IsCounted s (length (list v))
    → IsPart (λ v. length (list v)) (λ s v. content_seen [] cell s (list v))
    (row_count (dynamic_shape c) (value_count c)) (Some c) s v
same-part list cell c d s v same shape values counted =
    let seen = same ∙ ap₂ (λ s v. content_seen [] cell s (list v)) (sym shape) (sym values) in
    record { rows = same-rows cell c s (list v) seen; counted = counted; seen = seen }

-- ---- numbers

-- a coercion's test is that of the definition
fits-read : (t own : ColumnType) (rows : List (List Cell)) → is_numerical own ≡ same_category own t
    → ((c : Cell) → is_of t c ≡ is_of_type t c)
    → (is_numerical own && list_all (list_all (is_of t)) rows)
    ≡ (same_category own t && list_all (is_of_type t) (joined_lists rows))
fits-read t own rows category same =
    ap₂ (λ a b. a && b) category
    (ap (λ p. list_all (list_all p) rows) (λ i c. same c i) ∙ sym (rows-all (is_of_type t) rows))

signed-category : (own : ColumnType) → is_numerical own ≡ same_category own types.i64
signed-category types.i64 = refl
signed-category types.u64 = refl
signed-category types.bytes = refl
signed-category types.str = refl
signed-category types.bool = refl
signed-category types.ip = refl
signed-category types.datetime = refl

signed-cells : (c : Cell) → is_of types.i64 c ≡ is_of_type types.i64 c
signed-cells (number z) = refl
signed-cells (text s) = refl

unsigned-cells : (c : Cell) → is_of types.u64 c ≡ is_of_type types.u64 c
unsigned-cells (number z) = refl
unsigned-cells (text s) = refl

-- a column's cells fit i64 where it can be read as i64
pub fits-i64 : (c : DynamicColumn) → fits_type types.i64 (type_of c) (content_of c) ≡ is_read_as types.i64 c
fits-i64 c = fits-read types.i64 (type_of c) (content_of c).rows (signed-category (type_of c)) signed-cells

-- a column's cells fit u64 where it can be read as u64
pub fits-u64 : (c : DynamicColumn) → fits_type types.u64 (type_of c) (content_of c) ≡ is_read_as types.u64 c
fits-u64 c = fits-read types.u64 (type_of c) (content_of c).rows (signed-category (type_of c)) unsigned-cells

-- types differ
other : {A : Type 0} (s t : ColumnType) → same_type s t ≡ false → same_type t t ≡ true → s ≡ t → A
other s t differ same e = absurd (true≢false (sym same ∙ ap (λ r. same_type r t) (sym e) ∙ differ))

-- a column of i64, with the same content as another
pub is-i64 : (c : DynamicColumn) (content : Content) → type_of c ≡ types.i64 → content_of c ≡ content
    → (is_some (as_i64 c) ≡ true)
    × IfSome (as_i64 c) (λ d. content ≡ content_seen [] number d.shape (num_values_of d.values))
is-i64 (columns.Bool c) content e same = other types.bool types.i64 refl refl e
is-i64 (columns.I64 c) content e same = (refl, sym same)
is-i64 (columns.U64 c) content e same = other types.u64 types.i64 refl refl e
is-i64 (columns.IpAddr c) content e same = other types.ip types.i64 refl refl e
is-i64 (columns.DateTime c) content e same = other types.datetime types.i64 refl refl e
is-i64 (columns.Bytes c) content e same = other types.bytes types.i64 refl refl e
is-i64 (columns.Str c) content e same = other types.str types.i64 refl refl e

-- the same of u64
pub is-u64 : (c : DynamicColumn) (content : Content) → type_of c ≡ types.u64 → content_of c ≡ content
    → (is_some (as_u64 c) ≡ true)
    × IfSome (as_u64 c) (λ d. content ≡ content_seen [] unsigned_cell d.shape (num_values_of d.values))
is-u64 (columns.Bool c) content e same = other types.bool types.u64 refl refl e
is-u64 (columns.I64 c) content e same = other types.i64 types.u64 refl refl e
is-u64 (columns.U64 c) content e same = (refl, sym same)
is-u64 (columns.IpAddr c) content e same = other types.ip types.u64 refl refl e
is-u64 (columns.DateTime c) content e same = other types.datetime types.u64 refl refl e
is-u64 (columns.Bytes c) content e same = other types.bytes types.u64 refl refl e
is-u64 (columns.Str c) content e same = other types.str types.u64 refl refl e

-- ---- columns of a category with one type

flags-all : (row : List Bool) → list_all (is_of_type types.bool) (map bool_cell row) ≡ true
flags-all [] = refl
flags-all (true ∷ row) = flags-all row
flags-all (false ∷ row) = flags-all row

flags-rows : (rows : List (List Bool)) → list_all (list_all (is_of_type types.bool)) (map (map bool_cell) rows) ≡ true
flags-rows [] = refl
flags-rows (row ∷ rows) = ap₂ (λ a b. a && b) (flags-all row) (flags-rows rows)

-- a column of flags is read as one of flags, and no other is
pub is-bool : (c : DynamicColumn) → is_some (as_bool c) ≡ is_read_as types.bool c
is-bool (columns.Bool c) =
    let rows = rows_by c.shape (num_values_of c.values) in
    sym (rows-all (is_of_type types.bool) (map (map bool_cell) rows) ∙ flags-rows rows)
is-bool (columns.I64 c) = refl
is-bool (columns.U64 c) = refl
is-bool (columns.IpAddr c) = refl
is-bool (columns.DateTime c) = refl
is-bool (columns.Bytes c) = refl
is-bool (columns.Str c) = refl

-- a column of times, and one of addresses
pub is-datetime : (c : DynamicColumn) (d : Seen (NumValues ℤ)) → as_datetime c ≡ Some d → columns.DateTime d ≡ c
is-datetime (columns.Bool c) d e = absurd (none-some d e)
is-datetime (columns.I64 c) d e = absurd (none-some d e)
is-datetime (columns.U64 c) d e = absurd (none-some d e)
is-datetime (columns.IpAddr c) d e = absurd (none-some d e)
is-datetime (columns.DateTime c) d e = ap columns.DateTime (sym (same_Some c d e))
is-datetime (columns.Bytes c) d e = absurd (none-some d e)
is-datetime (columns.Str c) d e = absurd (none-some d e)

-- a column that is read as addresses is one of addresses
pub is-address : (c : DynamicColumn) (d : Seen IpValues) → as_ip_addr c ≡ Some d → columns.IpAddr d ≡ c
is-address (columns.Bool c) d e = absurd (none-some d e)
is-address (columns.I64 c) d e = absurd (none-some d e)
is-address (columns.U64 c) d e = absurd (none-some d e)
is-address (columns.IpAddr c) d e = ap columns.IpAddr (sym (same_Some c d e))
is-address (columns.DateTime c) d e = absurd (none-some d e)
is-address (columns.Bytes c) d e = absurd (none-some d e)
is-address (columns.Str c) d e = absurd (none-some d e)

-- signed numbers of 64 bits are cells of points in time
pub times-read : (s : Shape) (xs : List ℤ) → IsCounted s (length xs) → All (Passes is_i64) xs
    → list_all (is_of_type types.datetime) (joined_lists (map (map number) (rows_by s xs))) ≡ true
times-read s xs counted all = own-cells types.datetime number s xs counted (list_all-from_AllPass is_i64 xs all)

within : (a b : ℕ) → partial_le number_cmp a b ≡ true → b < 2 ^ 128 → is_of_type types.ip (unsigned_cell a) ≡ true
within a b h lt = grind (arith, ints, nat_tests)

-- numbers up to a greatest below 2 ^ 128 are cells of addresses
pub addresses-read : (s : Shape) (xs : List ℕ) (greatest : ℕ) → IsCounted s (length xs)
    → All (λ x. partial_le number_cmp x greatest ≡ true) xs → greatest < 2 ^ 128
    → list_all (is_of_type types.ip) (joined_lists (map (map unsigned_cell) (rows_by s xs))) ≡ true
addresses-read s xs greatest counted above lt =
    own-cells types.ip unsigned_cell s xs counted
    (list_all-from_AllPass (λ x. is_of_type types.ip (unsigned_cell x)) xs (λ k d h. within (get_or xs k d) greatest (above k d h) lt))
