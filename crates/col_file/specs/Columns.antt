-- Columns that are opened by their handles.
use Rattle.std.specs.Prelude.{◌≡◌, ◌-◌, ℕ, List, Option, IfSome, slice_range}
use Rattle.col_common.specs.Reading.{◌>>=◌, only_if}
use Rattle.col_dynamic_open.specs.Columns.{row_count}
use Rattle.col_dynamic_open.specs.Dynamic.{type_of, content_of, dynamic_shape, value_count}
use Rattle.col_dynamic_open.specs.DynamicColumnType.{DynamicColumn}
use Rattle.col_model.specs.Column.{column}
use Rattle.col_model.specs.ColumnType.{ColumnType}
use Rattle.col_model.specs.Keys.{FileKeys}
use Rattle.col_model.specs.Table.{Content}
use Rattle.col_dynamic_open.specs.Contents.{usage_of}
use Rattle.col_dynamic_open.specs.Lenient.{codes_spelled}
use Rattle.col_dynamic_open.specs.LenientValues.{codes_of}
use Rattle.col_dynamic_open.specs.declared.lenient.LenientValues.{LenientValues}
use Rattle.col_types.specs.Usage.{Usage}
use Rattle.col_file.specs.Handles.{Handle, is_entry}

-- the bytes of a handle's column, where the handle is that of an entry
abbrev pub bytes_at : FileKeys → Handle → List ℕ → Option (List ℕ)
bytes_at k h bytes = only_if (is_entry k h) (slice_range bytes h.start h.«end»)

-- what they stand for
abbrev pub content_at : FileKeys → Handle → List ℕ → Option Content
content_at k h bytes = bytes_at k h bytes >>= λ part.
    column part h.column_type k.version k.row_count

-- a column of the handle's type, with just this content
pub record HasContent (t : ColumnType) (content : Content) (c : DynamicColumn) : Type 0 where
  pub kind : type_of c ≡ t
  pub cells : content_of c ≡ content

-- a column of this type and of so many rows
pub record IsTyped (t : ColumnType) (n : ℕ) (c : DynamicColumn) : Type 0 where
  pub kind : type_of c ≡ t
  pub rows : row_count (dynamic_shape c) (value_count c) ≡ n

-- the codes that stand in place of addresses are those that the bytes of the handle's column spell,
-- where the file tells them
abbrev pub HasCodesSpelled : FileKeys → Handle → Option (List ℕ) → LenientValues → Type 0
HasCodesSpelled k h told v = IfSome told (λ bytes. IfSome (bytes_at k h bytes) (λ part.
    codes_of v ≡ codes_spelled h.column_type part))

-- the bytes of the handle's column with this content, and those of its dictionary apart
abbrev pub IsUsage : Handle → Content → Usage → Type 0
IsUsage h content u = u ≡ usage_of (h.«end» - h.start) h.column_type content
