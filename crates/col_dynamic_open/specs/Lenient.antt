-- Columns of any type as columns of numbers.
use Rattle.std.specs.Prelude.{◌≡◌, ℕ, true, List, length, Option, None, if◌then◌else◌}
use Rattle.col_common.specs.Ascending.{AreBelow}
use Rattle.col_model.specs.ColumnType.{ColumnType, has_terms, same_type}
use Rattle.col_model.specs.ColumnType as types
use Rattle.col_model.specs.Table.{Content}
use Rattle.col_dynamic.specs.Columns.{Seen, content_seen}
use Rattle.col_dynamic.specs.Opened.{codes_behind}
use Rattle.col_compact.specs.Coded.{Coded}
use Rattle.col_dynamic_open.specs.LenientValues.{lenient_values_of, are_codes, lenient_cell}
use Rattle.col_dynamic.specs.NumValuesType.{NumValues}
use Rattle.col_dynamic_open.specs.declared.lenient.LenientValues.{LenientValues}
use Rattle.col_dynamic_open.specs.declared.lenient.LenientValues.TheVariants.{Num}

-- A column of numbers in place of one of this type: the numbers of its values, the ordinals of its
-- terms, or the codes of its addresses.
pub record IsInPlaceOf (t : ColumnType) (content : Content) (c : Seen LenientValues) : Type 0
  where
    pub cells : content
        ≡ content_seen content.terms (lenient_cell t content.terms c.values) c.shape
        (lenient_values_of c.values)
    pub ordinals : has_terms t ≡ true → AreBelow (length content.terms)
        (lenient_values_of c.values)
    pub codes : are_codes c.values ≡ same_type t types.ip

-- the codes that the bytes of a column of this type spell: those of addresses, and none of others
abbrev pub codes_spelled : ColumnType → List ℕ → Option Coded
codes_spelled t bytes = if same_type t types.ip then codes_behind bytes else None

-- the column over numbers that may also be codes
abbrev pub seen_as : Seen (NumValues ℕ) → Seen LenientValues
seen_as c = record { shape = c.shape; values = Num c.values }
