-- What is made of the bytes of a column.
use Rattle.std.specs.Prelude.{ℕ, ◌-◌, Option, Some, None, Result, Ok, Err, if◌then◌else◌}
use Rattle.col_common.specs.Decoding.{Refuses}
use Rattle.col_common.specs.declared.error.ColumnarError.{ColumnarError}
use Rattle.col_model.specs.ColumnType.{ColumnType, has_terms}
use Rattle.col_model.specs.Limits.{dictionary_length}
use Rattle.col_model.specs.Table.{Content}
use Rattle.col_types.specs.Usage.{Usage}

-- What a decoder made is of the value that is expected, unless memory ran out; InvalidData says
-- that none is.
abbrev pub DecodesTo : {T V : Type 0} → (V → T → Type 0) → Result T ColumnarError → Option V →
    Type 0
DecodesTo IsOf (Ok made) (Some value) = IsOf value made
DecodesTo IsOf (Ok made) None = ⊥
DecodesTo IsOf (Err e) expected = Refuses e expected

-- the bytes of a column of so many, and those of its dictionary apart where its type has terms
abbrev pub usage_of : ℕ → ColumnType → Content → Usage
usage_of num_bytes t content =
    let terms = dictionary_length content.terms in
    if has_terms t
    then (record { column = num_bytes - terms; dictionary = Some terms })
    else (record { column = num_bytes; dictionary = None })
