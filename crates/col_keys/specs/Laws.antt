-- Laws of keys: public calls ensure them, and have nothing else to do.
use Rattle.std.specs.Prelude.{◌≡◌, true}
use Rattle.std.specs.Ordering.{nat_cmp, is_lt, ordering_then}
use Rattle.std.specs.Cmp.Lexicographic.{slice_cmp}
use Rattle.col_common.specs.Ascending.{is_before}
use Rattle.col_model.specs.ColumnType.{type_code}
use Rattle.col_model.specs.Keys.{Key, key_bytes, is_name}

-- The bytes of keys with names stand in the order of the names, byte by byte, then of the codes.
abbrev pub KeysCompareByName : Type 0
KeysCompareByName = (a b : Key) → is_name a.name ≡ true → is_name b.name ≡ true →
    is_before (key_bytes a) (key_bytes b) ≡ is_lt (ordering_then (slice_cmp nat_cmp a.name b.name)
    (nat_cmp (type_code a.column_type) (type_code b.column_type)))
