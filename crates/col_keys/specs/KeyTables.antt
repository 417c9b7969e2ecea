-- The keys of a file as the definitions have them.
use Rattle.std.specs.Prelude.{ℕ, List, map, string_bytes}
use Rattle.col_model.specs.Keys.{Key}
use Rattle.col_types.specs.Kinds.{kind_of}
use Rattle.col_types.specs.declared.column_type.ColumnType as types
use Rattle.col_keys.specs.declared.column_key.ColumnKey.{ColumnKey}
use Rattle.col_keys.specs.declared.key_table.KeyedLength.{KeyedLength}

-- the key of a name and a type
abbrev pub key_at : List ℕ → types.ColumnType → Key
key_at name t = record { name = name; column_type = kind_of t }

-- the name's bytes, and the type
abbrev pub key_seen : ColumnKey → Key
key_seen k = record { name = string_bytes k.name; column_type = kind_of k.column_type }

-- the key with its column's length
abbrev pub keyed : KeyedLength → Key × ℕ
keyed k = (key_seen k.key, k.num_bytes)

-- each of them
abbrev pub all_keyed : List KeyedLength → List (Key × ℕ)
all_keyed ks = map keyed ks

-- the keys alone
abbrev pub keys_seen : List KeyedLength → List Key
keys_seen ks = map (λ p. p.0) (all_keyed ks)
