-- Worked texts of tables, computed.
use Rattle.std.specs.Prelude.{◌≡◌, ℕ, pos, negsuc, List, [], ◌∷◌, ◌++◌, codes, flat_map, refl}
use Rattle.col_model.specs.ColumnType as types
use Rattle.col_model.specs.Limits.{tightest}
use Rattle.col_model.specs.Table.{Cell, number, text, Column, Table}
use Rattle.col_csv.specs.Csv.{csv_of}
use Rattle.col_csv.proofs.OnLiterals.{col_csv_on_literals}

-- the text of these lines
abbrev pub lines : List (List ℕ) → List ℕ
lines ls = flat_map (λ l. l ++ 10 ∷ []) ls

-- a column of a name and a type with these rows
abbrev pub column_with : List ℕ → types.ColumnType → List (List ℕ) → List (List Cell) → Column
column_with name t terms rows = record {
  name = name;
  column_type = t;
  content = record { cardinality = tightest rows; terms = terms; rows = rows };
}

-- a flag in one row, a time in the other
abbrev pub flag_and_time : Table
flag_and_time = record {
  row_count = 2;
  columns = column_with (codes "f") types.bool [] ([] ∷ (number (pos 1) ∷ []) ∷ [])
      ∷ column_with (codes "t") types.datetime [] ((number (negsuc 4) ∷ []) ∷ [] ∷ []) ∷ [];
}

-- its text
flag_and_time_text :
    csv_of flag_and_time ≡ lines (codes "#,bool:f,datetime:t" ∷ codes "0,,=-5" ∷ codes "1,=true," ∷ [])
unfolding col_csv_on_literals
flag_and_time_text = refl

-- a table with no columns and no rows
nothing_text : csv_of (record { row_count = 0; columns = [] }) ≡ lines (codes "#" ∷ [])
unfolding col_csv_on_literals
nothing_text = refl

-- an empty text, no value, and texts that are quoted
texts_text : csv_of (record {
  row_count = 4;
  columns = column_with (codes "s") types.str ([] ∷ codes "a,b" ∷ codes "say \"x\"" ∷ [])
      ((text [] ∷ []) ∷ [] ∷ (text (codes "a,b") ∷ []) ∷ (text (codes "say \"x\"") ∷ []) ∷ []) ∷ [];
}) ≡ lines (codes "#,str:s" ∷ codes "0,=" ∷ codes "1," ∷ codes "2,\"=a,b\"" ∷ codes "3,\"=say \"\"x\"\"\"" ∷ [])
unfolding col_csv_on_literals
texts_text = refl

-- numbers, bytes and addresses; two columns may share a name
numbers_text : csv_of (record {
  row_count = 1;
  columns = column_with (codes "n") types.u64 [] ((number (pos 18446744073709551615) ∷ []) ∷ [])
      ∷ column_with (codes "n") types.bytes ((0 ∷ 255 ∷ []) ∷ []) ((text (0 ∷ 255 ∷ []) ∷ []) ∷ [])
      ∷ column_with (codes "n") types.ip [] ((number (pos 258) ∷ []) ∷ []) ∷ [];
}) ≡ lines (codes "#,u64:n,bytes:n,ip:n"
    ∷ codes "0,=18446744073709551615,=00ff,=00000000000000000000000000000102" ∷ [])
unfolding col_csv_on_literals
numbers_text = refl
