-- Worked tables of texts, computed.
use Rattle.std.specs.Prelude.{◌≡◌, pos, [], ◌∷◌, codes, refl, Some, None}
use Rattle.col_model.specs.ColumnType as types
use Rattle.col_model.specs.Table.{number}
use Rattle.col_csv.specs.CsvTable.{table_of_csv}
use Rattle.col_csv.proofs.Exports.{lines, column_with, flag_and_time}
use Rattle.col_csv.proofs.OnLiterals.{col_csv_on_literals}

-- the text leads back to the table
flag_and_time_again :
    table_of_csv (lines (codes "#,bool:f,datetime:t" ∷ codes "0,,=-5" ∷ codes "1,=true," ∷ [])) ≡ Some flag_and_time
unfolding col_csv_on_literals
flag_and_time_again = refl

-- a row that no line feed ends
one_row : table_of_csv (codes "#,u64:a\n0,=5") ≡ Some (record {
  row_count = 1;
  columns = column_with (codes "a") types.u64 [] ((number (pos 5) ∷ []) ∷ []) ∷ [];
})
unfolding col_csv_on_literals
one_row = refl

-- a byte order mark, and another end of lines
marked : table_of_csv (239 ∷ 187 ∷ 191 ∷ codes "#,u64:a\r\n0,\r\n") ≡ Some (record {
  row_count = 1;
  columns = column_with (codes "a") types.u64 [] ([] ∷ []) ∷ [];
})
unfolding col_csv_on_literals
marked = refl

-- neither columns nor rows
nothing_again : table_of_csv (codes "#") ≡ Some (record { row_count = 0; columns = [] })
unfolding col_csv_on_literals
nothing_again = refl

-- the rows are numbered from 0 on
no_row_number : table_of_csv (codes "#,u64:a\n1,=5") ≡ None
unfolding col_csv_on_literals
no_row_number = refl

-- there is a first record
no_records : table_of_csv [] ≡ None
unfolding col_csv_on_literals
no_records = refl

-- numbers have one form
no_plus : table_of_csv (codes "#,i64:a\n0,=+5") ≡ None
unfolding col_csv_on_literals
no_plus = refl

-- without leading zeros
no_leading_zero : table_of_csv (codes "#,i64:a\n0,=05") ≡ None
unfolding col_csv_on_literals
no_leading_zero = refl

-- and without a sign of zero
no_negative_zero : table_of_csv (codes "#,i64:a\n0,=-0") ≡ None
unfolding col_csv_on_literals
no_negative_zero = refl

-- they are in the range of their type
no_large_number : table_of_csv (codes "#,u64:a\n0,=18446744073709551616") ≡ None
unfolding col_csv_on_literals
no_large_number = refl

-- flags are words in small letters
no_large_flag : table_of_csv (codes "#,bool:a\n0,=TRUE") ≡ None
unfolding col_csv_on_literals
no_large_flag = refl

-- hexadecimal digits are small letters
no_large_digits : table_of_csv (codes "#,bytes:a\n0,=FF") ≡ None
unfolding col_csv_on_literals
no_large_digits = refl

-- types are known
no_type : table_of_csv (codes "#,u32:a") ≡ None
unfolding col_csv_on_literals
no_type = refl

-- keys are those of a file
no_order : table_of_csv (codes "#,u64:b,u64:a") ≡ None
unfolding col_csv_on_literals
no_order = refl

-- one numerical column of a name
no_second_number : table_of_csv (codes "#,i64:a,u64:a") ≡ None
unfolding col_csv_on_literals
no_second_number = refl

-- a record has a field for each column
no_missing_field : table_of_csv (codes "#,u64:a\n0") ≡ None
unfolding col_csv_on_literals
no_missing_field = refl

-- a value stands behind its mark
no_unmarked_value : table_of_csv (codes "#,u64:a\n0,5") ≡ None
unfolding col_csv_on_literals
no_unmarked_value = refl
