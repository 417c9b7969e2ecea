-- Worked rows, computed.
use Rattle.std.specs.Prelude.{◌≡◌, ℕ, List, [], ◌∷◌, Some, None, map, length, ◌*◌, ◌%◌, refl, ◌^◌, ◌-◌, pos, codes, option_map}
use Rattle.std.specs.List.{range_with_len}
use Rattle.col_model.proofs.OnLiterals.{col_model_on_literals}
use Rattle.col_common.specs.VInt.{vint, vint_bytes}
use Rattle.col_model.specs.Stats.{stats_of, stats_at, gcd_of}
use Rattle.col_model.specs.U64List.{values64, bitpacked_bytes}
use Rattle.col_model.specs.AddressList.{values128, coded_number, least_codes}
use Rattle.col_model.specs.Index.{counts}
use Rattle.col_model.specs.Table.{Table, Content, number, full, optional, multivalued}
use Rattle.col_model.specs.ColumnType as types
use Rattle.col_model.specs.Column.{column}
use Rattle.col_model.specs.File.{table_of}
use Rattle.col_model.specs.Lookup.{docs_between}

vint_1000 : vint (0x68 ∷ 0x87 ∷ []) ≡ Some (1000, [])
unfolding col_model_on_literals
vint_1000 = refl

vint_bytes_1000 : vint_bytes 1000 ≡ 0x68 ∷ 0x87 ∷ []
unfolding col_model_on_literals
vint_bytes_1000 = refl

vint_top : vint (vint_bytes (2 ^ 64 - 1)) ≡ Some (2 ^ 64 - 1, [])
unfolding col_model_on_literals
vint_top = refl

vint_past : vint (vint_bytes (2 ^ 64)) ≡ None
unfolding col_model_on_literals
vint_past = refl

vint_long : vint (0x68 ∷ 0x00 ∷ 0x80 ∷ []) ≡ None
unfolding col_model_on_literals
vint_long = refl

-- gcd 3, min 1, max 3001, 10 rows
stats_row : stats_at (0x81 ∷ 0x83 ∷ 0x68 ∷ 0x87 ∷ 0x8a ∷ []) ≡ Some (record { least = 1; greatest = 3001; divisor = 3; count = 10 }, [])
unfolding col_model_on_literals
stats_row = refl

stats_calls : stats_of (10 ∷ 50 ∷ 10 ∷ 30 ∷ []) ≡ record { least = 10; greatest = 50; divisor = 20; count = 4 }
unfolding col_model_on_literals
stats_calls = refl

stats_none : stats_of [] ≡ record { least = 0; greatest = 0; divisor = 1; count = 0 }
unfolding col_model_on_literals
stats_none = refl

gcd_a : gcd_of (1 ∷ 10 ∷ 4 ∷ 1 ∷ 7 ∷ 10 ∷ []) ≡ 1
unfolding col_model_on_literals
gcd_a = refl

gcd_b : gcd_of (15 ∷ 30 ∷ 5 ∷ 10 ∷ []) ≡ 5
unfolding col_model_on_literals
gcd_b = refl

gcd_c : (stats_of (1 ∷ 10 ∷ 4 ∷ 1 ∷ 7 ∷ 10 ∷ [])).divisor ≡ 3
unfolding col_model_on_literals
gcd_c = refl

gcd_d : (stats_of (15 ∷ 30 ∷ 5 ∷ 10 ∷ [])).divisor ≡ 5
unfolding col_model_on_literals
gcd_d = refl

abbrev sevens : List ℕ
sevens = map (λ i. i % 7 * 1000) (range_with_len 0 80)

-- 80 values take 36 bytes
eighty : length (bitpacked_bytes sevens) ≡ 36
unfolding col_model_on_literals
eighty = refl

eighty_back : values64 (bitpacked_bytes sevens) ≡ Some sevens
unfolding col_model_on_literals
eighty_back = refl

-- [false, true] takes 6 bytes
two_bools : length (bitpacked_bytes (0 ∷ 1 ∷ [])) ≡ 6
unfolding col_model_on_literals
two_bools = refl

-- 512 values under Linear
linear_512 :
    values64 (0x01 ∷ 0xe4 ∷ 0x81 ∷ 0x7f ∷ 0x83 ∷ 0x00 ∷ 0x84 ∷ 0x00 ∷ 0x00 ∷ 0x00 ∷ 0x00 ∷ 0x90 ∷ 0xe4 ∷ 0x00 ∷ [])
    ≡ Some (range_with_len 100 512)
unfolding col_model_on_literals
linear_512 = refl

-- 512 values under BlockwiseLinear
blockwise_512 : values64 (0x02 ∷ 0xe4 ∷ 0x81 ∷ 0x7f ∷ 0x83 ∷ 0x00 ∷ 0x84 ∷ 0x00 ∷ 0x00 ∷ 0x00 ∷ 0x00 ∷ 0x90 ∷ 0x80
    ∷ 0x00 ∷ 0x07 ∷ 0x00 ∷ 0x00 ∷ 0x00 ∷ 0x00 ∷ 0x00 ∷ 0x00 ∷ 0x00 ∷ []) ≡ Some (range_with_len 100 512)
unfolding col_model_on_literals
blockwise_512 = refl

-- addresses 2 and 4
addresses : values128 (0x82 ∷ 0x01 ∷ 0x0d ∷ 0x00 ∷ 0x00 ∷ 0x00 ∷ 0x00 ∷ 0x00 ∷ 0x00 ∷ 0x00 ∷ 0x00 ∷ 0x82 ∷ 0x84
    ∷ 0x82 ∷ 0x02 ∷ 0x81 ∷ 0x82 ∷ 0x82 ∷ 0x0f ∷ 0x00 ∷ 0x00 ∷ 0x00 ∷ 0x00 ∷ 0x00 ∷ 0x00 ∷ 0x00 ∷ [])
    ≡ Some (2 ∷ 4 ∷ [])
unfolding col_model_on_literals
addresses = refl

least_a : least_codes (1 ∷ 3 ∷ 100 ∷ []) ≡ 4
unfolding col_model_on_literals
least_a = refl

least_b : least_codes (1 ∷ 100 ∷ 3 ∷ 3 ∷ []) ≡ 4
unfolding col_model_on_literals
least_b = refl

least_c : least_codes [] ≡ 1
unfolding col_model_on_literals
least_c = refl

codes_a : map (coded_number ((1, 3) ∷ (100, 100) ∷ [])) (1 ∷ 3 ∷ 4 ∷ []) ≡ 1 ∷ 3 ∷ 100 ∷ []
unfolding col_model_on_literals
codes_a = refl

-- rows of 3 and 2 values: the index
index_mult : counts (0x02 ∷ 0x82 ∷ 0x00 ∷ 0x80 ∷ 0x81 ∷ 0x81 ∷ 0x82 ∷ 0x02 ∷ 0x00 ∷ 0x80 ∷ 0x81 ∷ 0x85 ∷ 0x83 ∷ 0x58
    ∷ 0x01 ∷ 0x07 ∷ 0x00 ∷ 0x00 ∷ 0x00 ∷ 0x00 ∷ 0x00 ∷ 0x00 ∷ 0x00 ∷ []) 2 2
    ≡ Some (record { cardinality = multivalued; of_rows = 3 ∷ 2 ∷ [] })
unfolding col_model_on_literals
index_mult = refl

-- no document
no_rows : table_of (0x80 ∷ 0x01 ∷ 0x00 ∷ 0x00 ∷ 0x00 ∷ 0x00 ∷ 0x00 ∷ 0x00 ∷ 0x00 ∷ 0x00 ∷ 0x00 ∷ 0x00 ∷ 0x00 ∷ 0x02
    ∷ 0x00 ∷ 0x00 ∷ 0x00 ∷ 0x02 ∷ 0x71 ∷ 0x77 ∷ 0x42 ∷ []) ≡ Some (record { row_count = 0; columns = [] })
unfolding col_model_on_literals
no_rows = refl

abbrev two_rows_file : List ℕ
two_rows_file =
    0x00 ∷ 0x00 ∷ 0x8a ∷ 0x8a ∷ 0x81 ∷ 0x82 ∷ 0x02 ∷ 0x01 ∷ 0x00 ∷ 0x00 ∷ 0x00 ∷ 0x00 ∷ 0x00 ∷ 0x00 ∷ 0x00 ∷ 0x81
    ∷ 0x83 ∷ 0x61 ∷ 0x00 ∷ 0x01 ∷ 0x8f ∷ 0x06 ∷ 0x00 ∷ 0x00 ∷ 0x00 ∷ 0x00 ∷ 0x00 ∷ 0x00 ∷ 0x00 ∷ 0x02 ∷ 0x00 ∷ 0x00
    ∷ 0x00 ∷ 0x02 ∷ 0x00 ∷ 0x00 ∷ 0x00 ∷ 0x02 ∷ 0x71 ∷ 0x77 ∷ 0x42 ∷ []

abbrev two_rows_content : Content
two_rows_content = record { cardinality = full; terms = []; rows = (number (pos 10) ∷ []) ∷ (number (pos 20) ∷ []) ∷ [] }

-- two documents
two_rows : table_of two_rows_file
    ≡ Some (record {
      row_count = 2;
      columns = record {
        name = codes "a";
        column_type = types.u64;
        content = record
            { cardinality = full; terms = []; rows = (number (pos 10) ∷ []) ∷ (number (pos 20) ∷ []) ∷ [] };
      } ∷ [];
    })
unfolding col_model_on_literals
two_rows = refl

found_0 : docs_between two_rows_content (number (pos 0)) (number (pos 5)) 0 2 ≡ []
unfolding col_model_on_literals
found_0 = refl

found_1 : docs_between two_rows_content (number (pos 11)) (number (pos 19)) 0 2 ≡ []
unfolding col_model_on_literals
found_1 = refl

found_2 : docs_between two_rows_content (number (pos 11)) (number (pos 18446744073709551615)) 0 2 ≡ 1 ∷ []
unfolding col_model_on_literals
found_2 = refl

found_3 : docs_between two_rows_content (number (pos 20)) (number (pos 10)) 0 2 ≡ []
unfolding col_model_on_literals
found_3 = refl

found_4 : docs_between two_rows_content (number (pos 0)) (number (pos 100)) 0 2 ≡ 0 ∷ 1 ∷ []
unfolding col_model_on_literals
found_4 = refl

found_5 : docs_between two_rows_content (number (pos 0)) (number (pos 100)) 1 9 ≡ 1 ∷ []
unfolding col_model_on_literals
found_5 = refl

-- a file of version 1
version_1 : table_of (0x02 ∷ 0x00 ∷ 0x80 ∷ 0x81 ∷ 0x83 ∷ 0x84 ∷ 0xe8 ∷ 0x00 ∷ 0x87 ∷ 0x81 ∷ 0x82 ∷ 0x83 ∷ 0x24
    ∷ 0x07 ∷ 0x00 ∷ 0x00 ∷ 0x00 ∷ 0x00 ∷ 0x00 ∷ 0x00 ∷ 0x00 ∷ 0x81 ∷ 0x83 ∷ 0x61 ∷ 0x00 ∷ 0x01 ∷ 0x95 ∷ 0x06 ∷ 0x00
    ∷ 0x00 ∷ 0x00 ∷ 0x00 ∷ 0x00 ∷ 0x00 ∷ 0x00 ∷ 0x03 ∷ 0x00 ∷ 0x00 ∷ 0x00 ∷ 0x01 ∷ 0x00 ∷ 0x00 ∷ 0x00 ∷ 0x02 ∷ 0x71
    ∷ 0x77 ∷ 0x42 ∷ [])
    ≡ Some (record {
      row_count = 3;
      columns = record {
        name = codes "a";
        column_type = types.u64;
        content = record {
          cardinality = multivalued;
          terms = [];
          rows = (number (pos 7) ∷ number (pos 8) ∷ []) ∷ [] ∷ (number (pos 9) ∷ []) ∷ [];
        };
      } ∷ [];
    })
unfolding col_model_on_literals
version_1 = refl

-- its column
version_1_column : column (0x02 ∷ 0x00 ∷ 0x80 ∷ 0x81 ∷ 0x83 ∷ 0x84 ∷ 0xe8 ∷ 0x00 ∷ 0x87 ∷ 0x81 ∷ 0x82 ∷ 0x83 ∷ 0x24
    ∷ 0x07 ∷ 0x00 ∷ 0x00 ∷ 0x00 ∷ 0x00 ∷ 0x00 ∷ 0x00 ∷ 0x00 ∷ []) types.u64 1 3
    ≡ Some (record {
      cardinality = multivalued;
      terms = [];
      rows = (number (pos 7) ∷ number (pos 8) ∷ []) ∷ [] ∷ (number (pos 9) ∷ []) ∷ [];
    })
unfolding col_model_on_literals
version_1_column = refl

-- a column of str without a cell
no_terms : column (0x00 ∷ 0x00 ∷ 0x00 ∷ 0x00 ∷ 0x01 ∷ 0x83 ∷ 0x00 ∷ 0x80 ∷ 0x81 ∷ 0x80 ∷ 0x80 ∷ 0x00 ∷ 0x80 ∷ 0x81
    ∷ 0x80 ∷ 0x80 ∷ 0x07 ∷ 0x00 ∷ 0x00 ∷ 0x00 ∷ 0x00 ∷ 0x00 ∷ 0x00 ∷ 0x00 ∷ 0x04 ∷ 0x00 ∷ 0x00 ∷ 0x00 ∷ [])
    types.str 2 3 ≡ Some (record { cardinality = optional; terms = []; rows = [] ∷ [] ∷ [] ∷ [] })
unfolding col_model_on_literals
no_terms = refl

cut_short : table_of (0x80 ∷ 0x01 ∷ 0x00 ∷ 0x00 ∷ 0x00 ∷ 0x00 ∷ 0x00 ∷ 0x00 ∷ 0x00 ∷ 0x00 ∷ 0x00 ∷ 0x00 ∷ 0x00
    ∷ 0x02 ∷ 0x00 ∷ 0x00 ∷ 0x00 ∷ 0x02 ∷ 0x71 ∷ []) ≡ None
unfolding col_model_on_literals
cut_short = refl

long_table : table_of (0x80 ∷ 0xff ∷ 0xff ∷ 0xff ∷ 0xff ∷ 0xff ∷ 0xff ∷ 0xff ∷ 0xff ∷ 0x00 ∷ 0x00 ∷ 0x00 ∷ 0x00
    ∷ 0x02 ∷ 0x00 ∷ 0x00 ∷ 0x00 ∷ 0x02 ∷ 0x71 ∷ 0x77 ∷ 0x42 ∷ []) ≡ None
unfolding col_model_on_literals
long_table = refl

other_magic : table_of (0x80 ∷ 0x01 ∷ 0x00 ∷ 0x00 ∷ 0x00 ∷ 0x00 ∷ 0x00 ∷ 0x00 ∷ 0x00 ∷ 0x00 ∷ 0x00 ∷ 0x00 ∷ 0x00
    ∷ 0x02 ∷ 0x00 ∷ 0x00 ∷ 0x00 ∷ 0x02 ∷ 0x71 ∷ 0x77 ∷ 0x43 ∷ []) ≡ None
unfolding col_model_on_literals
other_magic = refl

-- a key of code 2
code_two : table_of (0x81 ∷ 0x83 ∷ 0x61 ∷ 0x00 ∷ 0x02 ∷ 0x80 ∷ 0x06 ∷ 0x00 ∷ 0x00 ∷ 0x00 ∷ 0x00 ∷ 0x00 ∷ 0x00 ∷ 0x00
    ∷ 0x00 ∷ 0x00 ∷ 0x00 ∷ 0x00 ∷ 0x02 ∷ 0x00 ∷ 0x00 ∷ 0x00 ∷ 0x02 ∷ 0x71 ∷ 0x77 ∷ 0x42 ∷ []) ≡ None
unfolding col_model_on_literals
code_two = refl

-- keys of codes 0 and 1 with one name
two_numerical : table_of (0x00 ∷ 0x00 ∷ 0x80 ∷ 0x81 ∷ 0x80 ∷ 0x80 ∷ 0x01 ∷ 0x00 ∷ 0x00 ∷ 0x00 ∷ 0x00 ∷ 0x00 ∷ 0x00
    ∷ 0x00 ∷ 0x00 ∷ 0x00 ∷ 0x80 ∷ 0x81 ∷ 0x80 ∷ 0x80 ∷ 0x01 ∷ 0x00 ∷ 0x00 ∷ 0x00 ∷ 0x00 ∷ 0x00 ∷ 0x00 ∷ 0x00 ∷ 0x82
    ∷ 0x83 ∷ 0x61 ∷ 0x00 ∷ 0x00 ∷ 0x8e ∷ 0x83 ∷ 0x61 ∷ 0x00 ∷ 0x01 ∷ 0x8e ∷ 0x0b ∷ 0x00 ∷ 0x00 ∷ 0x00 ∷ 0x00 ∷ 0x00
    ∷ 0x00 ∷ 0x00 ∷ 0x00 ∷ 0x00 ∷ 0x00 ∷ 0x00 ∷ 0x02 ∷ 0x00 ∷ 0x00 ∷ 0x00 ∷ 0x02 ∷ 0x71 ∷ 0x77 ∷ 0x42 ∷ []) ≡ None
unfolding col_model_on_literals
two_numerical = refl

-- keys of codes 0 and 5 with one name
two_types : option_map (λ (t : Table). length t.columns) (table_of (0x00 ∷ 0x00 ∷ 0x80 ∷ 0x81 ∷ 0x80 ∷ 0x80 ∷ 0x01
    ∷ 0x00 ∷ 0x00 ∷ 0x00 ∷ 0x00 ∷ 0x00 ∷ 0x00 ∷ 0x00 ∷ 0x00 ∷ 0x00 ∷ 0x80 ∷ 0x81 ∷ 0x80 ∷ 0x80 ∷ 0x01 ∷ 0x00 ∷ 0x00
    ∷ 0x00 ∷ 0x00 ∷ 0x00 ∷ 0x00 ∷ 0x00 ∷ 0x82 ∷ 0x83 ∷ 0x61 ∷ 0x00 ∷ 0x00 ∷ 0x8e ∷ 0x83 ∷ 0x61 ∷ 0x00 ∷ 0x05 ∷ 0x8e
    ∷ 0x0b ∷ 0x00 ∷ 0x00 ∷ 0x00 ∷ 0x00 ∷ 0x00 ∷ 0x00 ∷ 0x00 ∷ 0x00 ∷ 0x00 ∷ 0x00 ∷ 0x00 ∷ 0x02 ∷ 0x00 ∷ 0x00 ∷ 0x00
    ∷ 0x02 ∷ 0x71 ∷ 0x77 ∷ 0x42 ∷ [])) ≡ Some 2
unfolding col_model_on_literals
two_types = refl
