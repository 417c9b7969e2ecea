-- Files in brackets, computed: one that is made of three, and what happens without a premise.
use Rattle.std.specs.Prelude.{◌≡◌, ℕ, ◌^◌, List, [], ◌∷◌, map, codes, pos, Ok, Err, refl}
use Rattle.col_program.proofs.OnLiterals.{col_program_on_literals}
use Rattle.col_model.specs.ColumnType as types
use Rattle.col_model.specs.Table.{number, full, Table}
use Rattle.col_model.specs.Recording.{Call, recorded}
use Rattle.col_program.specs.Outcome.{segment_table}
use Rattle.col_model.specs.Refusal.{doc_order}
use Rattle.col_model.specs.Stacking.{nothing, item, bracket}
use Rattle.col_laws.specs.SegmentFiles.{file_table, stacked_files, HasTable, IsFileOf, none, of_item, of_bracket, IsMadeBy}
use Rattle.col_laws.specs.ScriptFiles.{segment_with, cut_segments}

-- rows 10 and 20 of a u64 column "a"
abbrev ten_and_twenty : List ℕ
ten_and_twenty =
    0 ∷ 0 ∷ 138 ∷ 138 ∷ 129 ∷ 130 ∷ 2 ∷ 1 ∷ 0 ∷ 0 ∷ 0 ∷ 0 ∷ 0 ∷ 0 ∷ 0 ∷ 129 ∷ 131 ∷ 97 ∷ 0 ∷ 1 ∷ 143 ∷ 6 ∷ 0 ∷ 0 ∷ 0
    ∷ 0 ∷ 0 ∷ 0 ∷ 0 ∷ 2 ∷ 0 ∷ 0 ∷ 0 ∷ 3 ∷ 0 ∷ 0 ∷ 0 ∷ 2 ∷ 113 ∷ 119 ∷ 66 ∷ []

-- no rows, no columns
abbrev no_rows : List ℕ
no_rows = 128 ∷ 1 ∷ 0 ∷ 0 ∷ 0 ∷ 0 ∷ 0 ∷ 0 ∷ 0 ∷ 0 ∷ 0 ∷ 0 ∷ 0 ∷ 3 ∷ 0 ∷ 0 ∷ 0 ∷ 2 ∷ 113 ∷ 119 ∷ 66 ∷ []

-- the same rows twice
abbrev twice : List ℕ
twice =
    0 ∷ 0 ∷ 138 ∷ 138 ∷ 129 ∷ 132 ∷ 10 ∷ 1 ∷ 0 ∷ 0 ∷ 0 ∷ 0 ∷ 0 ∷ 0 ∷ 0 ∷ 129 ∷ 131 ∷ 97 ∷ 0 ∷ 1 ∷ 143 ∷ 6 ∷ 0 ∷ 0
    ∷ 0 ∷ 0 ∷ 0 ∷ 0 ∷ 0 ∷ 4 ∷ 0 ∷ 0 ∷ 0 ∷ 3 ∷ 0 ∷ 0 ∷ 0 ∷ 2 ∷ 113 ∷ 119 ∷ 66 ∷ []

-- one number a row
abbrev table_with : ℕ → List ℕ → Table
table_with n numbers = record {
  row_count = n;
  columns =
      record {
        name = codes "a";
        column_type = types.u64;
        content = record { cardinality = full; terms = []; rows = map (λ x. number (pos x) ∷ []) numbers };
      } ∷ [];
}

has_rows : HasTable (file_table ten_and_twenty) ten_and_twenty
unfolding col_program_on_literals
has_rows = record { table = table_with 2 (10 ∷ 20 ∷ []); is = refl; content = refl }

has_none : HasTable (file_table no_rows) no_rows
unfolding col_program_on_literals
has_none = record { table = record { row_count = 0; columns = [] }; is = refl; content = refl }

inner : IsFileOf (stacked_files (ten_and_twenty ∷ no_rows ∷ [])) ten_and_twenty
unfolding col_program_on_literals
inner = record { table = table_with 2 (10 ∷ 20 ∷ []); is = refl; stands = record { content = refl; version = refl } }

outer : IsFileOf (stacked_files (ten_and_twenty ∷ ten_and_twenty ∷ [])) twice
unfolding col_program_on_literals
outer = record { table = table_with 4 (10 ∷ 20 ∷ 10 ∷ 20 ∷ []); is = refl; stands = record { content = refl; version = refl } }

-- (a b) a, of which b has no rows
made_in_brackets : IsMadeBy file_table (bracket (item ten_and_twenty (item no_rows nothing)) (item ten_and_twenty nothing)) twice
made_in_brackets =
    record {
      files = ten_and_twenty ∷ ten_and_twenty ∷ [];
      made = of_bracket (of_item has_rows (of_item has_none none)) inner (of_item has_rows none);
      is = outer;
    }

-- ---- without the premise that the calls are accepted: document 1 before document 0

abbrev late : List Call
late = recorded 1 (codes "a") types.u64 (number (pos (2 ^ 63))) ∷ recorded 0 (codes "a") types.u64 (number (pos (2 ^ 63))) ∷ []

-- one segment refuses the second call, ..
late_at_once : segment_table (segment_with 2 late) ≡ Err doc_order
unfolding col_program_on_literals
late_at_once = refl

-- .. which stands in a segment of its own
late_in_segments : map segment_table (cut_segments late 0 (1 ∷ 1 ∷ []))
    ≡ Ok (table_with 1 (2 ^ 63 ∷ [])) ∷ Ok (table_with 1 (2 ^ 63 ∷ [])) ∷ []
unfolding col_program_on_literals
late_in_segments = refl
