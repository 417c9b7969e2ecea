-- The part of a file that has a table is the part of that table.
use Rattle.std.proofs.Common.{◌≡◌, ℕ, List, Option, Some, None, Ok, ap}
use Rattle.col_common.specs.Reading.{◌>>=◌}
use Rattle.col_model.specs.File.{Part, parts_of, table_of, table_of_part, part_of_table}
use Rattle.col_model.specs.Refusal.{or_refuse, invalid_data}
use Rattle.col_model.specs.Table.{Table}
use Rattle.col_model.proofs.PartLaws.{whole-table}
use Rattle.col_laws.specs.SegmentFiles.{file_table}

-- the part of a file that has a table
pub whole-part : (file : List ℕ) (t : Table) → table_of file ≡ Some t → or_refuse (parts_of file) invalid_data ≡ Ok (part_of_table t)
whole-part file t = by (parts_of file)
  where
    by : (o : Option Part) → (o >>= table_of_part) ≡ Some t → or_refuse o invalid_data ≡ Ok (part_of_table t)
    by None h = cc
    by (Some p) h = ap Ok (whole-table p t h)

-- a file whose table is this
pub has-table : (file : List ℕ) (t : Table) → file_table file ≡ Ok t → table_of file ≡ Some t
has-table file t = by (table_of file)
  where
    by : (o : Option Table) → or_refuse o invalid_data ≡ Ok t → o ≡ Some t
    by None h = cc
    by (Some u) h = cc
