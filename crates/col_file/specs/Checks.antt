-- Entries of a file, and whether their bytes are columns.
use Rattle.std.specs.Prelude.{ℕ, Bool, List, is_some}
use Rattle.col_model.specs.File.{part_column}
use Rattle.col_model.specs.Keys.{Entry, FileKeys}

-- whether the bytes of an entry are a column of its type
abbrev pub is_column : List ℕ → FileKeys → Entry → Bool
is_column bytes k e = is_some (part_column bytes k e).content
