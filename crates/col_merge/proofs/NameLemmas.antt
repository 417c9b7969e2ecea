-- The columns of a file have names.
use Rattle.std.proofs.Common.{◌≡◌, true, List}
use Rattle.std.specs.List.{AllByRecursion}
use Rattle.col_model.specs.Keys.{is_name, Entry}
pub use Rattle.col_model.proofs.DecodedTables.{keys-named}

-- an entry has the name of a column
abbrev pub AreNamed : List Entry → Type 0
AreNamed es = AllByRecursion (λ (e : Entry). is_name e.key.name ≡ true) es
