-- The cardinality of the values that documents have.
use Rattle.std.specs.Prelude.{ℕ, ◌+◌, ◌==◌, nat_le, max, List, unwrap_or, option_map, None, if◌then◌else◌}
use Rattle.std.specs.List.{list_all, last_or}
use Rattle.col_model.specs.Table.{Cardinality, full, optional, multivalued}
use Rattle.col_writer_rows.specs.Counted.{counts_of_rows}

-- so many rows, or those up to the last document
abbrev pub rows_up_to : ℕ → List ℕ → ℕ
rows_up_to n docs = max n (unwrap_or (option_map (λ last. last + 1) (last_or None docs)) 0)

-- Multivalued where a document has two values, else Optional where a row has none, else Full.
abbrev pub cardinality_by : ℕ → List ℕ → Cardinality
cardinality_by n docs =
    let counts = counts_of_rows (rows_up_to n docs) docs in
    if list_all (λ count. count == 1) counts then full
    else if list_all (λ count. nat_le count 1) counts then optional
    else multivalued
