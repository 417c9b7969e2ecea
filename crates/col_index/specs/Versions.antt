-- Cardinalities and versions, by the numbers that a file has for them. States docs/FORMAT.md,
-- sections 8 and 11.
use Rattle.std.specs.Prelude.{ℕ, List, [], ◌∷◌, Option, None, option_map, codes}
use Rattle.col_model.specs.Table as tables
use Rattle.col_index.specs.declared.cardinality.Cardinality.{Cardinality}
use Rattle.col_index.specs.declared.cardinality.Cardinality.TheVariants.{Full, Optional, Multivalued}
use Rattle.col_index.specs.declared.format_version.Version.{Version}
use Rattle.col_index.specs.declared.format_version.Version.TheVariants.{V1, V2, V3}

-- the cardinality by its definition
abbrev pub cardinality_of : Cardinality → tables.Cardinality
cardinality_of Full = tables.full
cardinality_of Optional = tables.optional
cardinality_of Multivalued = tables.multivalued

-- the cardinality of the code at the front, and the bytes behind it
abbrev pub cardinality_at : List ℕ → Option (tables.Cardinality × List ℕ)
cardinality_at [] = None
cardinality_at (code ∷ bytes) = option_map (λ c. (c, bytes)) (tables.cardinality_of_code code)

-- the code of a cardinality
abbrev pub cardinality_code_of : Cardinality → ℕ
cardinality_code_of c = tables.cardinality_code (cardinality_of c)

-- the name of a version
abbrev pub version_name : Version → List ℕ
version_name V1 = codes "v1"
version_name V2 = codes "v2"
version_name V3 = codes "v3"

-- the number of a version
abbrev pub version_number : Version → ℕ
version_number V1 = 1
version_number V2 = 2
version_number V3 = 3
