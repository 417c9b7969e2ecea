-- The shape that bytes stand for, behind the byte of a cardinality.
use Rattle.std.proofs.Common.{◌≡◌, ℕ, ◌==◌, List, [], ◌∷◌, length, option_map, None, refl}
use Rattle.col_common.specs.Reading.{only_if}
use Rattle.col_model.specs.Index.{row_set, optional_shape, full_shape, set_counts, shape}
use Rattle.col_model.specs.Table.{cardinality_code}
use Rattle.col_index.specs.declared.cardinality.Cardinality.{Cardinality}
use Rattle.col_index.specs.declared.cardinality.Cardinality.TheVariants.{Full, Optional, Multivalued}
use Rattle.col_index.specs.declared.format_version.Version.{Version}
use Rattle.col_index.specs.declared.format_version.Version.TheVariants.{V1, V2, V3}
use Rattle.col_index.specs.Opening.{first_byte_cardinality, multivalued_at}
use Rattle.col_index.specs.Versions.{version_number, cardinality_of}

-- Full has no bytes
pub shape-full : (x : Cardinality) (v : Version) (rest : List ℕ) → x ≡ Full
    → shape (cardinality_code (cardinality_of x) ∷ rest) (version_number v) ≡ only_if (length rest == 0) full_shape
unfolding shape
shape-full x V1 rest e = rw e refl
shape-full x V2 rest e = rw e refl
shape-full x V3 rest e = rw e refl

-- Optional has a set of rows
pub shape-optional : (x : Cardinality) (v : Version) (rest : List ℕ) → x ≡ Optional
    → shape (cardinality_code (cardinality_of x) ∷ rest) (version_number v)
    ≡ option_map (λ s. optional_shape (set_counts s)) (row_set (version_number v) rest)
unfolding shape
shape-optional x V1 rest e = rw e refl
shape-optional x V2 rest e = rw e refl
shape-optional x V3 rest e = rw e refl

-- Multivalued is read as the version has it
pub shape-multivalued : (x : Cardinality) (v : Version) (rest : List ℕ) → x ≡ Multivalued
    → shape (cardinality_code (cardinality_of x) ∷ rest) (version_number v) ≡ multivalued_at (version_number v) rest
unfolding shape
shape-multivalued x V1 rest e = rw e refl
shape-multivalued x V2 rest e = rw e refl
shape-multivalued x V3 rest e = rw e refl

-- no shape without a cardinality
pub shape-uncoded : (bytes : List ℕ) (v : Version) → first_byte_cardinality bytes ≡ None → shape bytes (version_number v) ≡ None
unfolding shape
shape-uncoded [] v e = refl
shape-uncoded (code ∷ bytes) V1 e = rw e refl
shape-uncoded (code ∷ bytes) V2 e = rw e refl
shape-uncoded (code ∷ bytes) V3 e = rw e refl
