-- The versions of the format. States docs/FORMAT.md, section 11.
use Rattle.std.specs.Prelude.{ℕ, ◌==◌, ◌&&◌, ◌||◌, Bool, List, [], ◌∷◌, ◌++◌, bytes_eq, Option}
use Rattle.std.specs.Int.{w32, to_le_bytes}
use Rattle.col_common.specs.Reading.{◌>>=◌, only_if, le_number}

-- the version that is written
abbrev pub current_version : ℕ
current_version = 3

-- the versions that are read
abbrev pub is_version : ℕ → Bool
is_version v = (v == 1) || (v == 2) || (v == 3)

-- the last four bytes of a file
abbrev pub magic : List ℕ
magic = 0x02 ∷ 0x71 ∷ 0x77 ∷ 0x42 ∷ []

-- the version that the last eight bytes of a file spell: the version, and four fixed bytes
abbrev pub version_of : List ℕ → Option ℕ
version_of bytes = do
  version ← le_number w32 bytes
  only_if (bytes_eq version.1 magic && is_version version.0) version.0

-- the last eight bytes of a file that is written
abbrev pub version_bytes : List ℕ
version_bytes = to_le_bytes w32 current_version ++ magic
