-- Sorted terms. States docs/FORMAT.md, section 6.
use Rattle.std.specs.Prelude.{ℕ, ◌==◌, ◌&&◌, List, [], ◌∷◌, length, sum, Option, take, drop}
use Rattle.std.specs.Int.{w32}
use Rattle.col_common.specs.Reading.{◌>>=◌, only_if, le_number, items}
use Rattle.col_common.specs.Ascending.{is_ascending, is_never_falling, differences}

-- the list cut into runs of these lengths
unfoldable pub cut : {A : Type 0} → List ℕ → List A → List (List A)
cut [] xs = []
cut (n ∷ ns) xs = take n xs ∷ cut ns (drop n xs)

-- The terms that the bytes stand for: their count, the end of each, counted from the first term's
-- byte, and their bytes. They strictly ascend, and fill the bytes.
unfoldable pub terms : List ℕ → Option (List (List ℕ))
terms bytes = do
  n ← le_number w32 bytes
  ends ← items (le_number w32) n.0 n.1
  let sizes = differences (0 ∷ ends.0)
  let found = cut sizes ends.1
  only_if (is_never_falling ends.0 && (sum sizes == length ends.1) && is_ascending found) found
