-- The bytes of a dictionary, and the terms in them. States docs/FORMAT.md, section 6.
use Rattle.std.specs.Prelude.{◌≡◌, ℕ, zero, suc, ◌+◌, ◌*◌, ◌^◌, ◌==◌, ◌&&◌, Bool, List, [], ◌∷◌, ◌++◌, length, sum, take, drop, flat_map, unwrap_or, Option, Some, None, true}
use Rattle.std.specs.List.{concat}
use Rattle.std.specs.Int.{w32, to_le_bytes, from_le_bytes}
use Rattle.col_common.specs.Ascending.{is_before, is_ascending, is_never_falling, differences}
use Rattle.col_model.specs.Dictionary.{cut, terms}
use Rattle.col_terms.specs.declared.table.TheConstants.{HEAD_NUM_BYTES}

-- the terms that the bytes stand for; none where they stand for nothing
unfoldable pub terms_of : List ℕ → List (List ℕ)
terms_of bytes = unwrap_or (terms bytes) []

-- the bytes stand for terms, so many
pub record IsTable (bytes : List ℕ) (n : ℕ) : Type 0 where
  pub whole : terms bytes ≡ Some (terms_of bytes)
  pub count : n ≡ length (terms_of bytes)

-- the number in the four bytes from a place on, the lowest byte first
unfoldable pub number_at : List ℕ → ℕ → ℕ
number_at bytes at = from_le_bytes w32 (take 4 (drop at bytes))

-- so many numbers of four bytes each
unfoldable pub numbers_in : ℕ → List ℕ → List ℕ
numbers_in zero bytes = []
numbers_in (suc n) bytes = number_at bytes 0 ∷ numbers_in n (drop 4 bytes)

-- where the term of an ordinal starts, counted from the first term's byte: where the one before
-- ends
abbrev pub start_at : List ℕ → ℕ → ℕ
start_at bytes zero = 0
start_at bytes (suc i) = number_at bytes (4 + 4 * i)

-- the terms with these ends, counted from the text's first byte
abbrev pub terms_by : List ℕ → List ℕ → List (List ℕ)
terms_by ends text = cut (differences (0 ∷ ends)) text

-- the ends cut the text into ascending terms, and nothing is left
abbrev pub cut_whole : List ℕ → List ℕ → Bool
cut_whole ends text =
    is_never_falling ends && (sum (differences (0 ∷ ends)) == length text)
    && is_ascending (terms_by ends text)

-- a term may stand behind the last one, if there is one
abbrev pub follows : Option (List ℕ) → List ℕ → Bool
follows None t = true
follows (Some last) t = is_before last t

-- the number in the first n bytes, the highest byte first
unfoldable pub highest_first : ℕ → List ℕ → ℕ
highest_first zero bytes = 0
highest_first (suc n) [] = 0
highest_first (suc n) (b ∷ bytes) = b * 256 ^ n + highest_first n bytes

-- the number in the first bytes, as many as are compared at once
abbrev pub head_of : List ℕ → ℕ
head_of bytes = highest_first HEAD_NUM_BYTES bytes

-- where each term ends, if the first one starts at this place
abbrev pub ends_from : ℕ → List (List ℕ) → List ℕ
ends_from start [] = []
ends_from start (t ∷ ts) = (start + length t) ∷ ends_from (start + length t) ts

-- the bytes of these terms: their count, the end of each, and their bytes
unfoldable pub dictionary_bytes : List (List ℕ) → List ℕ
dictionary_bytes ts =
    to_le_bytes w32 (length ts) ++ (flat_map (to_le_bytes w32) (ends_from 0 ts) ++ concat ts)
