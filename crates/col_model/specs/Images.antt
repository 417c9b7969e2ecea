-- Numbers that stand for a value of a narrower type. States docs/FORMAT.md, section 4.
use Rattle.std.specs.Prelude.{ℕ, ◌^◌, nat_lt, Bool, List, Option}
use Rattle.std.specs.List.{list_all}
use Rattle.col_common.specs.Reading.{◌>>=◌, only_if}
use Rattle.col_model.specs.U64List.{values64}

-- the image of a bool: false is 0, true is 1
abbrev pub is_image_of_bool : ℕ → Bool
is_image_of_bool n = nat_lt n 2

-- the image of a u32
abbrev pub is_image_of_u32 : ℕ → Bool
is_image_of_u32 n = nat_lt n (2 ^ 32)

-- the list that the bytes stand for, where each number is an image
abbrev pub images64 : (ℕ → Bool) → List ℕ → Option (List ℕ)
images64 is_image bytes = values64 bytes >>= λ xs. only_if (list_all is_image xs) xs
