-- What the codecs stand for. States docs/FORMAT.md, section 4.
use Rattle.std.specs.Prelude.{◌≡◌, ℕ, Option, Some}
use Rattle.std.specs.Ordering.{nat_cmp}
use Rattle.std.specs.declared.cmp.Ordering.{Ordering}
use Rattle.col_numbers.specs.declared.codec_type.CodecType.{CodecType}
use Rattle.col_numbers.specs.declared.codec_type.CodecType.TheVariants.{Bitpacked, Linear, BlockwiseLinear}

-- the code of a codec
abbrev pub code_of : CodecType → ℕ
code_of Bitpacked = 0
code_of Linear = 1
code_of BlockwiseLinear = 2

-- both comparisons are that of the codes
abbrev pub ComparesByCode : (CodecType → CodecType → Option Ordering) →
    (CodecType → CodecType → Ordering) → Type 0
ComparesByCode partial_cmp cmp = (a b : CodecType) →
    (partial_cmp a b ≡ Some (nat_cmp (code_of a) (code_of b)))
    × (cmp a b ≡ nat_cmp (code_of a) (code_of b))
