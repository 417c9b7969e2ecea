-- What the readers of all codecs mean.
use Rattle.std.specs.Prelude.{ℕ, List}
use Rattle.col_numbers.specs.declared.u64_values.U64Values.{U64Values}
use Rattle.col_numbers.specs.declared.u64_values.U64Values.TheVariants.{Bitpacked, Linear, BlockwiseLinear}

-- the values, in order
abbrev pub list_of : U64Values → List ℕ
list_of (Bitpacked r) = r
list_of (Linear r) = r
list_of (BlockwiseLinear r) = r
