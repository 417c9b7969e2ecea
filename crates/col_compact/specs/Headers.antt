-- How numbers of 128 bits are kept, by codes.
use Rattle.std.specs.Prelude.{ℕ, ◌==◌, List, Option, Some, None, if◌then◌else◌}
use Rattle.col_common.specs.Reading.{◌>>=◌, byte_at}
use Rattle.col_compact.specs.declared.header.U128FastFieldCodecType.{U128FastFieldCodecType}
use Rattle.col_compact.specs.declared.header.U128FastFieldCodecType.TheVariants.{CompactSpace}

-- the codec of a code: 1 is that of compact spaces
abbrev pub codec_of : ℕ → Option U128FastFieldCodecType
codec_of code = if code == 1 then Some CompactSpace else None

-- the codec of the first byte, and the bytes behind it
abbrev pub kind_at : List ℕ → Option (U128FastFieldCodecType × List ℕ)
kind_at bytes = do
  code ← byte_at bytes
  kind ← codec_of code.0
  Some (kind, code.1)
