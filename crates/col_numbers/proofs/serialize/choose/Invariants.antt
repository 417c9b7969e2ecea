use Rattle.std.proofs.Common.{map, take}
use Rattle.col_numbers.specs.CodecTypes.{code_of}
use Rattle.col_numbers.specs.Written.{HasBest}
use Rattle.col_numbers.proofs.serialize.choose.Given as goal

-- the best of the codecs so far
abbrev pub invariant-loop-codec : goal.invariant-loop-codec
invariant-loop-codec g l = HasBest (g.I.Iterable.items l.vals) (map code_of (take l.codec-index l.codec_types)) l.best
