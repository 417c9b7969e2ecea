use Rattle.std.proofs.Common.{◌<◌, ◌^◌}
use Rattle.col_common.proofs.VIntReadingLemmas.{IsRead}
use Rattle.col_common.proofs.vint.read_vint_u128.Given as goal

abbrev pub invariant-loop-index : goal.invariant-loop-index
invariant-loop-index l = record { fits : l.value < 2 ^ 128; so_far : IsRead l.bytes l.end l.index l.value }
