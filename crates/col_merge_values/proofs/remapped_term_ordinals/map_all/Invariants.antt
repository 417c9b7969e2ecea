use Rattle.std.proofs.Common.{◌≡◌, slice_index}
use Rattle.col_codecs.proofs.PackingLemmas.{replaced}
use Rattle.col_merge_values.proofs.remapped_term_ordinals.map_all.Given as goal

abbrev pub invariant-loop-at : goal.invariant-loop-at
invariant-loop-at l = l.ords ≡ replaced (slice_index l.mapping) l.initial.ords l.at
