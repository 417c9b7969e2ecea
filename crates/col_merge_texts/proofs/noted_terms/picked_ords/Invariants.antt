use Rattle.std.proofs.Common.{◌≡◌, map, take, slice_index}
use Rattle.col_merge_texts.proofs.noted_terms.picked_ords.Given as goal

abbrev pub invariant-loop-id : goal.invariant-loop-id
invariant-loop-id l = l.ords.items ≡ map (slice_index l.mapping) (take l.id-index l.ids)
