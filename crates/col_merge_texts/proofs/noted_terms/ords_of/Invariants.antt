use Rattle.std.proofs.Common.{◌≡◌, map, take}
use Rattle.col_merge_texts.specs.Noting.{ord_by}
use Rattle.col_merge_texts.proofs.noted_terms.ords_of.Given as goal

abbrev pub invariant-loop-id : goal.invariant-loop-id
invariant-loop-id l = l.ords.items ≡ map (ord_by l.mapping) (take l.id-index l.ids)
