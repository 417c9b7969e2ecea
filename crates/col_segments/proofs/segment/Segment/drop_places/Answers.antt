use Rattle.std.proofs.Common.{ap, ◌∙◌}
use Rattle.col_places.specs.Places.{AliveRows}
use Rattle.col_segments.proofs.segment.Segment.drop_places.Goals as goal

pub invariant_of-self : goal.invariant_of-self
invariant_of-self c = record {
  table = c.self.invariant.table;
  count = ap (λ (a : AliveRows). a.count) c.drop_places.ensures ∙ c.self.invariant.count;
}
