use Rattle.std.proofs.Common.{ap, ◌∙◌}
use Rattle.col_segments.specs.Segments.{HeldTable}
use Rattle.col_segments.proofs.segment.Segment.alive.Goals as goal

pub returns-clause-count : goal.returns-clause-count
returns-clause-count c = c.self.invariant.count ∙ ap (λ (h : HeldTable). h.table.row_count) c.self.view_is
