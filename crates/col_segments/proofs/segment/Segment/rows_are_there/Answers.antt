use Rattle.std.proofs.Common.{sym, ap, ◌∙◌, subst}
use Rattle.col_segments.specs.Compaction.{HasItsRows}
use Rattle.col_segments.specs.Segments.{are_places}
use Rattle.col_segments.proofs.PlaceLemmas.{places-below}
use Rattle.col_segments.proofs.segment.Segment.rows_are_there.Goals as goal

pub returns : goal.returns
returns c =
    let rows = c.self.inside.alive.rows in
    subst HasItsRows c.self.view_is
    (places-below 0 _ rows (ap (λ n. are_places 0 n rows) (sym c.self.invariant.count) ∙ c.rise.ensures))
