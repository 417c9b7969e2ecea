use Rattle.std.proofs.Common.{subst}
use Rattle.col_common.specs.Reading.{IsBytes}
use Rattle.col_model.specs.Sound.{IsSound}
use Rattle.col_model.proofs.DecodedTables.{decoded-is-sound}
use Rattle.col_segments.specs.Files.{table_in}
use Rattle.col_segments.specs.Segments.{HeldTable}
use Rattle.col_segments.proofs.segment.Segment.table_is_sound.Goals as goal

pub returns : goal.returns
returns c =
    let bytes = subst IsBytes c.deref.ensures c.are_bytes.ensures in
    subst (λ (h : HeldTable). IsSound h.table) c.self.view_is
    (decoded-is-sound c.self.inside.file (table_in c.self.inside.file) bytes c.self.invariant.table)
