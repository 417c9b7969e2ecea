use Rattle.std.proofs.Common.{drop}
use Rattle.col_writer.proofs.SoundLemmas.{Leaves}
use Rattle.col_writer.proofs.writer.soundness.columns_are_sound.Given as goal

abbrev pub invariant-loop-name : goal.invariant-loop-name
invariant-loop-name g l = Leaves g.C.SoundColumn.is_sound (drop l.name-index l.columns) l.columns
