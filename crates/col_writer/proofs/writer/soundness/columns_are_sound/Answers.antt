use Rattle.std.proofs.Common.{◌+◌, drop, refl}
use Rattle.col_writer.proofs.PlaceLemmas.{left-next, left-none}
use Rattle.col_writer.proofs.SoundLemmas.{leaves-all, leaves-next, leaves-none}
use Rattle.col_writer.proofs.writer.soundness.columns_are_sound.Goals as goal

pub loop-name-init : goal.loop-name-init
loop-name-init g c = leaves-all g.C.SoundColumn.is_sound c.args.columns.now c.args.columns.now refl

pub loop-name-preserved : goal.loop-name-preserved
loop-name-preserved g c =
    let e = c.loop-name-item.result in
    leaves-next g.C.SoundColumn.is_sound e.0 e.1 (drop c.loop-name.name-index c.args.columns.now)
    (drop (c.loop-name.name-index + 1) c.args.columns.now) c.args.columns.now
    (left-next c.args.columns.now c.as_slice-name-items.result.now c.loop-name.name-index e c.as_slice-name-items.ensures
    c.loop-name-test.true c.loop-name-item.is)
    c.name_is_utf8.ensures c.entry_is_sound.ensures c.loop-name.invariant

pub returns : goal.returns
returns g c =
    leaves-none g.C.SoundColumn.is_sound (drop c.loop-name.name-index c.args.columns.now) c.args.columns.now
    (left-none c.args.columns.now c.as_slice-name-items.result.now c.loop-name.name-index c.as_slice-name-items.ensures
    c.loop-name-test.false) c.loop-name.invariant
