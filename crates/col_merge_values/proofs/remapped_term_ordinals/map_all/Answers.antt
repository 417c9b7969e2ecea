use Rattle.std.proofs.Common.{slice_index, arith}
use Rattle.col_codecs.proofs.PackingLemmas.{replaced-push}
use Rattle.col_merge_values.proofs.remapped_term_ordinals.map_all.Goals as goal

pub loop-at-preserved : goal.loop-at-preserved
loop-at-preserved c =
    replaced-push (slice_index c.args.mapping.now) c.args.ords.now c.loop-at.ords c.loop-at.at c.item_at.result
    c.loop-at.invariant (omega (arith, c.loop-at-test.true, c.loop-at.auto.ords)) c.item_at.ensures
