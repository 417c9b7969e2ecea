use Rattle.std.proofs.Common.{◌-◌, take, arith, refl}
use Rattle.col_codecs.proofs.BoundLemmas.{run_more}
use Rattle.col_codecs.proofs.block_bounds.write_all.Goals as goal

pub loop-place-preserved : goal.loop-place-preserved
loop-place-preserved c =
    run_more (take c.args.at c.args.output.now) c.loop-place.output c.args.start (c.loop-place.place - c.args.at)
    c.loop-place.place _ _ (omega arith) (omega arith) refl c.loop-place.invariant
