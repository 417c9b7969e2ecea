use Rattle.std.proofs.Common.{◌∙◌, refl, arith}
use Rattle.col_index.proofs.RunBitLemmas.{flags_first, flags_last}
use Rattle.col_index.proofs.run_bits.set_runs.Goals as goal

pub loop-number-init : goal.loop-number-init
loop-number-init c = record {
  long = refl;
  flags = flags_first c.args.starts.now c.args.before.now c.requires.summed c.args.words.now c.requires.clear;
}

pub set_run-requires-clause-room : goal.set_run-requires-clause-room
set_run-requires-clause-room c = omega (arith, c.requires.room, c.loop-number.invariant.long)

pub loop-number-preserved : goal.loop-number-preserved
loop-number-preserved c = record {
  long = c.set_run.auto.words ∙ c.loop-number.invariant.long;
  flags = c.set_run.ensures;
}

pub returns : goal.returns
returns c =
    flags_last c.args.starts.now c.args.before.now c.requires.summed c.loop-number.words c.loop-number.number
    (omega (arith, c.loop-number-test.false, c.loop-number.auto.number-end, c.num_non_nulls-number-end.ensures))
    c.loop-number.invariant.flags
