use Rattle.std.proofs.Common.{arith, refl}
use Rattle.col_print.proofs.EscapeLemmas.{plain-next}
use Rattle.col_print.proofs.quoted.plain_end.Goals as goal

pub loop-end-preserved : goal.loop-end-preserved
loop-end-preserved c = record {
  behind = omega (arith, c.loop-end.invariant.behind);
  within = omega (arith, c.loop-end-test.true);
  plain = plain-next c.args.text.now c.args.start c.loop-end.«end» _ c.loop-end.invariant.behind
      c.loop-end-test.true refl (c.is_plain.ensures c.if-is_plain.true) c.loop-end.invariant.plain;
}
