use Rattle.std.proofs.Common.{refl, ap, ◌∙◌, arith, length}
use Rattle.col_numbers.proofs.CollectingLemmas.{collecting-init, collecting-step, collecting-room, collecting-done}
use Rattle.col_numbers.proofs.estimator.collect_each.Goals as goal

pub loop-value-init : goal.loop-value-init
loop-value-init g c =
    record {
      stands = c.walk-at.ensures.stands;
      collecting = collecting-init _ _ _ c.requires.«open» c.walk-at.ensures.front;
      code = refl;
    }

pub next-requires : goal.next-requires
next-requires g c = c.loop-value.invariant.stands

pub collect-requires : goal.collect-requires
collect-requires g c =
    record {
      room = collecting-room _ _ _ _ c.in-Some.value c.in-Some.ensures.value c.requires.count
          c.loop-value.invariant.collecting;
    }

pub loop-value-smaller : goal.loop-value-smaller
loop-value-smaller g c = omega (arith, ap length c.in-Some.ensures.value)

pub loop-value-preserved : goal.loop-value-preserved
loop-value-preserved g c = record {
  stands = c.next.ensures.stands;
  collecting = collecting-step _ _ _ _ _ c.in-Some.value c.collect.ensures.more c.in-Some.ensures.value c.loop-value.invariant.collecting;
  code = c.collect.ensures.code ∙ c.loop-value.invariant.code;
}

pub finalize-requires : goal.finalize-requires
finalize-requires g c =
    record {
      «open» = (
        g.I.Iterable.items c.args.vals.now,
        collecting-done _ _ _ c.in_default.ensures.value.0 c.loop-value.invariant.collecting,
        c.requires.count,
      );
    }

pub returns-clause-all : goal.returns-clause-all
returns-clause-all g c = c.finalize.ensures.all _ (collecting-done _ _ _ c.in_default.ensures.value.0 c.loop-value.invariant.collecting)

pub returns-clause-code : goal.returns-clause-code
returns-clause-code g c = c.finalize.ensures.code ∙ c.loop-value.invariant.code
