use Rattle.std.proofs.Common.{refl, sym, ap, arith, length}
use Rattle.col_numbers.proofs.CollectingLemmas.{collecting-init, collecting-step, collecting-done, collected-more, collected-room, fits-below, too-many}
use Rattle.col_numbers.proofs.serialize.collect_stats.Goals as goal

pub loop-value-init : goal.loop-value-init
loop-value-init g c =
    record {
      stands = c.walk-at.ensures.stands;
      collecting = collecting-init _ _ _
          (record { is = c.default-collector.ensures; count_is = refl }) c.walk-at.ensures.front;
    }

pub next-requires : goal.next-requires
next-requires g c = c.loop-value.invariant.stands

pub returns-then-count-clause-none : goal.returns-then-count-clause-none
returns-then-count-clause-none g c =
    too-many _ _ _ _ c.in-Some.value c.loop-value.count (λ xs p. p.count_is) c.in-Some.ensures.value c.if-count.true
    c.loop-value.invariant.collecting

pub collect-requires : goal.collect-requires
collect-requires g c =
    collected-room _ c.loop-value.count _ _ (omega (arith, c.loop-value.auto.count-fits)) c.if-count.false
    c.loop-value.invariant.collecting

pub loop-value-smaller : goal.loop-value-smaller
loop-value-smaller g c = omega (arith, ap length c.in-Some.ensures.value)

pub loop-value-preserved : goal.loop-value-preserved
loop-value-preserved g c = record {
  stands = c.next.ensures.stands;
  collecting =
      collecting-step _ _ _ _ _ c.in-Some.value (collected-more _ _ _ _ _ c.collect.ensures refl)
      c.in-Some.ensures.value c.loop-value.invariant.collecting;
}

pub returns-clause-stats : goal.returns-clause-stats
returns-clause-stats g c = c.stats-stats.ensures _ (collecting-done _ _ _ c.in_default.ensures.value.0 c.loop-value.invariant.collecting).is

pub returns-clause-count : goal.returns-clause-count
returns-clause-count g c =
    omega (
      arith,
      (collecting-done _ _ _ c.in_default.ensures.value.0 c.loop-value.invariant.collecting).count_is,
      c.loop-value.auto.count-fits,
    )

pub returns-clause-fit : goal.returns-clause-fit
returns-clause-fit g c =
    fits-below _ c.stats-stats.result.max_value (sym (ap (λ s. s.greatest) (c.stats-stats.ensures _
    (collecting-done _ _ _ c.in_default.ensures.value.0 c.loop-value.invariant.collecting).is))) (omega arith)
