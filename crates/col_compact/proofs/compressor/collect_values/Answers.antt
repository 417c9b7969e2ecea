use Rattle.std.proofs.Common.{ap, length, length-append, ◌∷◌, [], arith}
use Rattle.col_compact.proofs.CollectLemmas.{collected-none, collected-more, collected-all, collected-many}
use Rattle.col_compact.proofs.compressor.collect_values.Goals as goal

pub loop-value-init : goal.loop-value-init
loop-value-init g c = record {
  stands = c.walk-at.ensures.stands;
  whole = collected-none _ _ _ c.new-values.ensures.items c.walk-at.ensures.front;
  few = omega (arith, ap length c.new-values.ensures.items);
}

pub next-requires : goal.next-requires
next-requires g c = c.loop-value.invariant.stands

pub returns-then-as_slice-clause-too_large : goal.returns-then-as_slice-clause-too_large
returns-then-as_slice-clause-too_large g c e =
    collected-many c.loop-value.values.items _ _ _ c.in-Some.value c.loop-value.invariant.whole
    c.in-Some.ensures.value
    (let many = c.if-as_slice.true in omega (arith, many, ap length c.as_slice.ensures.value))

pub loop-value-smaller : goal.loop-value-smaller
loop-value-smaller g c = omega (arith, ap length c.in-Some.ensures.value)

pub loop-value-preserved : goal.loop-value-preserved
loop-value-preserved g c = record {
  stands = c.next.ensures.stands;
  whole = collected-more _ _ _ _ _ c.in-Some.value c.loop-value.invariant.whole c.in-Some.ensures.value c.in_ok-push.ensures.items;
  few =
      let room = c.if-as_slice.false in omega (
        arith,
        room,
        ap length c.as_slice.ensures.value,
        ap length c.in_ok-push.ensures.items,
        length-append c.loop-value.values.items (c.in-Some.value ∷ []),
      );
}

pub returns-clause-ok : goal.returns-clause-ok
returns-clause-ok g c = collected-all _ _ _ c.loop-value.invariant.whole c.in_default.ensures.value.0

pub returns-clause-few : goal.returns-clause-few
returns-clause-few g c = c.loop-value.invariant.few
