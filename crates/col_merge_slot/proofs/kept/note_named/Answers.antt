use Rattle.std.proofs.Common.{length, take, refl, ap, subst, ◌∙◌, arith}
use Rattle.std.proofs.lemmas.List.FromFn.{length-map-range_with_len}
use Rattle.col_merge_slot.specs.Kept.{keeps, AreSet}
use Rattle.col_merge_slot.proofs.KeptLemmas.{none-found, named-there, walked, all-walked, set-noted, long-noted, all-set}
use Rattle.col_merge_slot.proofs.kept.note_named.Goals as goal

pub loop-addr-init : goal.loop-addr-init
loop-addr-init c = record {
  flags = c.requires.flags ∙ none-found 0 (length c.args.columns.now);
  within = omega arith;
  set = λ k h. absurd (omega (arith, h));
}

pub returns-then-unset-kept : goal.returns-then-unset-kept
returns-then-unset-kept c =
    all-set c.args.columns.now c.args.order.now.addresses c.loop-addr.addr-index c.loop-addr.kept
    (subst (AreSet c.loop-addr.kept) c.if-unset-kept.true c.first_unset-unset.ensures.set) c.loop-addr.invariant.flags

pub note-requires-clause-columns : goal.note-requires-clause-columns
note-requires-clause-columns c =
    let addrs = c.iter_new_to_old_row_addrs-addr-items in
    let order = c.args.order.now in
    named-there order.counts addrs.result.now order.addresses c.loop-addr.addr-index (length c.args.columns.now)
    (record { segment_ord = 0; row_id = 0 }) addrs.ensures c.rows_are_there.ensures c.loop-addr-test.true
    c.requires.segments

pub note-requires-clause-flags : goal.note-requires-clause-flags
note-requires-clause-flags c =
    let addrs = c.iter_new_to_old_row_addrs-addr-items in
    let order = c.args.order.now in
    let there = named-there order.counts addrs.result.now order.addresses c.loop-addr.addr-index
    (length c.args.columns.now) (record { segment_ord = 0; row_id = 0 }) addrs.ensures c.rows_are_there.ensures
    c.loop-addr-test.true c.requires.segments in
    omega (
      arith,
      there,
      ap length c.loop-addr.invariant.flags,
      length-map-range_with_len
          (keeps c.args.columns.now (take c.loop-addr.addr-index order.addresses)) 0 (length c.args.columns.now),
    )

pub loop-addr-preserved : goal.loop-addr-preserved
loop-addr-preserved c =
    let addrs = c.iter_new_to_old_row_addrs-addr-items in
    let order = c.args.order.now in
    let there = named-there order.counts addrs.result.now order.addresses c.loop-addr.addr-index
    (length c.args.columns.now) (record { segment_ord = 0; row_id = 0 }) addrs.ensures c.rows_are_there.ensures
    c.loop-addr-test.true c.requires.segments in
    let long = length-map-range_with_len (keeps c.args.columns.now (take c.loop-addr.addr-index order.addresses)) 0
    (length c.args.columns.now) in
    record {
      flags =
          walked c.args.columns.now addrs.result.now order.addresses order.counts c.loop-addr.addr-index
          (record { segment_ord = 0; row_id = 0 }) c.loop-addr.kept c.note.new.kept _ addrs.ensures
          c.rows_are_there.ensures c.loop-addr-test.true c.requires.segments c.loop-addr.invariant.flags refl
          c.note.ensures;
      within = long-noted c.loop-addr.kept c.note.new.kept c.first_unset-unset.result _ _ c.note.ensures c.first_unset-unset.ensures.within;
      set =
          set-noted c.loop-addr.kept c.note.new.kept c.first_unset-unset.result _ _ c.note.ensures
          (omega (arith, there, ap length c.loop-addr.invariant.flags, long)) c.first_unset-unset.ensures.set;
    }

pub returns : goal.returns
returns c =
    let addrs = c.iter_new_to_old_row_addrs-addr-items in
    all-walked c.args.columns.now addrs.result.now c.args.order.now.addresses c.loop-addr.addr-index
    c.loop-addr.kept addrs.ensures (omega (arith, c.loop-addr-test.false)) c.loop-addr.invariant.flags
