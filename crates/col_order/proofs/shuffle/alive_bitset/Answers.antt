use Rattle.std.proofs.Common.{◌∙◌, ap, arith, length, map, sym, take}
use Rattle.col_common.specs.declared.row.RowAddr.{RowAddr}
use Rattle.col_order.specs.Orders.{address_of}
use Rattle.col_order.proofs.MarkedLemmas.{alive-row, alive-more, alive-other}
use Rattle.col_order.proofs.NamedLemmas.{named-none, length-named}
use Rattle.col_order.proofs.shuffle.alive_bitset.Goals as goal
use Rattle.col_order.proofs.shuffle.alive_bitset.Goals.{then-addr-segment, else-addr-segment}

pub loop-addr-init : goal.loop-addr-init
loop-addr-init c = c.in_ok-set.ensures ∙ sym (named-none c.args.segment c.args.num_rows)

pub insert-requires : goal.insert-requires
insert-requires c =
    let within = alive-row c.args.segment c.args.num_rows c.args.addrs.now c.loop-addr.addr-index
    (record { segment_ord = 0; row_id = 0 }) c.loop-addr-test.true c.requires c.if-addr-segment.true in
    omega (
      arith,
      within,
      ap length c.loop-addr.invariant,
      length-named (take c.loop-addr.addr-index (map address_of c.args.addrs.now)) c.args.segment c.args.num_rows,
    )

pub loop-addr-preserved : goal.loop-addr-preserved
loop-addr-preserved c =
    let none : RowAddr = record { segment_ord = 0; row_id = 0 } in
    elim c.if-addr-segment.branch [
      | then-addr-segment w ↦
          alive-more c.args.segment c.args.num_rows c.args.addrs.now c.loop-addr.addr-index none c.loop-addr-test.true
          c.loop-addr.set c.if-addr-segment.set c.loop-addr.invariant w.if-addr-segment.true
          (alive-row c.args.segment c.args.num_rows c.args.addrs.now c.loop-addr.addr-index none c.loop-addr-test.true c.requires
          w.if-addr-segment.true) (w.set-is ∙ w.insert.ensures)
      | else-addr-segment w ↦ w.set-is ∙ alive-other c.args.segment c.args.num_rows c.args.addrs.now c.loop-addr.addr-index none
          c.loop-addr-test.true c.loop-addr.set c.loop-addr.invariant w.if-addr-segment.false
    ]
