use Rattle.std.proofs.Common.{◌+◌, map, refl, ap, ◌∙◌, arith}
use Rattle.std.specs.List.{list_all}
use Rattle.col_index.specs.Indexes.{shape_of}
use Rattle.col_model.specs.Order.{has_row}
use Rattle.col_model.specs.Positions.{picked_counts}
use Rattle.col_indexer.proofs.ShuffleLemmas.{segment-there}
use Rattle.col_merge_column.proofs.CountLemmas.{walked, all-walked, too-many, one-more, counted}
use Rattle.col_merge_column.proofs.cell_counts.has_many_shuffled.Goals as goal

pub num_at-requires : goal.num_at-requires
num_at-requires c =
    let order = c.args.order.now in
    let addrs = c.iter_new_to_old_row_addrs-addr-items.result.now in
    let named = ap (λ all. list_all (has_row order.counts) all) c.iter_new_to_old_row_addrs-addr-items.ensures ∙ c.rows_are_there.ensures in
    segment-there c.args.column_indexes.now addrs order.counts c.loop-addr.addr-index
    (record { segment_ord = 0; row_id = 0 }) c.requires named c.loop-addr-test.true

pub returns-then-count-from : goal.returns-then-count-from
returns-then-count-from c =
    let shapes = map shape_of c.args.column_indexes.now in
    let i = c.loop-addr.addr-index in
    let here = walked shapes c.iter_new_to_old_row_addrs-addr-items.result.now c.args.order.now.addresses i
    c.from-count.result (record { segment_ord = 0; row_id = 0 }) c.iter_new_to_old_row_addrs-addr-items.ensures
    c.loop-addr-test.true (c.from-count.ensures ∙ c.num_at.ensures) in
    too-many (picked_counts shapes c.args.order.now.addresses) i c.loop-addr.count c.from-count.result
    (c.loop-addr.count + c.from-count.result) _ refl here.0 c.loop-addr.invariant.count_is here.1 refl
    (omega (arith, c.if-count-from.true, c.from.ensures))

pub loop-addr-preserved : goal.loop-addr-preserved
loop-addr-preserved c =
    let shapes = map shape_of c.args.column_indexes.now in
    let i = c.loop-addr.addr-index in
    let here = walked shapes c.iter_new_to_old_row_addrs-addr-items.result.now c.args.order.now.addresses i
    c.from-count.result (record { segment_ord = 0; row_id = 0 }) c.iter_new_to_old_row_addrs-addr-items.ensures
    c.loop-addr-test.true (c.from-count.ensures ∙ c.num_at.ensures) in
    record {
      count_is =
          one-more (picked_counts shapes c.args.order.now.addresses) i c.loop-addr.count c.from-count.result
          (c.loop-addr.count + c.from-count.result) here.0 c.loop-addr.invariant.count_is here.1 refl;
      fits = omega (arith, c.if-count-from.false, c.from.ensures);
    }

pub returns : goal.returns
returns c =
    let shapes = map shape_of c.args.column_indexes.now in
    counted (picked_counts shapes c.args.order.now.addresses) c.loop-addr.addr-index c.loop-addr.count _ refl
    (all-walked shapes c.iter_new_to_old_row_addrs-addr-items.result.now c.args.order.now.addresses
    c.loop-addr.addr-index c.iter_new_to_old_row_addrs-addr-items.ensures
    (omega (arith, c.loop-addr-test.false))) c.loop-addr.invariant.count_is c.loop-addr.invariant.fits
