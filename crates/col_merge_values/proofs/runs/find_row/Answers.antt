use Rattle.std.proofs.Common.{◌<◌, ◌^◌, length, refl, ◌∙◌, arith}
use Rattle.col_model.specs.Order.{has_row}
use Rattle.col_order.specs.Orders.{address_of}
use Rattle.col_merge_values.proofs.RunLemmas.{passes-at, row-passed, row-found}
use Rattle.col_merge_values.proofs.runs.find_row.Goals as goal

pub value_row_ids-row_ids-requires-clause-there : goal.value_row_ids-row_ids-requires-clause-there
value_row_ids-row_ids-requires-clause-there g c =
    let order = c.args.order.now in
    passes-at (has_row order.counts) order.addresses c.loop-at.at.place (address_of c.row_addr-addr.result)
    c.rows_are_there.ensures c.row_addr-addr.ensures

pub returns-then-row_ids : goal.returns-then-row_ids
returns-then-row_ids g c =
    let columns = g.S.Segments.columns c.args.segments.now in
    let order = c.args.order.now in
    let k = c.loop-at.at.place in
    let within : k < length order.addresses = omega (arith, c.from-num_rows.ensures, c.num_rows.ensures, c.loop-at-test.true) in
    let some = c.if-row_ids.true in
    let few : c.value_row_ids-row_ids.result.«end» < 2 ^ 32 = omega arith in
    row-found columns order.counts order.addresses c.args.at.now _ k c.value_row_ids-row_ids.result.start
    c.value_row_ids-row_ids.result.«end» (address_of c.row_addr-addr.result) c.row_addr-addr.ensures within
    c.value_row_ids-row_ids.ensures c.loop-at.invariant.left c.from-at.ensures refl
    c.from-at-then-row_ids.ensures c.from-at-then-row_ids-2.ensures some few

pub loop-at-preserved : goal.loop-at-preserved
loop-at-preserved g c =
    let columns = g.S.Segments.columns c.args.segments.now in
    let order = c.args.order.now in
    let k = c.loop-at.at.place in
    let stands = c.loop-at.invariant.stands in
    let within : k < length order.addresses = omega (arith, c.from-num_rows.ensures, c.num_rows.ensures, c.loop-at-test.true) in
    record {
      stands = record { run = stands.run; within = stands.within; few = stands.few };
      given = c.loop-at.invariant.given;
      left =
          row-passed columns order.addresses k (address_of c.row_addr-addr.result)
          c.value_row_ids-row_ids.result.start c.value_row_ids-row_ids.result.«end» c.row_addr-addr.ensures within
          c.value_row_ids-row_ids.ensures c.if-row_ids.false ∙ c.loop-at.invariant.left;
    }
