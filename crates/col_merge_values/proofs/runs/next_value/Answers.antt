use Rattle.std.proofs.Common.{sym, ◌∙◌, drop, ◌<◌}
use Rattle.std.proofs.lemmas.Bool.{ltb-true}
use Rattle.col_model.specs.U64List.{joined_lists}
use Rattle.col_order.specs.RowOrders.{order_of}
use Rattle.col_merge_values.specs.Merges.{runs_by, segment_values}
use Rattle.col_merge_values.proofs.RunLemmas.{run-step}
use Rattle.col_merge_values.proofs.runs.next_value.Goals as goal

pub returns-clause-value : goal.returns-clause-value
returns-clause-value g c =
    let columns = g.S.Segments.columns c.args.segments.now in
    let at = c.find_value.new.at in
    let rest = joined_lists (drop at.place (runs_by columns (order_of c.args.order.now))) in
    let more : at.inner < at.sum = ltb-true at.inner at.sum (sym c.find_value.ensures.found_is ∙ c.if-not-find_value.false) in
    sym c.find_value.ensures.same
    ∙ run-step (segment_values columns at.segment) rest at.inner at.sum c.get_val.result c.get_val.ensures more
    c.find_value.ensures.stands.within
