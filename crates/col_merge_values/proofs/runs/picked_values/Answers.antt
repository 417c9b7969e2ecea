use Rattle.std.proofs.Common.{◌++◌, ap, ◌∙◌}
use Rattle.col_model.specs.U64List.{joined_lists}
use Rattle.col_order.specs.RowOrders.{order_of}
use Rattle.col_merge_values.proofs.StackedValueLemmas.{runs-joined}
use Rattle.col_merge_values.proofs.runs.picked_values.Goals as goal
use Rattle.col_merge_values.specs.Merges.{runs_by}

pub returns : goal.returns
returns g c =
    let columns = g.S.Segments.columns c.args.segments.now in
    let order = order_of c.args.order.now in
    c.in_ok-append_picked.ensures
    ∙ ap (λ l. l ++ joined_lists (runs_by columns order)) c.in_ok-values.ensures.items
    ∙ runs-joined columns order c.requires.columns
