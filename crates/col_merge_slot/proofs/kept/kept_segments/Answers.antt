use Rattle.std.proofs.Common.{◌≡◌, map, ◌∙◌}
use Rattle.std.proofs.lemmas.Result.{IfOk-weaker}
use Rattle.col_order.specs.Orders.{picks_of}
use Rattle.col_order.specs.RowOrders.{order_of}
use Rattle.col_merge_slot.specs.Kept.{has_values, kept_flags}
use Rattle.col_merge_slot.proofs.KeptLemmas.{stacked-keeps}
use Rattle.col_merge_slot.proofs.kept.kept_segments.Goals as goal

pub returns-in-Stack : goal.returns-in-Stack
returns-in-Stack c =
    let columns = c.args.columns.now in
    let order = c.args.merge_row_order.now in
    IfOk-weaker c.kept_stacked.result (λ kept. kept.items ≡ map has_values columns)
    (λ kept. kept.items ≡ kept_flags columns (picks_of (order_of order)))
    (λ kept e. e ∙ stacked-keeps order _ columns c.in-Stack.is c.requires c.columns_are_counted.ensures) c.kept_stacked.ensures
