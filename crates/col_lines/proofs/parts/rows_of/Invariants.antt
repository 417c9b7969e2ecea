use Rattle.std.proofs.Common.{◌≡◌, map, drop}
use Rattle.serde_json.specs.View.{view}
use Rattle.col_model.specs.File.{for_each}
use Rattle.col_program.specs.Script.{as_address}
use Rattle.col_order.specs.Orders.{address_of}
use Rattle.col_lines.proofs.PartLemmas.{behind}
use Rattle.col_lines.proofs.parts.rows_of.Given as goal

abbrev pub invariant-values : goal.invariant-values
invariant-values l =
    behind (map address_of l.rows.items) (for_each as_address (map view (drop l.value-index l.values)))
    ≡ for_each as_address (map view l.values)
