use Rattle.std.proofs.Common.{◌≡◌, map, drop}
use Rattle.serde_json.specs.View.{view}
use Rattle.col_model.specs.File.{for_each}
use Rattle.col_program.specs.Values.{as_u32}
use Rattle.col_lines.proofs.PartLemmas.{behind}
use Rattle.col_set_script.proofs.ids.ids_of.Given as goal

abbrev pub invariant-values : goal.invariant-values
invariant-values l =
    behind l.ids.items (for_each as_u32 (map view (drop l.value-index l.values))) ≡ for_each as_u32 (map view l.values)
