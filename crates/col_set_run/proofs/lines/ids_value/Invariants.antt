use Rattle.std.proofs.Common.{◌≡◌, map, take}
use Rattle.serde_json.specs.View.{view}
use Rattle.col_program.specs.Report.{count_data}
use Rattle.col_set_run.proofs.lines.ids_value.Given as goal

abbrev pub invariant-loop-id : goal.invariant-loop-id
invariant-loop-id l = map view l.values.items ≡ map count_data (take l.id-index l.ids)
