use Rattle.std.proofs.Common.{ap}
use Rattle.col_csv_import.specs.Columns.{FilledColumn}
use Rattle.col_csv_import.proofs.RecorderLemmas.{room-open}
use Rattle.col_csv_import.proofs.import_column.ImportColumn.take_field.Goals as goal

pub take_value-requires : goal.take_value-requires
take_value-requires c =
    room-open _ c.args.row _ c.args.self.now c.self.invariant (ap (λ (c : FilledColumn). c.records) c.self.view_is)
    c.requires.few c.requires.room
