use Rattle.std.proofs.Common.{◌∙◌, sym, ap, length}
use Rattle.col_common.specs.Ascending.{are_below}
use Rattle.col_model.specs.ColumnType as types
use Rattle.col_types.specs.Cells.{unsigned_cell}
use Rattle.col_writer_file.specs.EntryColumns.{entry_in}
use Rattle.col_writer_file.specs.OnRows.{recorded_docs}
use Rattle.col_writer_file.proofs.PlainLemmas.{docs-in-records}
use Rattle.col_writer_file.proofs.entry_column.EntryColumn.check.Goals as goal

pub check_addresses-requires : goal.check_addresses-requires
check_addresses-requires c =
    ap (are_below (length c.args.order.now)) (
    sym (docs-in-records types.ip unsigned_cell c.in-IpAddr.column.now.column)
    ∙ ap (λ e. recorded_docs (entry_in e)) (sym c.in-IpAddr.is)) ∙ c.requires
