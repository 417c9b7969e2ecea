use Rattle.col_exchange.proofs.ExportLemmas.{exports-opened, exports-unopened}
use Rattle.col_exchange.proofs.exporting.export_file.Goals as goal

pub returns-in-Ok : goal.returns-in-Ok
returns-in-Ok g c = exports-opened _ _ _ _ c.in-Ok.ensures c.export_opened.ensures.answer c.export_opened.ensures.reads

pub returns-in-Err : goal.returns-in-Err
returns-in-Err g c = exports-unopened _ _ _ _ c.from.ensures c.in-Err.ensures
