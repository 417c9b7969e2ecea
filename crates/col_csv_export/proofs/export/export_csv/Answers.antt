use Rattle.std.proofs.Common.{◌∙◌, ap}
use Rattle.col_csv_export.proofs.FileLemmas.{exported}
use Rattle.col_csv_export.proofs.export.export_csv.Goals as goal

pub returns-clause-answer : goal.returns-clause-answer
returns-clause-answer g c =
    let r = c.args.reader.now in
    exported r.file c.open_all.new.reader.file (g.K.Sink.seen c.args.output.now)
    (g.K.Sink.seen c.write_columns-written.new.output) c.write_columns-written.result r.keys c.in_ok-columns.columns
    c.columns.result.now c.num_docs.result c.columns.ensures
    (c.num_docs.ensures ∙ ap (λ k. k.row_count) c.in_ok-columns.ensures.reads.keys) c.in_ok-columns.ensures.answer
    c.write_columns-written.ensures.answer
