use Rattle.std.proofs.Common.{◌∙◌, map}
use Rattle.col_csv.specs.Csv.{is_multivalued_column}
use Rattle.col_opened.specs.Opened.{column_of}
use Rattle.col_csv_export.proofs.ExportLemmas.{not-flat, text-added}
use Rattle.col_csv_export.proofs.RecordLemmas.{any-through}
use Rattle.col_csv_export.proofs.export.write_columns.Goals as goal

pub returns-then-has_multivalued-clause-answer : goal.returns-then-has_multivalued-clause-answer
returns-then-has_multivalued-clause-answer g c = λ t rows same.
    not-flat _ t (map column_of c.args.columns.now) c.has_multivalued.result same
    (c.has_multivalued.ensures ∙ any-through is_multivalued_column column_of c.args.columns.now) c.if-has_multivalued.true

pub returns-clause-answer : goal.returns-clause-answer
returns-clause-answer g c = λ t rows same.
    text-added _ _ t (map column_of c.args.columns.now) c.args.row_count c.has_multivalued.result rows same
    (c.has_multivalued.ensures ∙ any-through is_multivalued_column column_of c.args.columns.now) c.if-has_multivalued.false
    c.in_ok-write_records.ensures.ok
