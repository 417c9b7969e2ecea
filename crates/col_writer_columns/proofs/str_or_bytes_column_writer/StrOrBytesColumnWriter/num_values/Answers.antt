use Rattle.std.proofs.Common.{◌∙◌, ap, sym, length}
use Rattle.col_writer_columns.specs.Texts.{RecordedTexts}
use Rattle.col_writer_columns.proofs.TextLemmas.{same_length}
use Rattle.col_writer_columns.proofs.str_or_bytes_column_writer.StrOrBytesColumnWriter.num_values.Goals as goal

pub returns-clause-value : goal.returns-clause-value
returns-clause-value c =
    c.num_values.ensures.value ∙ sym (same_length c.self.inside.dictionary c.self.inside.column)
    ∙ ap (λ (w : RecordedTexts). length w.values) c.self.view_is
