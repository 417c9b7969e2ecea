use Rattle.std.proofs.Common.{◌∙◌, ap}
use Rattle.col_writer_columns.specs.Texts.{RecordedTexts}
use Rattle.col_writer_columns.proofs.TermBytesLemmas.{term-bytes}
use Rattle.col_writer_columns.proofs.str_or_bytes_column_writer.StrOrBytesColumnWriter.terms_num_bytes.Goals as goal

pub returns : goal.returns
returns c =
    c.terms_num_bytes.ensures
    ∙ term-bytes c.self.inside.dictionary c.self.inside.column c.args.self.now.values c.self.invariant
    (ap (λ (w : RecordedTexts). w.values) c.self.view_is)
