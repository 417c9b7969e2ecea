use Rattle.std.proofs.Common.{map, subst}
use Rattle.std.specs.List.{AllByRecursion}
use Rattle.col_writer_columns.specs.Texts.{RecordedTexts}
use Rattle.col_writer_columns.proofs.SoundLemmas.{IsByteText, texts-bytes, texts-sound}
use Rattle.col_writer_columns.proofs.str_or_bytes_column_writer.StrOrBytesColumnWriter.entry_is_sound.Goals as goal

pub returns : goal.returns
returns c =
    let a = c.self.inside in
    texts-sound c.args.self.now (subst (λ (texts : RecordedTexts). AllByRecursion IsByteText (map (λ p. p.1) texts.values))
    c.self.view_is (texts-bytes a.dictionary a.column c.terms_are_bytes.ensures))
