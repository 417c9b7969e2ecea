use Rattle.col_writer_columns.proofs.SoundLemmas.{times-sound}
use Rattle.col_writer_columns.proofs.plain_column_writer.PlainColumnWriter+u64.entry_is_sound.Goals as goal

pub returns : goal.returns
returns c = times-sound c.args.self.now c.values.result.now c.values.ensures.values c.codes_fit.ensures
