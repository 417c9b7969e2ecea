use Rattle.col_writer_columns.proofs.SoundLemmas.{bools-sound}
use Rattle.col_writer_columns.proofs.plain_column_writer.PlainColumnWriter+bool.entry_is_sound.Goals as goal

pub returns : goal.returns
returns c = bools-sound c.args.self.now
