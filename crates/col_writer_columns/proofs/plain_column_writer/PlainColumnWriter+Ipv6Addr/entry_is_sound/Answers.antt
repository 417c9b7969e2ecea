use Rattle.col_writer_columns.proofs.SoundLemmas.{addresses-sound}
use Rattle.col_writer_columns.proofs.plain_column_writer.PlainColumnWriter+Ipv6Addr.entry_is_sound.Goals as goal

pub returns : goal.returns
returns c = addresses-sound c.args.self.now c.values.result.now c.values.ensures.values c.addresses_fit.ensures
