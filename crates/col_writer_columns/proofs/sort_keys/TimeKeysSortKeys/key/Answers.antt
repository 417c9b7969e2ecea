use Rattle.std.proofs.Common.{arith, ap, length}
use Rattle.col_writer_columns.proofs.KeyLemmas.{length-time_keys}
use Rattle.col_writer_columns.proofs.sort_keys.TimeKeysSortKeys.key.Goals as goal

pub time_key_at-requires : goal.time_key_at-requires
time_key_at-requires c = omega (arith, c.requires, ap length c.self.view_is, length-time_keys c.self.inside.codes.now)
