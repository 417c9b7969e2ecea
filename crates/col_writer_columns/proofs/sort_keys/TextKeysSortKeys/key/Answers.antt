use Rattle.std.proofs.Common.{arith, ap, length}
use Rattle.col_writer_columns.proofs.KeyLemmas.{length-text_keys}
use Rattle.col_writer_columns.proofs.sort_keys.TextKeysSortKeys.key.Goals as goal

pub text_key_at-requires-clause-within : goal.text_key_at-requires-clause-within
text_key_at-requires-clause-within c =
    omega
    (arith, c.requires, ap length c.self.view_is, length-text_keys c.self.inside.mapping.now c.self.inside.ids.now)
