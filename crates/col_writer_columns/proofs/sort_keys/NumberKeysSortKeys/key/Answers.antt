use Rattle.std.proofs.Common.{arith, ap, length}
use Rattle.col_writer_columns.proofs.KeyLemmas.{length-number_keys}
use Rattle.col_writer_columns.proofs.sort_keys.NumberKeysSortKeys.key.Goals as goal

pub number_key_at-requires-clause-within : goal.number_key_at-requires-clause-within
number_key_at-requires-clause-within c =
    omega (
      arith,
      c.requires,
      ap length c.self.view_is,
      length-number_keys c.self.inside.types.now c.self.inside.codes.now c.self.invariant,
    )
