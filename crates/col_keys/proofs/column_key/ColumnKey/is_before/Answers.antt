use Rattle.std.proofs.Common.{sym}
use Rattle.col_keys.specs.KeyTables.{key_seen}
use Rattle.col_keys.proofs.KeyLemmas.{is_before-keys}
use Rattle.col_keys.proofs.column_key.ColumnKey.is_before.Goals as goal

pub returns : goal.returns
returns c =
    let law = is_before-keys (key_seen c.args.self.now) (key_seen c.args.other.now) c.args.self.now.named c.args.other.now.named in
    rw (
      c.is_lt.ensures,
      c.then.ensures,
      c.cmp-by_name.ensures,
      c.cmp-by_code.ensures,
      c.to_code.ensures,
      c.to_code-2.ensures,
      c.as_str.ensures.value,
      c.as_str-2.ensures.value,
    ) (sym law)
