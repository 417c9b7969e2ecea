use Rattle.col_keys.specs.KeyTables.{all_keyed}
use Rattle.col_model.proofs.DecodedTables.{key_table-keys}
use Rattle.col_file.proofs.reading.keys_of.Goals as goal

pub new-requires-clause-keys : goal.new-requires-clause-keys
new-requires-clause-keys c = key_table-keys c.args.table.now (all_keyed c.in_ok-columns.columns.items) c.in_ok-columns.ensures
