use Rattle.col_column.proofs.SerializeAddressLemmas.{addresses-written}
use Rattle.col_column.proofs.serialize.serialize_addresses_behind.Goals as goal

pub returns-clause-ok : goal.returns-clause-ok
returns-clause-ok g c few_codes few =
    addresses-written _ _ _ _ _ c.args.index_len _ _ c.to_le_bytes.ensures
    (c.in_ok-serialize_column_values_u128.ensures.ok few_codes few) c.serialize_bytes.ensures
