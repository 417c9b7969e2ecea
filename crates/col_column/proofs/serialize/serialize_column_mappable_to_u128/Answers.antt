use Rattle.std.proofs.Common.{arith}
use Rattle.std.proofs.lemmas.List.{length-map}
use Rattle.col_column.proofs.SerializeAddressLemmas.{rows-written}
use Rattle.col_column.proofs.serialize.serialize_column_mappable_to_u128.Goals as goal

pub returns-clause-ok : goal.returns-clause-ok
returns-clause-ok g c few_codes few =
    rows-written _ _ _ _ _ _ _ _ _ c.in_ok-index_len.ensures.length (omega arith) c.in_ok-index_len.ensures.again
    c.requires.counted (length-map _ _) c.in_ok-index_len.ensures.ok
    (c.serialize_addresses_behind.ensures.ok few_codes few)
