use Rattle.std.proofs.Common.{refl, arith}
use Rattle.std.proofs.lemmas.List.{length-map}
use Rattle.col_column.proofs.SerializeNumberLemmas.{number_column-written}
use Rattle.col_column.proofs.SerializeRowLemmas.{number_rows-again}
use Rattle.col_column.proofs.serialize.serialize_column_mappable_to_u64.Goals as goal

pub returns-clause-ok : goal.returns-clause-ok
returns-clause-ok g c =
    number_column-written _ _ _ _ _ _ _ _ _ c.in_ok-index_len.ensures.length c.in_ok-index_len.ensures.ok
    c.serialize_numbers_behind.ensures.ok

pub returns-clause-again : goal.returns-clause-again
returns-clause-again g c =
    number_rows-again _ _ _ _ _ _ c.in_ok-index_len.ensures.length (omega arith) c.in_ok-index_len.ensures.again
    c.requires.counted (length-map _ _) c.requires.few refl
    c.serialize_numbers_behind.ensures.fit
