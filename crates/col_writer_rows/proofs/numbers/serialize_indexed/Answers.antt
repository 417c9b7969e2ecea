use Rattle.col_writer_rows.proofs.IndexLemmas.{numbers-indexed}
use Rattle.col_writer_rows.proofs.numbers.serialize_indexed.Goals as goal

pub returns : goal.returns
returns g c =
    numbers-indexed _ _ _ _ _ c.args.numbers.now c.as_serializable.ensures
    c.serialize_column_mappable_to_u64.ensures.ok c.serialize_column_mappable_to_u64.ensures.again
