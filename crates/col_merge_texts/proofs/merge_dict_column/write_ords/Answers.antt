use Rattle.col_indexer.specs.Spelling.{index_shape}
use Rattle.col_indexer.specs.Written.{index_of}
use Rattle.col_merge_texts.proofs.WritingLemmas.{ords-then}
use Rattle.col_merge_texts.proofs.merge_dict_column.write_ords.Goals as goal

pub returns : goal.returns
returns g c =
    ords-then (index_shape (index_of c.args.column_index)) c.args.ords.now _ _ _ _ _ _ _ c.args.dictionary_len
    c.to_le_bytes.ensures c.in_ok-serialize_column_mappable_to_u64.ensures.again
    c.in_ok-serialize_column_mappable_to_u64.ensures.ok c.serialize_bytes.ensures
