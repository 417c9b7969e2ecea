use Rattle.col_writer_rows.proofs.TextLemmas.{behind-written}
use Rattle.col_writer_rows.proofs.texts.serialize_behind.Goals as goal

pub returns : goal.returns
returns g c t stores =
    behind-written _ _ _ _ _ t _ _ _ c.args.dictionary_len c.to_le_bytes.ensures
    (c.in_ok-serialize_ords.ensures t stores) c.serialize_bytes.ensures
