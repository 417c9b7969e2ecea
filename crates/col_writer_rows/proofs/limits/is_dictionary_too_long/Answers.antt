use Rattle.col_writer_rows.proofs.TextLemmas.{long-test}
use Rattle.col_writer_rows.proofs.limits.is_dictionary_too_long.Goals as goal

pub returns : goal.returns
returns c =
    long-test c.args.terms.now _ _ _ _ _ c.requires c.num_terms.ensures c.terms_num_bytes.ensures
    c.saturating_mul.ensures c.saturating_add-ends_len.ensures c.saturating_add.ensures
