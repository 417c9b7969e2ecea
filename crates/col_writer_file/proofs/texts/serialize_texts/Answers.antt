use Rattle.std.proofs.Common.{◌∙◌, ap, sym, length}
use Rattle.col_common.specs.Ascending.{are_below}
use Rattle.col_writer_file.proofs.TextEntryLemmas.{docs-in-texts, term-ids, texts-written}
use Rattle.col_writer_file.proofs.texts.serialize_texts.Goals as goal

pub serialize_text_column-requires-clause-below : goal.serialize_text_column-requires-clause-below
serialize_text_column-requires-clause-below g c =
    ap (are_below (length c.args.order.now)) (c.docs.ensures
    ∙ sym (docs-in-texts c.parts.result.0.now c.parts.result.1.now c.args.column.now.values c.parts.ensures))
    ∙ c.requires.below

pub serialize_text_column-requires-clause-terms : goal.serialize_text_column-requires-clause-terms
serialize_text_column-requires-clause-terms g c =
    term-ids c.parts.result.0.now c.values.result.now c.parts.result.1.now c.args.column.now c.parts.ensures
    c.values.ensures.values c.requires.fits

pub returns : goal.returns
returns g c t has =
    texts-written _ _ _ t c.sorts_values_within_row-sorts.result c.args.order.now c.docs.result.now
    c.values.result.now c.parts.result.0.now c.parts.result.1.now c.args.column.now c.parts.ensures
    c.sorts_values_within_row-sorts.ensures c.docs.ensures c.values.ensures.values (c.serialize_text_column.ensures t has)
