use Rattle.std.proofs.Common.{◌∙◌, ap, map}
use Rattle.col_writer_rows.specs.Terms.{ord_by}
use Rattle.col_writer_rows.proofs.TextLemmas.{known-terms, terms-written, text-written-as}
use Rattle.col_writer_rows.proofs.texts.serialize_text_column.Goals as goal

pub returns : goal.returns
returns g c t has =
    text-written-as _ _ _ _ _ t c.args.sort_values_within_row c.args.order.now c.args.docs.now c.args.ids.now
    c.in_ok-ords.ords.items c.args.terms.now c.dictionary_len-dictionary_len.result
    (known-terms c.args.terms.now c.ordinals_have_the_order_of_their_terms.ensures
    c.dictionaries_are_read_back.ensures c.terms_are_those_given.ensures c.requires.terms.differ
    c.requires.terms.fits)
    c.requires.terms.known has c.dictionary_len-dictionary_len.ensures
    (c.in_ok-ords.ensures ∙ ap (λ m. map (ord_by m) c.args.ids.now) c.in_ok-mapping.ensures.mapping)
    (terms-written _ _ _ _ _ c.requires.terms.fits c.in_ok-mapping.ensures.bytes)
    c.serialize_behind.ensures
