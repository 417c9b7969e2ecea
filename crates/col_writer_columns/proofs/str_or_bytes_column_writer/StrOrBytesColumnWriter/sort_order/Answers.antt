use Rattle.std.proofs.Common.{◌∙◌, ap, length}
use Rattle.col_writer_columns.specs.Texts.{RecordedTexts}
use Rattle.col_writer_columns.proofs.KeyLemmas.{length-text_keys}
use Rattle.col_writer_columns.proofs.KeyedLemmas.{many-keys, gives-texts}
use Rattle.col_writer_columns.proofs.str_or_bytes_column_writer.StrOrBytesColumnWriter.sort_order.Goals as goal

pub sort_docs-requires : goal.sort_docs-requires
sort_docs-requires c =
    many-keys c.self.inside.column c.docs.result.now c.values.result.now c.new-keys.result c.docs.ensures c.values.ensures.values
    (ap length c.new-keys.ensures ∙ length-text_keys c.in_ok-mapping.mapping c.values.result.now)

pub returns : goal.returns
returns c t =
    gives-texts (λ v. v.items) c.sort_docs.result t c.self.inside.dictionary c.self.inside.column c.docs.result.now
    c.values.result.now c.new-keys.result c.in_ok-mapping.mapping c.args.self.now.values c.args.num_docs
    c.args.reversed
    c.terms_are_those_given.ensures c.self.invariant.known (ap (λ (w : RecordedTexts). w.values) c.self.view_is)
    c.docs.ensures c.values.ensures.values c.in_ok-mapping.ensures c.new-keys.ensures c.sort_docs.ensures
