use Rattle.std.proofs.Common.{◌∙◌, ap, length}
use Rattle.col_writer_columns.proofs.KeyLemmas.{length-time_keys}
use Rattle.col_writer_columns.proofs.KeyedLemmas.{many-keys, gives-times}
use Rattle.col_writer_columns.proofs.plain_column_writer.PlainColumnWriter+u64.sort_order.Goals as goal

pub sort_docs-requires : goal.sort_docs-requires
sort_docs-requires c =
    many-keys c.args.self.now.column c.docs.result.now c.values.result.now c.new-keys.result c.docs.ensures c.values.ensures.values
    (ap length c.new-keys.ensures ∙ length-time_keys c.values.result.now)

pub returns : goal.returns
returns c =
    gives-times (λ v. v.items) c.sort_docs.result c.args.self.now.column c.docs.result.now c.values.result.now
    c.new-keys.result c.args.num_docs c.args.reversed
    c.docs.ensures c.values.ensures.values c.new-keys.ensures c.sort_docs.ensures
