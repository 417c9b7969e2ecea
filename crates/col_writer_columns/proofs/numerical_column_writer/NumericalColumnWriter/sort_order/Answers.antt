use Rattle.std.proofs.Common.{◌∙◌, ap, length}
use Rattle.col_model.specs.Written.{Entry}
use Rattle.col_writer_columns.proofs.KeyLemmas.{length-number_keys}
use Rattle.col_writer_columns.proofs.KeyedLemmas.{many-keys, gives-numbers}
use Rattle.col_writer_columns.proofs.PostedLemmas.{as_many}
use Rattle.col_writer_columns.proofs.numerical_column_writer.NumericalColumnWriter.sort_order.Goals as goal

pub sort_docs-requires : goal.sort_docs-requires
sort_docs-requires c =
    many-keys c.self.inside.column c.docs.result.now c.values.result.now c.new-keys.result c.docs.ensures c.values.ensures.values
    (ap length c.new-keys.ensures
    ∙ length-number_keys c.self.inside.types c.values.result.now
    (c.self.invariant.many ∙ as_many c.self.inside.column c.values.result.now c.values.ensures.values))

pub returns : goal.returns
returns c =
    gives-numbers (λ v. v.items) c.sort_docs.result c.self.inside.types c.self.inside.column c.docs.result.now
    c.values.result.now c.new-keys.result c.args.self.now.records c.args.num_docs c.args.reversed
    c.self.invariant.many (ap (λ (e : Entry). e.records) c.self.view_is) c.docs.ensures c.values.ensures.values
    c.new-keys.ensures c.sort_docs.ensures
