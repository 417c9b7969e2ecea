use Rattle.std.proofs.Common.{arith, ap, sym, ◌∙◌, length, ◌<◌, ◌≤◌}
use Rattle.col_writer_columns.specs.Cardinalities.{cardinality_by, rows_up_to}
use Rattle.col_writer_columns.proofs.PostedLemmas.{docs-zip}
use Rattle.col_writer_columns.proofs.CardinalityLemmas.{is-multivalued, is-optional, is-full}
use Rattle.col_writer_columns.proofs.column_writer.ColumnWriter.get_cardinality.Goals as goal

pub returns-then-not-is_rising : goal.returns-then-not-is_rising
returns-then-not-is_rising g c =
    let docs = docs-zip c.self.inside.docs c.self.inside.values.items c.args.self.now c.self.view_is c.self.invariant.many in
    is-multivalued c.args.num_docs c.self.inside.docs c.never_fall.ensures (sym c.is_rising.ensures ∙ c.if-not-is_rising.true)
    ∙ ap (cardinality_by c.args.num_docs) (sym docs)

pub returns-then-len-rows_up_to : goal.returns-then-len-rows_up_to
returns-then-len-rows_up_to g c =
    let docs = docs-zip c.self.inside.docs c.self.inside.values.items c.args.self.now c.self.view_is c.self.invariant.many in
    let few : length c.self.inside.docs < rows_up_to c.args.num_docs c.self.inside.docs =
    omega (
      arith,
      c.len.ensures,
      c.rows_up_to.ensures,
      ap (rows_up_to c.args.num_docs) docs,
      c.if-len-rows_up_to.true,
    ) in
    is-optional c.args.num_docs c.self.inside.docs c.never_fall.ensures (sym c.is_rising.ensures ∙ c.if-not-is_rising.false) few
    ∙ ap (cardinality_by c.args.num_docs) (sym docs)

pub returns : goal.returns
returns g c =
    let docs = docs-zip c.self.inside.docs c.self.inside.values.items c.args.self.now c.self.view_is c.self.invariant.many in
    let many : rows_up_to c.args.num_docs c.self.inside.docs ≤ length c.self.inside.docs =
    omega (
      arith,
      c.len.ensures,
      c.rows_up_to.ensures,
      ap (rows_up_to c.args.num_docs) docs,
      c.if-len-rows_up_to.false,
    ) in
    is-full c.args.num_docs c.self.inside.docs c.never_fall.ensures (sym c.is_rising.ensures ∙ c.if-not-is_rising.false) many
    ∙ ap (cardinality_by c.args.num_docs) (sym docs)
