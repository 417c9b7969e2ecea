use Rattle.std.proofs.Common.{arith, ap, sym, ◌∙◌, ◌≡◌, true}
use Rattle.std.specs.Prelude.{◌==◌}
use Rattle.std.specs.Vec.{vec_len}
use Rattle.col_writer_columns.specs.Cardinalities.{rows_up_to}
use Rattle.col_writer_columns.proofs.PostedLemmas.{docs-zip}
use Rattle.col_writer_columns.proofs.CardinalityLemmas.{rows-found, rows-none}
use Rattle.col_writer_columns.proofs.column_writer.ColumnWriter.rows_up_to.Goals as goal

pub returns-then-is_empty : goal.returns-then-is_empty
returns-then-is_empty g c =
    let docs = docs-zip c.self.inside.docs c.self.inside.values.items c.args.self.now c.self.view_is c.self.invariant.many in
    let empty : (vec_len c.self.inside.values == 0) ≡ true = sym c.is_empty.ensures ∙ c.if-is_empty.true in
    let none : vec_len c.self.inside.values ≡ 0 = grind arith in
    c.from-rows.ensures ∙ rows-none c.args.num_docs c.self.inside.docs
    (omega (arith, none, c.self.inside.values.ok.0, c.self.invariant.many))
    ∙ ap (rows_up_to c.args.num_docs) (sym docs)

pub returns : goal.returns
returns g c =
    let docs = docs-zip c.self.inside.docs c.self.inside.values.items c.args.self.now c.self.view_is c.self.invariant.many in
    rows-found c.args.num_docs c.self.inside.docs _ c.get-last.result c.max.result
    (omega (arith, c.len.ensures, c.self.inside.values.ok.0, c.self.invariant.many)) c.get-last.ensures
    (omega (arith, c.max.ensures, c.from.ensures, c.from-rows.ensures))
    ∙ ap (rows_up_to c.args.num_docs) (sym docs)
