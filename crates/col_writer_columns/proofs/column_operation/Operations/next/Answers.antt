use Rattle.std.proofs.Common.{arith, sym, ◌∙◌}
use Rattle.col_writer_columns.proofs.OperationLemmas.{none-left, next-doc, next-value}
use Rattle.col_writer_columns.proofs.column_operation.Operations.next.Goals as goal

pub returns-then-self : goal.returns-then-self
returns-then-self g c =
    let none = none-left c.self.inside.docs.now c.self.inside.values.now c.self.inside.at c.self.inside.told
    c.args.self.now c.self.view_is c.self.invariant (omega arith) in
    (none, none)

pub returns-then-not-is_told : goal.returns-then-not-is_told
returns-then-not-is_told g c =
    next-doc c.self.inside.docs.now c.self.inside.values.now c.self.inside.at c.get-doc.result c.self.inside.told
    c.args.self.now c.self.view_is c.self.invariant c.get-doc.ensures
    (sym c.is_told.ensures ∙ c.if-not-is_told.true)

pub returns : goal.returns
returns g c =
    next-value c.self.inside.docs.now c.self.inside.values.now c.self.inside.at c.get-doc.result
    c.index-self-self.result c.self.inside.told c.args.self.now c.self.view_is c.self.invariant c.get-doc.ensures
    (sym c.is_told.ensures ∙ c.if-not-is_told.false)
