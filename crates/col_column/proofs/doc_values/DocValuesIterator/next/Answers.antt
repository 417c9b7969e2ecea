use Rattle.std.proofs.Common.{sym, ◌∙◌, arith}
use Rattle.col_column.proofs.FirstLemmas.{range_step}
use Rattle.col_column.proofs.doc_values.DocValuesIterator.next.Goals as goal

pub returns-clause-steps : goal.returns-clause-steps
returns-clause-steps g c =
    let at = c.self.inside in
    sym c.self.view_is
    ∙ range_step (g.V.ColumnValues.values at.values.now) at.next at.«end» c.get_val.result c.get_val.ensures
    (omega (arith, c.if-self.false, c.self.invariant.0)) c.self.invariant.1
