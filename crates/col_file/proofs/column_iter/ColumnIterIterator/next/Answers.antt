use Rattle.std.proofs.Common.{◌+◌, refl, sym, ◌∙◌}
use Rattle.col_file.proofs.ListLemmas.{drop-listed}
use Rattle.col_file.proofs.column_iter.ColumnIterIterator.next.Goals as goal

pub returns-clause-steps : goal.returns-clause-steps
returns-clause-steps c =
    sym c.self.view_is ∙ drop-listed c.self.inside.keys.now.entries c.self.inside.next (c.self.inside.next + 1)
    c.name_at.result.now c.handle_at.result refl c.name_at.ensures c.handle_at.ensures
