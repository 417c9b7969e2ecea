use Rattle.std.proofs.Common.{ap, sym, Some, ◌∙◌}
use Rattle.col_common.proofs.BufferLemmas.{read_back}
use Rattle.col_common.proofs.in_memory.SourceInMemorySource.read.Goals as goal

pub returns-clause-taken : goal.returns-clause-taken
returns-clause-taken c =
    let count = rw c.deref.ensures.value at c.min-count.ensures in
    let given = rw c.deref.ensures.value at c.copy_from_slice.ensures.after in
    ap Some (sym c.self.view_is) ∙ ap Some (read_back _ _ _ _ _ _ count given)
