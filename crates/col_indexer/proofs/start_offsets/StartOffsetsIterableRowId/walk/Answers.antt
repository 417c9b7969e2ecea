use Rattle.std.proofs.Common.{sym, subst, arith}
use Rattle.col_index.specs.MultiValues.{value_counts_of}
use Rattle.col_indexer.specs.OffsetViews.{OffsetsStand}
use Rattle.col_indexer.proofs.StackedOffsetLemmas.{start-front}
use Rattle.col_indexer.proofs.start_offsets.StartOffsetsIterableRowId.walk.Goals as goal

pub returns-in-Index-clause-stands : goal.returns-in-Index-clause-stands
returns-in-Index-clause-stands c =
    subst (λ starts. OffsetsStand starts c.default.result) (sym c.in-Index.is)
    (start-front (value_counts_of c.in-Index.field-0.now) c.default.result (omega arith) (omega arith))
