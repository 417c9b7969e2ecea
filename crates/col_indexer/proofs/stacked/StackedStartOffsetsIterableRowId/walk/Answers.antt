use Rattle.std.proofs.Common.{◌≡◌, drop, ap, ◌∙◌, arith}
use Rattle.col_common.specs.declared.iterable.Walk.{Walk}
use Rattle.col_model.specs.Positions.{starts_after, starts_of}
use Rattle.col_indexer.specs.Stacks.{Segments, stacked_counts, counts_from, stacked_offsets_to_give}
use Rattle.col_indexer.proofs.StackedOffsetLemmas.{offset-front}
use Rattle.col_indexer.proofs.stacked.StackedStartOffsetsIterableRowId.walk.Goals as goal

-- a walk at the front has all offsets to give
front : (s : Segments) (w : Walk) → w.segment ≡ 0 → w.place ≡ 0 → w.sum ≡ 0 → stacked_offsets_to_give s w ≡ starts_of (stacked_counts s)
unfolding starts_of
front s w e f g =
    ap (λ k. drop w.place (starts_after w.sum (counts_from s k))) e
    ∙ ap (λ n. drop n (starts_after w.sum (counts_from s 0))) f
    ∙ ap (λ n. starts_after n (counts_from s 0)) g

pub returns-clause-front : goal.returns-clause-front
returns-clause-front c = front c.args.self.now c.default.result (omega arith) (omega arith) (omega arith)

pub returns-clause-stands : goal.returns-clause-stands
returns-clause-stands c = offset-front c.args.self.now c.default.result (omega arith) (omega arith) (omega arith) (omega arith)
