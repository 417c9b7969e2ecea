use Rattle.std.proofs.Common.{◌≡◌, drop, ap, ◌∙◌, arith}
use Rattle.col_common.specs.declared.iterable.Walk.{Walk}
use Rattle.col_model.specs.Positions.{rows_with_value}
use Rattle.col_indexer.specs.Counted.{rows_behind}
use Rattle.col_indexer.specs.Stacks.{Segments, stacked_counts, counts_from, stacked_rows_to_give}
use Rattle.col_indexer.proofs.CollectedLemmas.{rows-front}
use Rattle.col_indexer.proofs.StackedWalkLemmas.{row-front}
use Rattle.col_indexer.proofs.stacked.StackedRowIdsIterableRowId.walk.Goals as goal

pub returns-clause-stands : goal.returns-clause-stands
returns-clause-stands c = row-front c.args.self.now c.default.result (omega arith) (omega arith) (omega arith) (omega arith)

-- a walk at the front has all rows to give
front : (s : Segments) (w : Walk) → w.segment ≡ 0 → w.place ≡ 0 → w.sum ≡ 0
    → stacked_rows_to_give s w ≡ rows_with_value (stacked_counts s)
front s w e f g =
    ap (λ k. drop w.place (rows_behind w.sum (counts_from s k))) e
    ∙ ap (λ n. drop n (rows_behind w.sum (counts_from s 0))) f
    ∙ ap (λ n. rows_behind n (counts_from s 0)) g
    ∙ rows-front s

pub returns-clause-front : goal.returns-clause-front
returns-clause-front c = front c.args.self.now c.default.result (omega arith) (omega arith) (omega arith)
