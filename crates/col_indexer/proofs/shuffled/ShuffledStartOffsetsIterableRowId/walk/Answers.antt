use Rattle.col_indexer.specs.Shuffles.{shuffled_counts}
use Rattle.col_indexer.proofs.ShuffleLemmas.{sums-front}
use Rattle.col_indexer.proofs.shuffled.ShuffledStartOffsetsIterableRowId.walk.Goals as goal

pub returns-clause-front : goal.returns-clause-front
returns-clause-front c =
    sums-front (shuffled_counts c.args.self.now) c.default.result c.default.ensures.1.0 c.default.ensures.1.1.0
    c.default.ensures.1.1.1
