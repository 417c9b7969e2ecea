use Rattle.col_index.proofs.PositionLemmas.{set-docs, set-positions}
use Rattle.col_index.proofs.optional_index.OptionalIndex.push_positions.Goals as goal

pub returns : goal.returns
returns c =
    rw (
      set-docs c.args.self.now c.rows_rise.ensures c.args.docs.now,
      set-positions c.args.self.now c.rows_rise.ensures c.args.docs.now,
    ) c.push_ranks.ensures
