use Rattle.std.proofs.Common.{sym, ap, ◌∙◌}
use Rattle.col_model.specs.Index.{RowSet}
use Rattle.col_model.specs.Positions.{rank}
use Rattle.col_index.specs.Held.{set_held}
use Rattle.col_index.proofs.RankedLemmas.{bits_fit, bits_rank}
use Rattle.col_index.proofs.optional_index.OptionalIndex.rank_and_contains.Goals as goal

pub rank-requires-clause-fits : goal.rank-requires-clause-fits
rank-requires-clause-fits c =
    let i = c.self.inside in
    bits_fit (set_held i.held) i.num_rows i.bits.words.items i.bits.before.items c.self.invariant c.args.row_id
    (sym c.reaches.ensures ∙ c.if-reaches.true)

pub returns-then-reaches-clause-rank : goal.returns-then-reaches-clause-rank
returns-then-reaches-clause-rank c =
    let i = c.self.inside in
    c.rank.ensures
    ∙ bits_rank (set_held i.held) i.num_rows i.bits.words.items i.bits.before.items c.self.invariant c.args.row_id
    (sym c.reaches.ensures ∙ c.if-reaches.true)
    ∙ ap (λ (s : RowSet). rank s.rows c.args.row_id) c.self.view_is
