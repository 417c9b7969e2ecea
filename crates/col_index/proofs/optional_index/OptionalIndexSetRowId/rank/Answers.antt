use Rattle.std.proofs.Common.{sym, ap, ◌∙◌}
use Rattle.col_model.specs.Index.{RowSet}
use Rattle.col_model.specs.Positions.{rank}
use Rattle.col_index.specs.Held.{set_held}
use Rattle.col_index.proofs.RankedLemmas.{bits_fit, bits_rank}
use Rattle.col_index.proofs.optional_index.OptionalIndexSetRowId.rank.Goals as goal

pub rank-requires-then-reaches-clause-fits : goal.rank-requires-then-reaches-clause-fits
rank-requires-then-reaches-clause-fits c =
    let i = c.self.inside in
    bits_fit (set_held i.held) i.num_rows i.bits.words.items i.bits.before.items c.self.invariant c.args.row_id
    (sym c.reaches.ensures ∙ c.if-reaches.true)

pub returns-then-reaches : goal.returns-then-reaches
returns-then-reaches c =
    let i = c.self.inside in
    c.rank-then-reaches.ensures
    ∙ bits_rank (set_held i.held) i.num_rows i.bits.words.items i.bits.before.items c.self.invariant c.args.row_id
    (sym c.reaches.ensures ∙ c.if-reaches.true)
    ∙ ap (λ (s : RowSet). rank s.rows c.args.row_id) c.self.view_is
