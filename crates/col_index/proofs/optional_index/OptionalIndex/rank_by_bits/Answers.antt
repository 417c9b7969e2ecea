use Rattle.std.proofs.Common.{rules, ◌≡◌, true, sym, ap, ◌∙◌}
use Rattle.col_model.specs.Index.{RowSet}
use Rattle.col_model.specs.Positions.{rank}
use Rattle.col_index.specs.Held.{set_held}
use Rattle.col_index.specs.Sets.{holds}
use Rattle.col_index.proofs.RankedLemmas.{bits_fit, bits_rank, bits_hold}
use Rattle.col_index.proofs.optional_index.OptionalIndex.rank_by_bits.Goals as goal

pub rank-requires-clause-fits : goal.rank-requires-clause-fits
rank-requires-clause-fits c =
    let i = c.self.inside in
    bits_fit (set_held i.held) i.num_rows i.bits.words.items i.bits.before.items c.self.invariant c.args.row_id
    (sym c.reaches.ensures ∙ c.if-reaches.true)

pub returns-then-holds : goal.returns-then-holds
returns-then-holds c =
    let i = c.self.inside in
    let reached = sym c.reaches.ensures ∙ c.if-reaches.true in
    let ranked : c.rank.result ≡ rank c.args.self.now.rows c.args.row_id =
    c.rank.ensures
    ∙ bits_rank (set_held i.held) i.num_rows i.bits.words.items i.bits.before.items c.self.invariant c.args.row_id
    reached
    ∙ ap (λ (s : RowSet). rank s.rows c.args.row_id) c.self.view_is in
    let held : holds c.args.self.now.rows c.args.row_id ≡ true =
    ap (λ (s : RowSet). holds s.rows c.args.row_id) (sym c.self.view_is)
    ∙ sym (bits_hold (set_held i.held) i.num_rows i.bits.words.items i.bits.before.items c.self.invariant c.args.row_id
    reached)
    ∙ sym c.holds.ensures ∙ c.if-holds.true in
    search rules
