use Rattle.std.proofs.Common.{◌≡◌, ◌+◌, ◌-◌, min, ap, ◌∙◌, arith}
use Rattle.col_model.specs.Positions.{rank}
use Rattle.col_index.proofs.RankedLemmas.{rank_clamped}
use Rattle.col_index.proofs.run_starts.RunStarts.count_upto.Goals as goal

pub returns : goal.returns
returns c =
    let s = c.args.self.now in
    let clamped : c.min.result ≡ min c.args.row_id (s.num_rows - 1) =
    omega (arith, c.min.ensures, c.saturating_sub.ensures, c.num_docs-num_docs.ensures) in
    c.count_among.ensures ∙ ap (λ row. rank s.rows (row + 1)) clamped ∙ rank_clamped s c.args.row_id c.rows_rise.ensures
