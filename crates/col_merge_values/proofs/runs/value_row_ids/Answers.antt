use Rattle.col_merge_values.proofs.RunLemmas.{row-positions}
use Rattle.col_merge_values.proofs.runs.value_row_ids.Goals as goal

pub returns : goal.returns
returns g c =
    row-positions (g.S.Segments.columns c.args.segments.now) c.args.order.now.counts c.args.addr
    c.value_row_ids.result.start c.value_row_ids.result.end c.requires.columns c.requires.there
    c.value_row_ids.ensures.start c.value_row_ids.ensures.end
