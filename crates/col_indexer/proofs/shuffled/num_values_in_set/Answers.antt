use Rattle.std.proofs.Common.{cond, sym, ap, ◌∙◌}
use Rattle.col_index.proofs.CountLaws.{set_counts-at}
use Rattle.col_indexer.proofs.shuffled.num_values_in_set.Goals as goal

pub returns-then-contains : goal.returns-then-contains
returns-then-contains c =
    sym (set_counts-at c.args.index.now c.rows_rise.ensures c.args.row ∙ ap (λ b. cond b 1 0) (sym c.contains.ensures ∙ c.if-contains.true))

pub returns-else-contains : goal.returns-else-contains
returns-else-contains c =
    sym (set_counts-at c.args.index.now c.rows_rise.ensures c.args.row
    ∙ ap (λ b. cond b 1 0) (sym c.contains.ensures ∙ c.if-contains.false))
