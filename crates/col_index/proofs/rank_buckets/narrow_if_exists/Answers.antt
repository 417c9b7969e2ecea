use Rattle.std.proofs.Common.{sym, subst, ap, ◌∙◌}
use Rattle.col_model.specs.Positions.{rank}
use Rattle.col_numbers.specs.Readers.{list_of}
use Rattle.col_index.specs.Search.{IsNarrowed}
use Rattle.col_index.proofs.rank_buckets.narrow_if_exists.Goals as goal

pub narrow-rank-requires-clause-narrowed : goal.narrow-rank-requires-clause-narrowed
narrow-rank-requires-clause-narrowed c =
    subst (λ row. IsNarrowed (list_of c.args.rows.now) row c.args.low c.args.high) (sym c.from.ensures)
    c.requires.narrowed

pub is_listed_at-requires-clause-at : goal.is_listed_at-requires-clause-at
is_listed_at-requires-clause-at c = c.narrow-rank.ensures ∙ ap (rank (list_of c.args.rows.now)) c.from.ensures
