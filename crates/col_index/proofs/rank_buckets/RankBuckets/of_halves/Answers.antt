use Rattle.std.proofs.Common.{[], ◌∷◌, sym, ap, subst, ◌∙◌, arith}
use Rattle.col_numbers.specs.Readers.{list_of}
use Rattle.col_index.specs.Ranks.{AreBuckets}
use Rattle.col_index.proofs.RankedLemmas.{halves}
use Rattle.col_index.proofs.rank_buckets.RankBuckets.of_halves.Goals as goal

pub returns-clause-ranks : goal.returns-clause-ranks
returns-clause-ranks c =
    let counted = halves (record { num_rows = c.args.num_rows; rows = list_of c.args.rows.now }) c.narrow-middle.result
    c.requires (omega arith) c.narrow-middle.ensures in
    subst (AreBuckets (list_of c.args.rows.now) c.args.num_rows 31)
    (ap (λ n. 0 ∷ c.narrow-middle.result ∷ n ∷ []) (sym c.num_vals-count.ensures) ∙ sym c.in_ok-vec.ensures.items) counted
