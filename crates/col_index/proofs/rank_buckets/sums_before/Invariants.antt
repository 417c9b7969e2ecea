use Rattle.std.proofs.Common.{◌≡◌, sum, take}
use Rattle.col_index.specs.Ranks.{IsTableOf}
use Rattle.col_index.proofs.rank_buckets.sums_before.Given as goal

-- the sums so far, and the next
abbrev pub invariant-loop-count : goal.invariant-loop-count
invariant-loop-count l =
    record {
      sums : IsTableOf (λ part. sum (take part l.counts)) l.count-index l.before.items;
      total : l.total ≡ sum (take l.count-index l.counts);
    }
