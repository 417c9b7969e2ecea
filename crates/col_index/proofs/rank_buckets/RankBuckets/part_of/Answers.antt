use Rattle.std.proofs.Common.{◌/◌, ◌+◌, ◌^◌, ◌∙◌, arith}
use Rattle.std.proofs.lemmas.List.{get_or_read}
use Rattle.col_index.proofs.PartLemmas.{part-followed}
use Rattle.col_index.proofs.rank_buckets.RankBuckets.part_of.Goals as goal

pub returns-clause-start : goal.returns-clause-start
returns-clause-start c =
    let before = c.args.self.now.before.items in
    let part = c.args.row / 2 ^ c.args.self.now.shift in
    let followed = part-followed _ before c.args.num_rows _ c.args.row c.requires.buckets (omega arith) in
    get_or_read before part c.index.result.now (omega arith) c.index.ensures 0
    ∙ c.requires.buckets.counts.each part (omega arith)

pub returns-clause-end : goal.returns-clause-end
returns-clause-end c =
    let before = c.args.self.now.before.items in
    let part = c.args.row / 2 ^ c.args.self.now.shift in
    let followed = part-followed _ before c.args.num_rows _ c.args.row c.requires.buckets (omega arith) in
    get_or_read before (part + 1) c.index-2.result.now followed c.index-2.ensures 0
    ∙ c.requires.buckets.counts.each (part + 1) followed
