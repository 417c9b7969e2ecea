use Rattle.std.proofs.Common.{◌^◌, sym, subst}
use Rattle.std.proofs.lemmas.Nat.{pow_pos}
use Rattle.col_numbers.specs.Readers.{list_of}
use Rattle.col_index.specs.Search.{IsNarrowed}
use Rattle.col_index.proofs.PartLemmas.{part_narrowed}
use Rattle.col_index.proofs.LowLemmas.{part_of}
use Rattle.col_index.proofs.rank_buckets.RankBuckets.rank.Goals as goal

pub narrow-requires-clause-narrowed : goal.narrow-requires-clause-narrowed
narrow-requires-clause-narrowed c =
    let rows = list_of c.args.rows.now in
    let part = c.part_of-part.result in
    subst (λ row. IsNarrowed rows row part.start part.end) (sym c.from.ensures) (part_narrowed rows
    (2 ^ c.args.self.now.shift) c.args.row part.start part.end (pow_pos c.args.self.now.shift) c.requires.rising
    c.part_of-part.ensures.start c.part_of-part.ensures.end)

pub rank_by_lows-requires-clause-part : goal.rank_by_lows-requires-clause-part
rank_by_lows-requires-clause-part c =
    part_of (list_of c.args.rows.now) c.args.self.now.shift c.args.row c.part_of-part.result.start
    c.part_of-part.result.end c.if-self-gt-LOW_BITS.false c.requires.rising c.part_of-part.ensures.start
    c.part_of-part.ensures.end
