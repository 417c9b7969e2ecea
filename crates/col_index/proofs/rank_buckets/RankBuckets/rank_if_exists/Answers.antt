use Rattle.std.proofs.Common.{◌^◌}
use Rattle.std.proofs.lemmas.Nat.{pow_pos}
use Rattle.col_numbers.specs.Readers.{list_of}
use Rattle.col_index.proofs.PartLemmas.{part_narrowed}
use Rattle.col_index.proofs.LowLemmas.{part_of}
use Rattle.col_index.proofs.rank_buckets.RankBuckets.rank_if_exists.Goals as goal

pub narrow_if_exists-requires-clause-narrowed : goal.narrow_if_exists-requires-clause-narrowed
narrow_if_exists-requires-clause-narrowed c =
    part_narrowed (list_of c.args.rows.now) (2 ^ c.args.self.now.shift) c.args.row c.part_of-part.result.start
    c.part_of-part.result.end (pow_pos c.args.self.now.shift) c.requires.rising c.part_of-part.ensures.start
    c.part_of-part.ensures.end

pub rank_by_lows_if_exists-requires-clause-part : goal.rank_by_lows_if_exists-requires-clause-part
rank_by_lows_if_exists-requires-clause-part c =
    part_of (list_of c.args.rows.now) c.args.self.now.shift c.args.row c.part_of-part.result.start
    c.part_of-part.result.end c.if-self-gt-LOW_BITS.false c.requires.rising c.part_of-part.ensures.start
    c.part_of-part.ensures.end
