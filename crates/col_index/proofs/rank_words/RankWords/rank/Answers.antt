use Rattle.std.proofs.Common.{arith}
use Rattle.col_index.proofs.RankWordLemmas.{read_below}
use Rattle.col_index.proofs.rank_words.RankWords.rank.Goals as goal

pub overflow_add-result : goal.overflow_add-result
overflow_add-result c =
    let s = c.args.self.now in
    let read = read_below s.words.items s.before.items c.args.row c.index.result.now c.index-2.result.now
    c.requires.long c.requires.row c.index.ensures c.index-2.ensures in
    omega (arith, read, c.requires.fits)

pub returns : goal.returns
returns c =
    let s = c.args.self.now in
    read_below s.words.items s.before.items c.args.row c.index.result.now c.index-2.result.now c.requires.long
    c.requires.row c.index.ensures c.index-2.ensures
