use Rattle.std.proofs.Common.{arith}
use Rattle.col_bits.proofs.RaisedLemmas.{most_32}
use Rattle.col_bits.proofs.InPlaceLemmas.{above_four}
use Rattle.col_bits.proofs.GroupLemmas.{mask_is}
use Rattle.col_bits.proofs.in_place.above.Goals as goal

pub returns : goal.returns
returns g c =
    let is = mask_is g.row.W (omega (arith, most_32 g.row.W c.requires.width)) in
    above_four c.args.data.now g.row.W c.args.group c.args.from c.args.low _ c.words_of-words.result c.raised.result
    c.raised-2.result c.requires.width is c.words_of-words.ensures c.raised.ensures c.raised-2.ensures
