use Rattle.std.proofs.Common.{refl}
use Rattle.col_bits.proofs.BroughtLemmas.{words_four}
use Rattle.col_bits.proofs.in_place.words_of.Goals as goal

pub returns : goal.returns
returns g c =
    words_four c.args.data.now g.row.W c.args.start c.args.from _ _ _ (λ k. (c.type_inv.«data» k).fits) c.requires.width
    refl refl refl
